-- Orders whose turn would change nothing need none. Holds of every book, in order or not. Assumes nothing.
--     Idle b i            the turn of the order at i leaves the book b as it is, and is not reported
--     turn_fewer          a turn leaves fewer that wait for theirs
--     turns_skip          the turns go on after m, where those that arrived up to m are idle
--     turns_rest          nothing more happens, where all that are left are idle
use Rattle.std.proofs.Common.{◌≡◌, ℕ, zero, suc, ◌-◌, ◌<◌, ◌≤◌, Bool, true, false, ◌≢◌, ◌⊎◌, List, [], ◌++◌, length, set, Some, sum_by, sym, refl, ap, ◌∙◌, subst, inl, inr, arith, length-set}
use Rattle.std.proofs.lemmas.Bool.{cases_eq, cases_lt, ltb-false, cond_both, both_ways}
use Rattle.std.proofs.lemmas.List.Sums.{sum_by-set, get_or-le-sum_by}
use Rattle.std.proofs.lemmas.List.MinMax.{IsStrictWeakOrder-by_number}
use Rattle.values.specs.declared.reports.Report.{Report}
use Rattle.rules.specs.declared.Order.{Order}
use Rattle.rules.specs.declared.Bests.{Bests}
use Rattle.rules.specs.declared.Prices.{Prices}
use Rattle.rules.specs.Book.{free, at, Live, live, priced, with_rem, pick}
use Rattle.rules.specs.Trading.{trade}
use Rattle.rules.specs.Routing.{total, nowhere}
use Rattle.rules.specs.Resting.{Out, rest_at, settle, turn}
use Rattle.rules.specs.Quoting.{later, earlier, turns}
use Rattle.trading_laws.specs.Books.{Low, Stems}
use Rattle.trading_laws.proofs.Slots.{picked, branch_both, at_same, at_other, live_within}
use Rattle.trading_laws.proofs.Trade.{trade_length, trade_taker, trade_lowers}
use Rattle.trading_laws.proofs.Reports.{sum_mono}
use Rattle.trading_laws.proofs.Telling.{waiting, later_parts, later_from, stems_low, Next}

-- ---- who waits
pub next_is : (a : ℕ) (b : List Order) → Next a b (pick (later a) earlier b (length b))
next_is a b = picked (later a) earlier (IsStrictWeakOrder-by_number (λ o. o.arrival)) b (length b)

-- one that has its turn waits no more, and nobody else begins to wait
fewer : (a : ℕ) (b c : List Order) (i : ℕ) → later a (at b i) ≡ true → length c ≡ length b → Stems b c → sum_by (waiting (at b i).arrival) c < sum_by (waiting a) b
fewer a b c i h long stems =
    let t = at b i in
    let own = later_parts a t h in
    let within = live_within b i own.0 in
    let one : waiting a t ≡ 1 = rw h refl in
    let mono : sum_by (waiting t.arrival) c ≤ sum_by (waiting a) (set b i free) = sum_mono (waiting a) (waiting t.arrival) (set b i free) c (long ∙ sym (length-set b i free)) less in
    omega (arith, mono, sum_by-set (waiting a) b i free free within, one)
  where
    less : (j : ℕ) → waiting (at b i).arrival (at c j) ≤ waiting a (at (set b i free) j)
    less j =
        cond_both (later (at b i).arrival (at c j)) 1 0 (λ n. n ≤ waiting a (at (set b i free) j))
        (λ y.
        let p = later_parts (at b i).arrival (at c j) y in
        let q = stems j p.0 in
        let n : j ≢ i = λ z. omega (arith, p.1, q.1, ap (λ k. (at b k).arrival) z) in
        let g : later a (at (set b i free) j) ≡ true = rw (at_other b i free j n) (later_from a (at b j) q.0 (omega (arith, p.1, q.1, (later_parts a (at b i) h).1))) in
        rw g (omega arith))
        (λ _. omega arith)

-- whoever is found waits
pub found_waits : (a : ℕ) (b : List Order) (i : ℕ) → Some i ≡ pick (later a) earlier b (length b) → later a (at b i) ≡ true
found_waits a b i h = (subst (Next a b) (sym h) (next_is a b)).0

pub nobody_waits : (a : ℕ) (b : List Order) → sum_by (waiting a) b ≤ 0 → (j : ℕ) → later a (at b j) ≡ true → ⊥
nobody_waits a b few j h =
    let one : waiting a (at b j) ≡ 1 = rw h refl in
    omega (arith, few, one, get_or-le-sum_by (waiting a) b j free (live_within b j (later_parts a (at b j) h).0))

pub waits_less : (a m : ℕ) (b : List Order) → a ≤ m → sum_by (waiting m) b ≤ sum_by (waiting a) b
waits_less a m b up = sum_mono (waiting a) (waiting m) b b refl (λ j.
    cond_both (later m (at b j)) 1 0 (λ n. n ≤ waiting a (at b j))
    (λ y. let p = later_parts m (at b j) y in let g : later a (at b j) ≡ true = later_from a (at b j) p.0 (omega (arith, p.1, up)) in rw g (omega arith))
    (λ _. omega arith))

stems_same : (b : List Order) → Stems b b
stems_same b j l = (l, refl)

module _ (e : Bests) (R : ℕ → Bool) (old : List Order) where
  -- ---- what a turn leaves in the places
  record Seated (i : ℕ) (t : Order) (b : List Order) (r : Out) : Type 0 where
    pub long : length r.book ≡ length b
    pub others : (j : ℕ) → j ≢ i → at r.book j ≡ at b j
    pub own : (at r.book i ≡ at b i) ⊎ ((at r.book i).arrival ≡ t.arrival)

  settle_seats : (i : ℕ) (before t : Order) (b : List Order) → i < length b → Seated i t b (settle e R i before t b)
  unfolding settle
  settle_seats i before t b within =
      cond_both (live t) _ _ (Seated i t b) (λ _. branch_both (rest_at e R t) _ _ (Seated i t b) (λ _. unmoved _) (λ p _. moved p _)) (λ _. unmoved _)
    where
      unmoved : (out : List Report) → Seated i t b (record { book = b; out = out })
      unmoved out = record { long = refl; others = λ j n. refl; own = inl refl }

      moved : (p : Prices) (out : List Report) → Seated i t b (record { book = set b i (priced t p.booked p.displayed); out = out })
      moved p out =
          let v = priced t p.booked p.displayed in
          record { long = length-set b i v; others = at_other b i v; own = inr (ap (λ o. o.arrival) (at_same b i v within)) }

  turn_stems : (b : List Order) (i : ℕ) (before : Order) → Live (at b i) → let r = turn e R nowhere i before (at b i) (set b i free) in (length r.book ≡ length b) × Stems b r.book
  unfolding turn
  turn_stems b i before l =
      let t = at b i in
      let c = set b i free in
      let n = length c in
      let d = trade n e t c in
      let u = with_rem d.taker (d.taker.remaining - total (nowhere d.taker)) in
      let low = trade_lowers e n t c in
      let within = live_within b i l in
      let long = trade_length e n t c ∙ length-set b i free in
      let s : Seated i u d.book (settle e R i before u d.book) = settle_seats i before u d.book (omega (arith, long, within)) in
      let r = settle e R i before u d.book in
      let dead : Live (at d.book i) → ⊥ = λ m. let z : 0 < 0 = subst Live (at_same b i free within) ((low i).live m) in omega arith in (
        s.long ∙ long,
        λ j. elim (cases_eq j i) [
          | inl y ↦ subst (λ k. Live (at r.book k) → Live (at b k) × ((at r.book k).arrival ≡ (at b k).arrival)) (sym y)
              (λ m. elim s.own [ inl z ↦ absurd (dead (subst Live z m)) | inr z ↦ (l, z ∙ ap (λ o. o.arrival) (trade_taker e n t c)) ])
          | inr n ↦ λ m.
              let f : Low (at b j) (at d.book j) = subst (λ o. Low o (at d.book j)) (at_other b i free j n) (low j) in
              let k = subst Live (s.others j n) m in
              let g = stems_low b d.book j f k in
              (g.0, ap (λ o. o.arrival) (s.others j n) ∙ g.1)
        ],
      )

  -- a turn leaves fewer that wait for theirs
  pub turn_fewer : (a : ℕ) (b : List Order) (i : ℕ) (before : Order) → later a (at b i) ≡ true → sum_by (waiting (at b i).arrival) (turn e R nowhere i before (at b i) (set b i free)).book < sum_by (waiting a) b
  turn_fewer a b i before h =
      let f = turn_stems b i before (later_parts a (at b i) h).0 in
      fewer a b (turn e R nowhere i before (at b i) (set b i free)).book i h f.0 f.1

  -- ---- idle orders
  abbrev pub Idle : List Order → ℕ → Type 0
  Idle b i = let r = turn e R nowhere i (at old i) (at b i) (set b i free) in (r.book ≡ b) × (r.out ≡ [])

  -- those that arrived after a, up to m
  abbrev pub AllIdle : ℕ → ℕ → List Order → Type 0
  AllIdle a m b = (j : ℕ) → later a (at b j) ≡ true → (at b j).arrival ≤ m → Idle b j

  abbrev went : ℕ → ℕ → List Order → List Report → Out
  went n x b out = let s = turns n e R x old b in record { book = s.book; out = out ++ s.out }

  skips : (n x : ℕ) (b c : List Order) (out : List Report) → c ≡ b → out ≡ [] → went n x c out ≡ turns n e R x old b
  skips n x b c out f g = rw (f, g) refl

  -- nothing more happens, where all that are left are idle
  pub turns_rest : (n a : ℕ) (b : List Order) → ((j : ℕ) → later a (at b j) ≡ true → Idle b j) → turns n e R a old b ≡ record { book = b; out = [] }
  unfolding turns
  turns_rest zero a b idle = refl
  turns_rest (suc n) a b idle =
      branch_both (pick (later a) earlier b (length b)) _ _ (λ (r : Out). r ≡ record { book = b; out = [] }) (λ _. refl)
      (λ i y.
      let next = subst (Next a b) y (next_is a b) in
      let own = idle i next.0 in
      let x = (at b i).arrival in
      skips n x b _ _ own.0 own.1 ∙ turns_rest n x b (λ j l. let p = later_parts x (at b j) l in idle j (later_from a (at b j) p.0 (omega (arith, p.1, (later_parts a (at b i) next.0).1)))))

  -- ---- the same search
  pick_same : (c d : Order → Bool) (b : List Order) → ((j : ℕ) → c (at b j) ≡ d (at b j)) → (k : ℕ) → pick c earlier b k ≡ pick d earlier b k
  unfolding pick
  pick_same c d b h zero = refl
  pick_same c d b h (suc k) = rw (h k, pick_same c d b h k) refl

  later_same : (a m : ℕ) (b : List Order) → a ≤ m → ((j : ℕ) → later a (at b j) ≡ true → m < (at b j).arrival) → (j : ℕ) → later m (at b j) ≡ later a (at b j)
  later_same a m b up all j = go (later a (at b j)) (later m (at b j)) refl refl
    where
      go : (x y : Bool) → later a (at b j) ≡ x → later m (at b j) ≡ y → later m (at b j) ≡ later a (at b j)
      go true true f g = g ∙ sym f
      go false false f g = g ∙ sym f
      go true false f g = absurd (both_ways _ g (later_from m (at b j) (later_parts a (at b j) f).0 (all j f)))
      go false true f g = let p = later_parts m (at b j) g in absurd (both_ways _ f (later_from a (at b j) p.0 (omega (arith, p.1, up))))

  -- the turns go on after m, where those that arrived up to m are idle; k is the fuel then left
  abbrev pub Goes_on : ℕ → List Order → Out → Type 0
  Goes_on m b r = (k : ℕ) × (r ≡ turns k e R m old b) × (sum_by (waiting m) b ≤ k)

  pub turns_skip : (n a m : ℕ) (b : List Order) → a ≤ m → AllIdle a m b → sum_by (waiting a) b ≤ n → Goes_on m b (turns n e R a old b)
  unfolding turns
  turns_skip zero a m b up idle few = (zero, refl, omega (arith, few, waits_less a m b up))
  turns_skip (suc n) a m b up idle few =
      branch_both (pick (later a) earlier b (length b)) _ _ (Goes_on m b)
      (λ y.
      let none = subst (Next a b) y (next_is a b) in
      let same = pick_same (later m) (later a) b (later_same a m b up (λ j l. absurd (both_ways _ (none j (live_within b j (later_parts a (at b j) l).0)) l))) (length b) in
      (suc n, rw (same, y) refl, omega (arith, few, waits_less a m b up)))
      (λ i y.
      let next = subst (Next a b) y (next_is a b) in
      let x = (at b i).arrival in
      let own = later_parts a (at b i) next.0 in
      elim (cases_lt m x) [
        | inl far ↦
            let same = pick_same (later m) (later a) b (later_same a m b up (λ j l. omega (arith, far, ltb-false (at b j).arrival x (next.1 j (live_within b j (later_parts a (at b j) l).0) l)))) (length b) in
            (suc n, rw (same, y) refl, omega (arith, few, waits_less a m b up))
        | inr near ↦
            let still = idle i next.0 near in
            let rest = turns_skip n x m b near (λ j l. let p = later_parts x (at b j) l in idle j (later_from a (at b j) p.0 (omega (arith, p.1, own.1)))) (omega (arith, few, fewer a b b i next.0 refl (stems_same b))) in
            (rest.0, skips n x b _ _ still.0 still.1 ∙ rest.1, rest.2)
      ])
