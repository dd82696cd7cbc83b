-- An away quote: the clamp, and each order's turn. Assumes nothing.
--     turns_told          what the turns of step three do to a book whose orders may trade where they are booked
--     clamp_halfway       step two leaves such a book
--     quote_told          what both steps do to a book in order under any earlier away best
use Rattle.std.proofs.Common.{◌≡◌, ℕ, zero, suc, ◌<◌, ◌≤◌, Bool, true, cond, ◌≢◌, List, [], ◌∷◌, map, length, get_or, set, Some, None, sum_by, Option, sym, refl, ap, ◌∙◌, subst, ap₂, subst₂, inl, inr, arith, length-set}
use lib.ListN.{get_or-map, length-map}
use Rattle.std.proofs.lemmas.Bool.Decides.{nat_tests}
use Rattle.std.proofs.lemmas.Bool.{cases_eq, cases_lt, and_parts, and_from, ltb-true, ltb-false, cond_both, both_ways, lt-ltb}
use Rattle.std.proofs.lemmas.List.Sums.{sum_by-set, get_or-le-sum_by, count_by-le-length, sum_by-cons}
use Rattle.std.proofs.ByRecursion.{All-append}
use Rattle.std.proofs.lemmas.List.MinMax.{IsStrictWeakOrder-by_number}
use Rattle.values.specs.declared.terms.Side.{Side}
use Rattle.values.specs.declared.terms.Side.TheVariants.{Buy, Sell}
use Rattle.rules.specs.declared.Terms.{Terms}
use Rattle.rules.specs.declared.Order.{Order}
use Rattle.rules.specs.declared.Prices.{Prices}
use Rattle.rules.specs.declared.Bests.{Bests}
use Rattle.rules.specs.Sides.{ok, Ok, Past, facing}
use Rattle.rules.specs.Ladders.{behind}
use Rattle.rules.specs.Book.{free, at, Live, side_of, prices_of, priced, pick}
use Rattle.rules.specs.Routing.{total, nowhere}
use Rattle.rules.specs.Resting.{Turned, turn}
use Rattle.rules.specs.Quoting.{clamp, later, earlier, turns, quote}
use Rattle.rules.specs.Sizes.{share, part, resting, latest}
use Rattle.rules.specs.Law.{Fair}
use Rattle.trading_laws.specs.Books.{Holds, Held, Settled, Apart, Clear, Distinct, Numbered, Most, Clean, Low, Stems}
use Rattle.trading_laws.specs.Turns.{After, Told}
use Rattle.trading_laws.proofs.Bounds.{ok_false, ok_true, true_ok, ok_self, ok_trans}
use Rattle.trading_laws.proofs.Slots.{Picked, picked, branch_both, at_same, at_other, at_set, live_within}
use Rattle.trading_laws.proofs.Trade.{low_keeps, held_steady}
use Rattle.trading_laws.proofs.Reports.{filled-++, cancelled-++, away-++, latest-++, no_news-++, states_same, states-++, part_none, none_of, sum_mono}
use Rattle.trading_laws.proofs.Turn.{settled_steady, apart_sym, clear_set, turn_after}

-- ---- the places keep their orders
pub stems_trans : (b c d : List Order) → Stems b c → Stems c d → Stems b d
stems_trans b c d f g j l = let y = g j l in let x = f j y.0 in (x.0, y.1 ∙ x.1)

pub distinct_stems : (b c : List Order) → Stems b c → Distinct b → Distinct c
distinct_stems b c f h j k l m e = let x = f j l in let y = f k m in h j k x.0 y.0 (sym x.1 ∙ e ∙ y.1)

pub numbered_stems : (n : ℕ) (b c : List Order) → Stems b c → Numbered n b → Numbered n c
numbered_stems n b c f h j l = let x = f j l in subst (λ a. (0 < a) × (a ≤ n)) (sym x.1) (h j x.0)

pub stems_low : (b c : List Order) (j : ℕ) → Low (at b j) (at c j) → Live (at c j) → Live (at b j) × ((at c j).arrival ≡ (at b j).arrival)
stems_low b c j f l = (f.live l, ap (λ o. o.arrival) (f.same l))

-- ---- the clamp keeps sums
sum_map : (f : Order → ℕ) (g : Order → Order) → ((o : Order) → f (g o) ≡ f o) → (b : List Order) → sum_by f (map g b) ≡ sum_by f b
sum_map f g h [] = refl
sum_map f g h (x ∷ b) = omega (arith, sum_by-cons f x b, sum_by-cons f (g x) (map g b), h x, sum_map f g h b)

-- ---- step three
abbrev pub waiting : ℕ → Order → ℕ
waiting a o = cond (later a o) 1 0

pub later_parts : (a : ℕ) (o : Order) → later a o ≡ true → Live o × (a < o.arrival)
later_parts a o h = let p = and_parts _ _ h in (ltb-true 0 o.remaining p.0, ltb-true a o.arrival p.1)

pub later_from : (a : ℕ) (o : Order) → Live o → a < o.arrival → later a o ≡ true
later_from a o l h = and_from _ _ (lt-ltb 0 o.remaining l) (lt-ltb a o.arrival h)

-- the book before a turn: those up to a had theirs
pub record Halfway (e : Bests) (look : ℕ → Terms) (a : ℕ) (b : List Order) : Type 0 where
  pub held : Holds (Held e look) b
  pub clear : Clear b
  pub distinct : Distinct b
  pub settled : (j : ℕ) → Live (at b j) → (at b j).arrival ≤ a → Settled e look (at b j)

pub free_holds : (P : Order → Type 0) (b : List Order) (i : ℕ) → Holds P b → Holds P (set b i free)
free_holds P b i h j = at_set (λ o. Live o → P o) b i free j (λ m. absurd (omega arith)) (h j)

pub free_most : (b : List Order) (i : ℕ) → Most b → Most (set b i free)
free_most b i h = free_holds (λ o. o.remaining ≤ o.terms.size) b i h

pub free_clean : (b : List Order) (i : ℕ) → Clean b → Clean (set b i free)
free_clean b i h j = at_set (λ o. o.remaining ≡ 0 → o ≡ free) b i free j (λ _. refl) (h j)

pub free_clear : (b : List Order) (i : ℕ) → Clear b → Clear (set b i free)
free_clear b i h = clear_set b i free h (λ k m. absurd (omega arith))

abbrev pub Next : ℕ → List Order → Option ℕ → Type 0
Next a b o = Picked (later a) earlier b (length b) o

module _ (e : Bests) (R : ℕ → Bool) (look : ℕ → Terms) where
  nobody_waits : (a : ℕ) (old b : List Order) → Halfway e look a b → ((j : ℕ) → Live (at b j) → (at b j).arrival ≤ a) → Told e look a old b (record { book = b; out = [] })
  nobody_waits a old b h up = record {
    long = refl;
    stems = λ j m. (m, refl);
    settled = λ j m. h.settled j m (up j m);
    clear = h.clear;
    most = λ m. m;
    clean = λ m. m;
    sizes = λ x. omega arith;
    nothing_away = λ x. refl;
    nothing_new = refl;
    fair = tt;
    stated = tt;
    quiet = λ x p n. refl;
    shows = λ j p m now _. now (up j m);
  }

  module _ (a : ℕ) (b old : List Order) (h : Halfway e look a b) (i : ℕ) (next : Next a b (Some i)) where
    abbrev t : Order
    t = at b i

    abbrev c : List Order
    c = set b i free

    abbrev r : Turned
    r = turn e R nowhere i (at old i) t c

    live : Live t
    live = (later_parts a t next.0).0

    within : i < length b
    within = live_within b i live

    pub after : After e look nowhere i (at old i) t c r
    after = turn_after e R look nowhere (λ o. omega arith) i (at old i) t c (simp length-set within) (at_same b i free within) (h.held i live).known (free_holds (Held e look) b i h.held) (free_clear b i h.clear)

    low : (j : ℕ) → j ≢ i → Low (at b j) (at r.book j)
    low j ne = subst (λ o. Low o (at r.book j)) (at_other b i free j ne) (after.others j ne)

    -- no other has its number
    pub alone : resting t.arrival c ≡ 0
    alone = none_of t.arrival c (λ j. elim (cases_eq j i) [
      | inl y ↦ subst (λ k. Live (at c k) → (at c k).arrival ≢ t.arrival) (sym y) (λ m. let z : 0 < 0 = subst Live (at_same b i free within) m in absurd (omega arith))
      | inr n ↦ subst (λ o. Live o → o.arrival ≢ t.arrival) (sym (at_other b i free j n)) (λ m z. n (h.distinct j i m live z))
    ])

    -- what holds of i's order and of the others holds of all
    each : (P : Order → Type 0) (j : ℕ) → (Live (at r.book i) → P (at r.book i)) → (j ≢ i → Live (at r.book j) → P (at r.book j)) → Live (at r.book j) → P (at r.book j)
    each P j own other = elim (cases_eq j i) [ inl y ↦ subst (λ k. Live (at r.book k) → P (at r.book k)) (sym y) own | inr n ↦ other n ]

    pub turn_stems : Stems b r.book
    turn_stems j = elim (cases_eq j i) [
      | inl y ↦ subst (λ k. Live (at r.book k) → Live (at b k) × ((at r.book k).arrival ≡ (at b k).arrival)) (sym y) (λ m. (live, (after.own m).0))
      | inr n ↦ stems_low b r.book j (low j n)
    ]

    -- any other that is not later than this one has had its turn
    had : (j : ℕ) → j ≢ i → Live (at b j) → (at b j).arrival ≤ t.arrival → (at b j).arrival ≤ a
    had j n k up = elim (cases_lt a (at b j).arrival) [
      | inl y ↦ let f = ltb-false (at b j).arrival t.arrival (next.1 j (live_within b j k) (later_from a (at b j) k y)) in absurd (n (h.distinct j i k live (omega arith)))
      | inr y ↦ y
    ]

    pub turn_halfway : Halfway e look t.arrival r.book
    turn_halfway = record {
      held = λ j. each (Held e look) j (λ m. (after.own m).1.held) (λ n. low_keeps (Held e look) (low j n) (held_steady e look (at b j)) (h.held j));
      clear = after.clear;
      distinct = distinct_stems b r.book turn_stems h.distinct;
      settled = λ j. each (λ o. o.arrival ≤ t.arrival → Settled e look o) j (λ m _. (after.own m).1)
          (λ n m up. low_keeps (Settled e look) (low j n) (settled_steady e look (at b j)) (λ k. h.settled j k (had j n k (omega (arith, (turn_stems j m).1)))) m);
    }

    -- the last booking of an order that has had its turn has its prices
    pub turn_shows : (j : ℕ) (p : Prices) → Live (at r.book j) → ((at b j).arrival ≤ a → p ≡ prices_of (at b j)) → (a < (at b j).arrival → p ≡ prices_of (at old j)) → (at b j).arrival ≤ t.arrival → latest (at b j).arrival p r.out ≡ prices_of (at r.book j)
    turn_shows j p m now then up = elim (cases_eq j i) [
      | inl y ↦ subst (λ k. Live (at r.book k) → (a < (at b k).arrival → p ≡ prices_of (at old k)) → latest (at b k).arrival p r.out ≡ prices_of (at r.book k)) (sym y)
          (λ k f. ap (λ q. latest t.arrival q r.out) (f (later_parts a t next.0).1) ∙ after.shows k) m then
      | inr n ↦
          let k = (turn_stems j m).0 in
          after.quiet (at b j).arrival p (λ z. n (h.distinct j i k live z)) ∙ now (had j n k up) ∙ sym (ap prices_of ((low j n).same m))
    ]

    pub turn_waits : (j : ℕ) (p : Prices) → (a < (at b j).arrival → p ≡ prices_of (at old j)) → t.arrival < (at b j).arrival → latest (at b j).arrival p r.out ≡ prices_of (at old j)
    turn_waits j p then up = after.quiet (at b j).arrival p (λ z. omega (arith, z, up)) ∙ then (omega (arith, up, (later_parts a t next.0).1))

    pub turn_waiting : sum_by (waiting t.arrival) r.book < sum_by (waiting a) b
    turn_waiting =
        let mono : sum_by (waiting t.arrival) r.book ≤ sum_by (waiting a) c = sum_mono (waiting a) (waiting t.arrival) c r.book after.long less in
        omega (arith, mono, sum_by-set (waiting a) b i free free within, one)
      where
        one : waiting a t ≡ 1
        one = rw next.0 refl

        less : (j : ℕ) → waiting t.arrival (at r.book j) ≤ waiting a (at c j)
        less j =
            cond_both (later t.arrival (at r.book j)) 1 0 (λ n. n ≤ waiting a (at c j))
            (λ y.
            let p = later_parts t.arrival (at r.book j) y in
            let n : j ≢ i = λ z. omega (arith, p.1, (turn_stems j p.0).1, ap (λ k. (at b k).arrival) z) in
            let f = after.others j n in
            let g : later a (at c j) ≡ true = later_from a (at c j) (f.live p.0) (omega (arith, p.1, ap (λ o. o.arrival) (f.same p.0), (later_parts a t next.0).1)) in
            rw g (omega arith))
            (λ _. omega arith)

  unsent : (x a n : ℕ) → n ≡ 0 → share x a n ≡ 0
  unsent x a n z = grind (arith, nat_tests)

  pub next_is : (a : ℕ) (b : List Order) → Next a b (pick (later a) earlier b (length b))
  next_is a b = picked (later a) earlier (IsStrictWeakOrder-by_number (λ o. o.arrival)) b (length b)

  pub turns_told : (n a : ℕ) (old b : List Order) → Halfway e look a b → sum_by (waiting a) b ≤ n → Told e look a old b (turns n e R a old b)
  unfolding turns
  turns_told zero a old b h few = nobody_waits a old b h up
    where
      up : (j : ℕ) → Live (at b j) → (at b j).arrival ≤ a
      up j m = elim (cases_lt a (at b j).arrival) [
        | inl y ↦ let one : waiting a (at b j) ≡ 1 = rw (later_from a (at b j) m y) refl in absurd (omega (arith, few, get_or-le-sum_by (waiting a) b j free (live_within b j m)))
        | inr y ↦ y
      ]
  turns_told (suc n) a old b h few =
      branch_both (pick (later a) earlier b (length b)) _ _ (Told e look a old b) (λ y. nobody_waits a old b h (up (subst (Next a b) y (next_is a b))))
      (λ i y.
      let next = subst (Next a b) y (next_is a b) in
      let r = turn e R nowhere i (at old i) (at b i) (set b i free) in
      let s = turns n e R (at b i).arrival old r.book in
      let f : After e look nowhere i (at old i) (at b i) (set b i free) r = after a b old h i next in
      let g = turns_told n (at b i).arrival old r.book (turn_halfway a b old h i next) (omega (arith, few, turn_waiting a b old h i next)) in
      let m = live_within b i (later_parts a (at b i) next.0).0 in
      record {
        long = g.long ∙ f.long ∙ length-set b i free;
        stems = stems_trans b r.book s.book (turn_stems a b old h i next) g.stems;
        settled = g.settled;
        clear = g.clear;
        most = λ k. g.most (f.most (free_most b i k) (k i (later_parts a (at b i) next.0).0));
        clean = λ k. g.clean (f.clean (free_clean b i k));
        nothing_away = λ x. omega (arith, away-++ x r.out s.out, f.nothing_away x, g.nothing_away x);
        nothing_new = no_news-++ r.out s.out f.nothing_new g.nothing_new;
        sizes = λ x. omega (arith, g.sizes x, f.sizes x, unsent x (at b i).arrival (total r.slips) (ap total f.sent.2), sum_by-set (part x) b i free free m, part_none x free refl, filled-++ x r.out s.out, cancelled-++ x r.out s.out);
        fair = All-append (Fair e look) r.out s.out f.fair g.fair;
        stated = states-++ (λ x. resting x s.book) r.out s.out (states_same (λ x. resting x r.book) _ r.out g.sizes (f.stated (alone a b old h i next))) g.stated;
        quiet = λ x p n. latest-++ x p r.out s.out ∙ ap (λ y. latest x y s.out) (f.quiet x p (λ z. n i (later_parts a (at b i) next.0).0 (sym z)))
            ∙ g.quiet x p (λ j k z. let w = turn_stems a b old h i next j k in n j w.0 (sym w.1 ∙ z));
        shows = λ j p k now then.
            let w = turn_stems a b old h i next j (g.stems j k).0 in
            latest-++ (at b j).arrival p r.out s.out ∙ ap (λ y. latest y (latest (at b j).arrival p r.out) s.out) (sym w.1)
            ∙ g.shows j (latest (at b j).arrival p r.out) k (λ z. turn_shows a b old h i next j p (g.stems j k).0 now then (omega (arith, z, w.1))) (λ z. turn_waits a b old h i next j p then (omega (arith, z, w.1)));
      })
    where
      up : Next a b None → (j : ℕ) → Live (at b j) → (at b j).arrival ≤ a
      up none j m = elim (cases_lt a (at b j).arrival) [ inl y ↦ absurd (both_ways _ (none j (live_within b j m)) (later_from a (at b j) m y)) | inr y ↦ y ]

-- ---- step two
past_ok : (s : Side) (w q : ℕ) → Past s w q → Ok s q w
past_ok Buy w q h = inr (omega arith)
past_ok Sell w q h = omega arith

past_trans : (s : Side) (x y z : ℕ) → Past s x y → Past s y z → Past s x z
past_trans Buy x y z h k = omega arith
past_trans Sell x y z h k = omega arith

module _ (e : Bests) (R : ℕ → Bool) where
  clamp_free : clamp e R free ≡ free
  clamp_free = rw (true_ok Buy e.offer 0 (inr (omega arith))) refl

  at_clamp : (b : List Order) (j : ℕ) → at (map (clamp e R) b) j ≡ clamp e R (at b j)
  at_clamp b j = subst (λ d. get_or (map (clamp e R) b) j d ≡ clamp e R (at b j)) clamp_free (get_or-map (clamp e R) b j free)

  clamp_same : (o : Order) → ((clamp e R o).arrival ≡ o.arrival) × ((clamp e R o).remaining ≡ o.remaining)
  clamp_same o = cond_both (ok (side_of o) (facing e (side_of o)) o.booked) _ _ (λ (x : Order). (x.arrival ≡ o.arrival) × (x.remaining ≡ o.remaining)) (λ _. (refl, refl)) (λ _. (refl, refl))

  clamp_most : (o : Order) → o.remaining ≤ o.terms.size → (clamp e R o).remaining ≤ (clamp e R o).terms.size
  clamp_most o h = cond_both (ok (side_of o) (facing e (side_of o)) o.booked) _ _ (λ (x : Order). x.remaining ≤ x.terms.size) (λ _. h) (λ _. h)

  clamp_clean : (o : Order) → (o.remaining ≡ 0 → o ≡ free) → (clamp e R o).remaining ≡ 0 → clamp e R o ≡ free
  clamp_clean o h z = ap (clamp e R) (h (sym (clamp_same o).1 ∙ z)) ∙ clamp_free

  clamp_held : (d : Bests) (look : ℕ → Terms) (o : Order) → Held d look o → Held e look (clamp e R o)
  clamp_held d look o h =
      let s = side_of o in
      let w = facing e s in
      cond_both (ok s w o.booked) o (priced o w (behind R s w)) (Held e look)
      (λ y. record { known = h.known; fits = (h.fits.0, h.fits.1, ok_true s w o.booked y); some = h.some })
      (λ n.
      let p = ok_false s w o.booked n in
      let q = past_ok s w o.booked p.1 in
      record { known = h.known; fits = (ok_trans _ _ _ _ h.some h.fits.0 q, ok_trans _ _ _ _ h.some h.fits.1 q, ok_self s w); some = p.0 })

  clamp_apart : (x y : Order) → Apart x y → Apart (clamp e R x) y
  clamp_apart x y h =
      let s = side_of x in
      let w = facing e s in
      cond_both (ok s w x.booked) x (priced x w (behind R s w)) (λ z. Apart z y) (λ _. h)
      (λ n m k f. past_trans s w x.booked y.booked (ok_false s w x.booked n).1 (h m k f))

  module _ (d : Bests) (look : ℕ → Terms) (n : ℕ) (b : List Order) (held : Holds (Held d look) b) (clear : Clear b) (distinct : Distinct b) (numbered : Numbered n b) where
    abbrev pub clamped : List Order
    clamped = map (clamp e R) b

    clamp_stems : Stems b clamped
    clamp_stems j m =
        let s = clamp_same (at b j) in
        let f = at_clamp b j in
        (subst (λ x. 0 < x) (ap (λ o. o.remaining) f ∙ s.1) m, ap (λ o. o.arrival) f ∙ s.0)

    pub clamp_halfway : Halfway e look 0 clamped
    clamp_halfway = record {
      held = λ j m. subst (Held e look) (sym (at_clamp b j)) (clamp_held d look (at b j) (held j (clamp_stems j m).0));
      clear = λ j k. subst₂ Apart (sym (at_clamp b j)) (sym (at_clamp b k))
          (clamp_apart (at b j) (clamp e R (at b k)) (apart_sym (clamp e R (at b k)) (at b j) (clamp_apart (at b k) (at b j) (apart_sym (at b j) (at b k) (clear j k)))));
      distinct = distinct_stems b clamped clamp_stems distinct;
      settled = λ j m up. absurd (omega (arith, up, (clamp_stems j m).1, (numbered j (clamp_stems j m).0).0));
    }

    clamp_sizes : (a : ℕ) → resting a clamped ≡ resting a b
    clamp_sizes a = sum_map (part a) (clamp e R) (λ o. let s = clamp_same o in ap₂ (share a) s.0 s.1) b

    pub quote_told : Told e look 0 b b (quote e R b)
    unfolding quote
    quote_told =
        let g = turns_told e R look (length b) 0 b clamped clamp_halfway (omega (arith, count_by-le-length (later 0) clamped, length-map b (clamp e R))) in
        record {
          long = g.long ∙ length-map b (clamp e R);
          stems = stems_trans b clamped (quote e R b).book clamp_stems g.stems;
          settled = g.settled;
          clear = g.clear;
          most = λ k. g.most (λ j m. subst (λ o. o.remaining ≤ o.terms.size) (sym (at_clamp b j)) (clamp_most (at b j) (k j (clamp_stems j m).0)));
          clean = λ k. g.clean (λ j z. at_clamp b j ∙ clamp_clean (at b j) (k j) (sym (ap (λ o. o.remaining) (at_clamp b j)) ∙ z));
          sizes = λ a. omega (arith, g.sizes a, clamp_sizes a);
          nothing_away = g.nothing_away;
          nothing_new = g.nothing_new;
          fair = g.fair;
          stated = g.stated;
          quiet = λ x p n. g.quiet x p (λ j k z. let w = clamp_stems j k in n j w.0 (sym w.1 ∙ z));
          shows = λ j p m now then.
              let k = (g.stems j m).0 in
              let w = clamp_stems j k in
              let pos = (numbered j w.0).0 in
              ap (λ y. latest y p (quote e R b).out) (sym w.1) ∙ g.shows j p m (λ z. absurd (omega (arith, z, pos, w.1))) (λ _. then pos);
        }
