-- Step three of a quote, turn by turn. Assumes nothing.
use Rattle.std.proofs.Common.{◌≡◌, ℕ, suc, ◌-◌, ◌<◌, ◌≤◌, Bool, true, List, [], ◌++◌, map, length, set, Some, count_by, sum_by, sym, refl, ap, ◌∙◌, append_assoc, append-nil, arith}
use lib.ListN.{length-map}
use Rattle.std.proofs.lemmas.List.Sums.{count_by-le-length, get_or-le-sum_by}
use Rattle.values.specs.declared.reports.Report.{Report}
use Rattle.rules.specs.declared.Order.{Order}
use Rattle.rules.specs.declared.Bests.{Bests}
use Rattle.rules.specs.Book.{free, at, pick}
use Rattle.rules.specs.Routing.{nowhere}
use Rattle.rules.specs.Resting.{Out, turn}
use Rattle.rules.specs.Quoting.{clamp, later, earlier, turns, quote}
use Rattle.records.specs.declared.list.AppendList.{AppendList}
use Rattle.trading_laws.proofs.Slots.{live_within}
use Rattle.trading_laws.proofs.Telling.{waiting, later_parts, later_from}
use Rattle.trading_laws.proofs.Skipping.{Idle, AllIdle, found_waits, turn_fewer, turns_skip, turns_rest}
use Rattle.book.specs.Rests.{turned, Came}

-- whoever is found waits after any earlier number too
pub waits_since : (a m : ℕ) (b : List Order) (i : ℕ) → a ≤ m → Some i ≡ pick (later m) earlier b (length b) → later a (at b i) ≡ true
waits_since a m b i up next = let p = later_parts m (at b i) (found_waits m b i next) in later_from a (at b i) p.0 (omega (arith, p.1, up))

pub somebody_waits : (a : ℕ) (b : List Order) (i : ℕ) → later a (at b i) ≡ true → 0 < count_by (later a) b
somebody_waits a b i h =
    let one : waiting a (at b i) ≡ 1 = rw h refl in
    omega (arith, one, get_or-le-sum_by (waiting a) b i free (live_within b i (later_parts a (at b i) h).0))

module _ (e : Bests) (R : ℕ → Bool) (old : List Order) where
  -- the whole sweep r, of which the reports `done` are written, goes on as turns n from here, where a had its turn last
  pub record Sweeps (r : Out) (a : ℕ) (b : List Order) (done : List Report) (n : ℕ) : Type 0 where
    pub book : r.book ≡ (turns n e R a old b).book
    pub out : r.out ≡ done ++ (turns n e R a old b).out

  -- those that arrived up to m are idle
  sweeps_skip : (r : Out) (a m : ℕ) (b : List Order) (done : List Report) (n : ℕ) → a ≤ m → AllIdle e R old a m b → sum_by (waiting a) b ≤ n → Sweeps r a b done n → (k : ℕ) × Sweeps r m b done k × (sum_by (waiting m) b ≤ k)
  sweeps_skip r a m b done n up idle few w =
      let on = turns_skip e R old n a m b up idle few in
      (on.0, record { book = w.book ∙ ap (λ x. x.book) on.1; out = w.out ∙ ap (λ x. done ++ x.out) on.1 }, on.2)

  sweeps_ends : (r : Out) (a : ℕ) (b : List Order) (done : List Report) (n : ℕ) → ((j : ℕ) → later a (at b j) ≡ true → Idle e R old b j) → Sweeps r a b done n → (b ≡ r.book) × (done ≡ r.out)
  sweeps_ends r a b done n idle w =
      let end = turns_rest e R old n a b idle in
      (sym (w.book ∙ ap (λ x. x.book) end), sym (w.out ∙ ap (λ x. done ++ x.out) end ∙ append-nil done))

  abbrev pub its_turn : List Order → ℕ → Out
  its_turn b i = turned (turn e R nowhere i (at old i) (at b i) (set b i free))

  abbrev onward : ℕ → List Order → ℕ → Out
  onward n b i =
      let s = turns n e R (at b i).arrival old (its_turn b i).book in
      record { book = s.book; out = (its_turn b i).out ++ s.out }

  goes : (n a : ℕ) (b : List Order) (i : ℕ) → Some i ≡ pick (later a) earlier b (length b) → turns (suc n) e R a old b ≡ onward n b i
  unfolding turns
  goes n a b i h = rw (← h) refl

  -- one turn more: m is the fuel before it, n after
  sweeps_on : (r : Out) (a a' : ℕ) (b b' : List Order) (done : List Report) (m n i : ℕ) → m ≡ suc n → Some i ≡ pick (later a) earlier b (length b) → a' ≡ (at b i).arrival → b' ≡ (its_turn b i).book → Sweeps r a b done m → Sweeps r a' b' (done ++ (its_turn b i).out) n
  sweeps_on r a a' b b' done m n i f h p q w =
      let same : turns m e R a old b ≡ onward n b i = ap (λ k. turns k e R a old b) f ∙ goes n a b i h in
      rw (p, q) (record {
        book = w.book ∙ ap (λ x. x.book) same;
        out = w.out ∙ ap (λ x. done ++ x.out) same ∙ sym (append_assoc done (its_turn b i).out (turns n e R (at b i).arrival old (its_turn b i).book).out);
      })

  -- ---- the loop: `done` is reported, and n is fuel enough for those that wait
  abbrev pub UnderWay : Out → ℕ → List Order → List Report → Type 0
  UnderWay r a b done = (n : ℕ) × Sweeps r a b done n × (sum_by (waiting a) b ≤ n)

  pub starts : (b : List Order) → UnderWay (turns (length b) e R 0 old b) 0 b []
  starts b = (length b, record { book = refl; out = refl }, count_by-le-length (later 0) b)

  -- one turn more, of the order that arrived next after m; those up to m are idle
  pub goes_on : (r : Out) (a m : ℕ) (b b' : List Order) (done : List Report) (i a' : ℕ) → a ≤ m → AllIdle e R old a m b → Some i ≡ pick (later m) earlier b (length b) → a' ≡ (at b i).arrival → b' ≡ (its_turn b i).book → UnderWay r a b done → UnderWay r a' b' (done ++ (its_turn b i).out)
  goes_on r a m b b' done i a' up idle next p q h =
      let s = sweeps_skip r a m b done h.0 up idle h.2 h.1 in
      let k = s.0 in
      let few : sum_by (waiting a') b' < sum_by (waiting m) b = rw (p, q) (turn_fewer e R old m b i (at old i) (found_waits m b i next)) in
      (k - 1, sweeps_on r m a' b b' done k (k - 1) i (omega (arith, s.2, few)) next p q s.1, omega (arith, s.2, few))

  pub ends : (r : Out) (a : ℕ) (b : List Order) (done : List Report) → ((j : ℕ) → later a (at b j) ≡ true → Idle e R old b j) → UnderWay r a b done → (b ≡ r.book) × (done ≡ r.out)
  ends r a b done idle h = sweeps_ends r a b done h.0 idle h.1

pub quote_comes : (e : Bests) (R : ℕ → Bool) (old b b' b'' : List Order) (l l' : AppendList Report) → old ≡ b → b' ≡ map (clamp e R) b → Came (turns (length b') e R 0 old b') b'' l l' → Came (quote e R b) b'' l l'
unfolding quote
quote_comes e R old b b' b'' l l' f g c = rw (f, g, length-map b (clamp e R)) at c
