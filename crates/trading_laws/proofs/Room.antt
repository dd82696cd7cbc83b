-- How many reports a call writes: each fill does away with an order, and each turn ends with one report more. Assumes nothing.
--     enter_room, quote_room      with 64 places, an entry writes at most 67 and a quote at most 128
use Rattle.std.proofs.Common.{◌≡◌, ℕ, zero, suc, ◌+◌, ◌-◌, ◌<◌, ◌≤◌, min, Bool, true, false, cond, ◌&&◌, eqb, ltb, List, [], ◌∷◌, map, length, set, sum_by, refl, subst, arith, length-append, length-set}
use lib.ListN.{length-map}
use Rattle.std.proofs.lemmas.Bool.Decides.{nat_tests}
use Rattle.std.proofs.lemmas.Bool.{ltb-true, cond_both, lt-ltb, le-ltb}
use Rattle.std.proofs.lemmas.List.Sums.{sum_by-set, count_by-le-length}
use Rattle.values.specs.declared.reports.Report.{Report}
use Rattle.values.specs.declared.reports.Report.TheVariants.{Booked}
use Rattle.values.specs.declared.reports.Slip.{Slip}
use Rattle.rules.specs.declared.Terms.{Terms}
use Rattle.rules.specs.declared.Order.{Order}
use Rattle.rules.specs.declared.Bests.{Bests}
use Rattle.rules.specs.Book.{free, at, live, Live, priced, with_rem, lower, pick, taken}
use Rattle.rules.specs.Trading.{Traded, hit, trade}
use Rattle.rules.specs.Routing.{total, nowhere}
use Rattle.rules.specs.Resting.{Out, rest_at, settle, turn, fresh, enter}
use Rattle.rules.specs.Quoting.{clamp, later, earlier, turns, quote}
use Rattle.trading_laws.specs.Books.{Holds, Held, Clear, Distinct, Numbered}
use Rattle.trading_laws.proofs.Slots.{branch_both, at_same, live_within, Hit, hits}
use Rattle.trading_laws.proofs.Trade.{trade_lowers, trade_length}
use Rattle.trading_laws.proofs.Telling.{Halfway, Next, next_is, waiting, later_parts, turn_halfway, turn_waiting, clamp_halfway}

-- 1 for an order of which something remains
abbrev pub one : Order → ℕ
one o = cond (live o) 1 0

pub one_live : (o : Order) → Live o → one o ≡ 1
one_live o l = rw (lt-ltb 0 o.remaining l) refl

one_dead : (o : Order) → o.remaining ≤ 0 → one o ≡ 0
one_dead o l = rw (le-ltb 0 o.remaining l) refl

pub one_most : (o : Order) → one o ≤ 1
one_most o = cond_both (ltb 0 o.remaining) 1 0 (λ n. n ≤ 1) (λ _. omega arith) (λ _. omega arith)

one_less : (o : Order) (n : ℕ) → one (with_rem o (o.remaining - n)) ≤ one o
one_less o n = grind (arith, nat_tests)

-- a fill does away with its maker or with its taker
fill_takes : (t : Order) (b : List Order) (i : ℕ) → Live t → Live (at b i) → let q = min t.remaining (at b i).remaining in taken (set b i (lower (at b i) q)) + one (with_rem t (t.remaining - q)) + 1 ≤ taken b + one t
fill_takes t b i l m =
    let o = at b i in
    let q = min t.remaining o.remaining in
    let f = one_live t l in
    let g = one_live o m in
    cond_both (ltb q o.remaining) (with_rem o (o.remaining - q)) free (λ x. taken (set b i x) + one (with_rem t (t.remaining - q)) + 1 ≤ taken b + one t)
    (λ y.
    let less = ltb-true q o.remaining y in
    omega (arith, f, g, sum_by-set one b i (with_rem o (o.remaining - q)) free (live_within b i m), one_live (with_rem o (o.remaining - q)) (omega arith), one_dead (with_rem t (t.remaining - q)) (omega arith)))
    (λ y. omega (arith, f, g, sum_by-set one b i free free (live_within b i m), one_most (with_rem t (t.remaining - q))))

module _ (e : Bests) where
  pub trade_room : (n : ℕ) (t : Order) (b : List Order) → length (trade n e t b).out + taken (trade n e t b).book + one (trade n e t b).taker ≤ taken b + one t
  unfolding trade
  trade_room zero t b = omega arith
  trade_room (suc n) t b =
      branch_both (hit e t b) _ _ (λ (d : Traded). length d.out + taken d.book + one d.taker ≤ taken b + one t) (λ h. omega arith)
      (λ i h.
      let f = subst (Hit e t b) h (hits e t b) in
      omega (arith, fill_takes t b i f.0 f.1, trade_room n (with_rem t (t.remaining - min t.remaining (at b i).remaining)) (set b i (lower (at b i) (min t.remaining (at b i).remaining)))))

module _ (e : Bests) (R : ℕ → Bool) where
  settle_room : (i : ℕ) (old t : Order) (b : List Order) → i < length b → at b i ≡ free → length (settle e R i old t b).out + taken (settle e R i old t b).book ≤ taken b + one t + one t
  unfolding settle
  settle_room i old t b in' empty =
      cond_both (live t) _ _ (λ (r : Out). length r.out + taken r.book ≤ taken b + one t + one t)
      (λ y.
      let o = one_live t (ltb-true 0 t.remaining y) in
      branch_both (rest_at e R t) _ _ (λ (r : Out). length r.out + taken r.book ≤ taken b + one t + one t) (λ _. omega (arith, o))
      (λ p _. omega (arith, o, few (eqb old.booked p.booked && eqb old.displayed p.displayed) (Booked t.arrival p.booked p.displayed t.remaining), sum_by-set one b i (priced t p.booked p.displayed) free in')))
      (λ _. omega arith)
    where
      few : (c : Bool) (r : Report) → length (cond c [] (r ∷ [])) ≤ 1
      few true r = omega arith
      few false r = omega arith

  turn_room : (send : Order → List Slip) (i : ℕ) (old t : Order) (b : List Order) → i < length b → at b i ≡ free → length (turn e R send i old t b).out + taken (turn e R send i old t b).book ≤ taken b + 2
  unfolding turn
  turn_room send i old t b in' empty =
      let d = trade (length b) e t b in
      let u = with_rem d.taker (d.taker.remaining - total (send d.taker)) in
      let r = settle e R i old u d.book in
      omega (
        arith,
        trade_room e (length b) t b,
        settle_room i old u d.book (omega (arith, trade_length e (length b) t b)) ((trade_lowers e (length b) t b i).stays empty),
        length-append d.out r.out,
        one_most t,
        one_less d.taker (total (send d.taker)),
        one_most d.taker,
      )

  module _ (look : ℕ → Terms) where
    turns_room : (n a : ℕ) (old b : List Order) → Halfway e look a b → length (turns n e R a old b).out + taken (turns n e R a old b).book ≤ taken b + sum_by (waiting a) b
    unfolding turns
    turns_room zero a old b h = omega arith
    turns_room (suc n) a old b h =
        branch_both (pick (later a) earlier b (length b)) _ _ (λ (r : Out). length r.out + taken r.book ≤ taken b + sum_by (waiting a) b) (λ _. omega arith)
        (λ i y.
        let next = subst (Next a b) y (next_is e R look a b) in
        let live = (later_parts a (at b i) next.0).0 in
        let within = live_within b i live in
        let r = turn e R nowhere i (at old i) (at b i) (set b i free) in
        let s = turns n e R (at b i).arrival old r.book in
        omega (
          arith,
          turn_room nowhere i (at old i) (at b i) (set b i free) (omega (arith, within, length-set b i free)) (at_same b i free within),
          sum_by-set one b i free free within,
          one_live (at b i) live,
          turns_room n (at b i).arrival old r.book (turn_halfway e R look a b old h i next),
          turn_waiting e R look a b old h i next,
          length-append r.out s.out,
        ))

    pub quote_room : (d : Bests) (n : ℕ) (b : List Order) → Holds (Held d look) b → Clear b → Distinct b → Numbered n b → length (quote e R b).out ≤ length b + length b
    unfolding quote
    quote_room d n b held clear distinct numbered =
        let c = map (clamp e R) b in
        omega (arith, turns_room (length b) 0 b c (clamp_halfway e R d look n b held clear distinct numbered), count_by-le-length live c, count_by-le-length (later 0) c, length-map b (clamp e R))

  pub enter_room : (send : Order → List Slip) (i a : ℕ) (t : Terms) (b : List Order) → i < length b → at b i ≡ free → length (enter e R send i a t b).out ≤ length b + 3
  unfolding enter
  enter_room send i a t b in' empty = omega (arith, turn_room send i free (fresh a t) b in' empty, count_by-le-length live b)
