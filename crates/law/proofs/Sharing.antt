-- The slips that routing writes. Assumes nothing.
--     Shared a k n m ss       ss are slips of the a-th order, numbered from k on, at most m of them and of n contracts in all
--     routing_shared          so are those of routing; none where the order may not go out
--     slipped_all             what slips of one order carry, by arrival number
use Rattle.std.proofs.Common.{◌≡◌, ℕ, suc, ◌+◌, ◌-◌, ◌<◌, ◌≤◌, min, Bool, true, false, cond, ◌&&◌, ltb, List, [], ◌∷◌, length, refl, ap, ◌∙◌, arith}
use Rattle.std.proofs.lemmas.Bool.{cond_both, ltb-true}
use Rattle.std.proofs.lemmas.Bool.Decides.{nat_tests}
use Rattle.std.proofs.lemmas.List.Sums.{sum_by-cons}
use Rattle.std.specs.List.{AllByRecursion}
use Rattle.market.specs.declared.board.Quote.{Quote}
use Rattle.values.specs.declared.terms.Side.{Side}
use Rattle.values.specs.declared.reports.Slip.{Slip}
use Rattle.rules.specs.declared.Order.{Order}
use Rattle.rules.specs.declared.Bests.{Bests}
use Rattle.rules.specs.Sides.{facing}
use Rattle.rules.specs.Book.{side_of}
use Rattle.rules.specs.Trading.{within}
use Rattle.rules.specs.Routing.{offered, shares, total, routing}
use Rattle.rules.specs.Sizes.{share, slip_part, slipped}
use Rattle.rules.specs.Law.{Consecutive}

pub record Shared (a k n m : ℕ) (ss : List Slip) : Type 0 where
  pub numbers : Consecutive k ss
  pub each : AllByRecursion (λ x. (0 < x.size) × (x.arrival ≡ a)) ss
  pub few : length ss ≤ m
  pub all : total ss ≤ n

none_shared : (a k n m : ℕ) → Shared a k n m []
none_shared a k n m = record { numbers = tt; each = tt; few = omega arith; all = omega arith }

pub shares_shared : (s : Side) (w a : ℕ) (qs : List Quote) (x k n : ℕ) → Shared a k n (length qs) (shares s w a qs x k n)
unfolding shares
shares_shared s w a [] x k n = none_shared a k n 0
shares_shared s w a (q ∷ qs) x k n =
    let m = min n (offered s w q) in
    cond_both (ltb 0 m) _ _ (Shared a k n (suc (length qs)))
    (λ y.
    let r = shares_shared s w a qs (suc x) (suc k) (n - m) in
    let t = shares s w a qs (suc x) (suc k) (n - m) in
    record {
      numbers = (refl, r.numbers);
      each = ((ltb-true 0 m y, refl), r.each);
      few = omega (arith, r.few);
      all = omega (arith, r.all, sum_by-cons (λ (z : Slip). z.size) (record { number = k; arrival = a; exchange = x; price = w; size = m }) t);
    })
    (λ y. let r = shares_shared s w a qs (suc x) k n in record { numbers = r.numbers; each = r.each; few = omega (arith, r.few); all = r.all })

-- how many places it asks for: one for each exchange, none where the order may not go out
pub routing_shared : (go : Bool) (qs : List Quote) (e : Bests) (k : ℕ) (t : Order) → Shared t.arrival (suc k) t.remaining (cond go (length qs) 0) (routing go qs e k t)
unfolding routing
routing_shared true qs e k t =
    cond_both (ltb 0 (facing e (side_of t)) && within t.terms (facing e (side_of t))) _ _ (Shared t.arrival (suc k) t.remaining (length qs))
    (λ _. shares_shared (side_of t) (facing e (side_of t)) t.arrival qs 1 (suc k) t.remaining)
    (λ _. none_shared t.arrival (suc k) t.remaining (length qs))
routing_shared false qs e k t = none_shared t.arrival (suc k) t.remaining 0

pub slipped_all : (a x : ℕ) (ss : List Slip) → AllByRecursion (λ s. s.arrival ≡ x) ss → slipped a ss ≡ share a x (total ss)
slipped_all a x [] h = grind (arith, nat_tests)
slipped_all a x (s ∷ ss) h =
    let e : slip_part a s ≡ share a x s.size = ap (λ y. share a y s.size) h.0 in
    let f : share a x s.size + share a x (total ss) ≡ share a x (s.size + total ss) = grind (arith, nat_tests) in
    let g : total (s ∷ ss) ≡ s.size + total ss = sum_by-cons (λ (z : Slip). z.size) s ss in
    sum_by-cons (slip_part a) s ss ∙ (rw (e, slipped_all a x ss h.1, g) f)
