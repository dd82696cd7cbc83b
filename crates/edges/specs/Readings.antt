-- Readings of the rules that are wrong, written out so that examples can tell them from the rulebook. Assumes nothing.
--     too_high_halved limit offer     three halves of the offer, the half rounded down
--     booked_here b                   the best booked prices here, taken for the best displayed
--     objection_booked s o            what the monitor would say by them
--     turns_at_once, quote_at_once    each order is re-priced only when its turn to trade comes
use Rattle.std.specs.Prelude.{ℕ, zero, suc, ◌+◌, ◌/◌, Bool, cond, ◌&&◌, ◌||◌, List, [], ◌++◌, length, Option, nat_le, slice_set}
use Rattle.values.specs.declared.terms.Side.{Side}
use Rattle.values.specs.declared.terms.Side.TheVariants.{Buy, Sell}
use Rattle.values.specs.declared.faults.MonitorFault.{MonitorFault}
use Rattle.checks.specs.declared.checked.CheckedOrder.{CheckedOrder}
use Rattle.rules.specs.declared.Order.{Order}
use Rattle.rules.specs.declared.Bests.{Bests}
use Rattle.rules.specs.Sides.{same_side, tops, national}
use Rattle.rules.specs.Book.{free, at, live, side_of, branch, pick}
use Rattle.rules.specs.Monitor.{objection}
use Rattle.rules.specs.Routing.{bests, nowhere}
use Rattle.rules.specs.Resting.{Out, turn}
use Rattle.rules.specs.Quoting.{clamp, later, earlier}
use Rattle.rules.specs.States.{State}

-- half of 51 is taken as 25
abbrev pub too_high_halved : ℕ → ℕ → Bool
too_high_halved limit offer = cond (nat_le offer 50) (nat_le (offer + 25) limit) (nat_le (offer + 250) limit || nat_le (offer + offer / 2) limit)

-- the booked price of a resting order of side s
abbrev pub booked_of : Side → Order → ℕ
booked_of s o = cond (live o && same_side s (side_of o)) o.booked 0

abbrev pub booked_here : List Order → Bests
booked_here b = record { bid = tops Buy (λ j. booked_of Buy (at b j)) (length b); offer = tops Sell (λ j. booked_of Sell (at b j)) (length b) }

abbrev pub objection_booked : State → CheckedOrder → Option MonitorFault
objection_booked s o = objection s.wide (national (bests s.quotes) (booked_here s.orders)) (booked_here s.orders) o.kind o.side o.limit

-- the others still stand where they stood before the quote
unfoldable pub turns_at_once : ℕ → Bests → (ℕ → Bool) → ℕ → List Order → List Order → Out
turns_at_once zero e R a old b = record { book = b; out = [] }
turns_at_once (suc n) e R a old b =
    branch (pick (later a) earlier b (length b)) (record { book = b; out = [] })
    (λ i.
    let r = turn e R nowhere i (at old i) (clamp e R (at b i)) (slice_set b i free) in
    let s = turns_at_once n e R (at b i).arrival old r.book in
    record { book = s.book; out = r.out ++ s.out })

unfoldable pub quote_at_once : Bests → (ℕ → Bool) → List Order → Out
quote_at_once e R b = turns_at_once (length b) e R 0 b b
