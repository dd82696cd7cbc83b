-- The readings that the rulebook denies. Assumes nothing.
use Rattle.std.proofs.Common.{◌≡◌, ℕ, false, List, [], ◌∷◌, Some, None, Option, refl, ap, subst, arith}
use Rattle.market.specs.Rungs.{cents}
use Rattle.market.specs.Quotes.{told as told_to}
use Rattle.values.specs.declared.terms.Side.TheVariants.{Sell}
use Rattle.values.specs.declared.terms.Kind.TheVariants.{Limit}
use Rattle.values.specs.declared.calls.Call.TheVariants as call
use Rattle.values.specs.declared.faults.MonitorFault.TheVariants.{BuyTooHigh, SellTooLow}
use Rattle.values.specs.declared.reports.Report.{Report}
use Rattle.values.specs.declared.reports.Report.TheVariants.{New, Fill, Booked, Cancelled, FilledAway}
use Rattle.values.specs.Codes.{of_monitor}
use Rattle.rules.specs.Routing.{bests}
use Rattle.rules.specs.Faults.{objection_now}
use Rattle.rules.specs.States.{State}
use Rattle.rules.specs.Steps.{Run, order_in}
use Rattle.rules.specs.Steps.Event.{refused}
use Rattle.rules.specs.Steps.Step.{told as tells, entered as enters}
use Rattle.rules.specs.Steps.Run.{next}
use Rattle.rules.specs.Day.{room}
use Rattle.edges.specs.Calls.{quoting, buy, sell, told, entered, market, Comes, Shows, Denied}
use Rattle.edges.specs.Readings.{objection_booked, turns_at_once, quote_at_once}
use Rattle.edges.specs.Edges.{bid_26_booked, crossed}
use Rattle.edges.proofs.Series.{open_with, checked}
use Rattle.edges.proofs.Steps.{rulebook, told_writes, left_says, market_run}
use Rattle.edges.proofs.Books.{at_26, bid_26_run, at_crossed, crossed_run}

abbrev filled_at : Report → ℕ
filled_at (New x i) = 0
filled_at (Fill t m p q) = p
filled_at (Booked x p d n) = 0
filled_at (Cancelled x n c) = 0
filled_at (FilledAway x k n) = 0

-- the price of the first report, where it is a fill
abbrev first_price : List Report → ℕ
first_price [] = 0
first_price (r ∷ rs) = filled_at r

abbrev Nothing : {A : Type 0} → Option A → Type 0
Nothing None = Unit {0}
Nothing (Some a) = ⊥

none_is_not_some : {A : Type 0} {a : A} → None ≡ Some a → ⊥
none_is_not_some e = subst Nothing e tt

pub not_at_the_displayed_price : Shows crossed (record { bid = 103; offer = 107 }) × Denied crossed (told 1 100 110 (Fill 1 2 107 5 ∷ []))
unfolding rulebook
not_at_the_displayed_price = ((at_crossed, crossed_run, refl), (at_crossed, crossed_run, λ s' x. let e : 106 ≡ 107 = ap first_price (told_writes x) in omega arith))

pub not_by_booked_prices : (s : State) × Run cents false bid_26_booked s × (objection_booked s (order_in cents (sell 72 13 10 0)) ≡ Some SellTooLow) × (objection_now s (order_in cents (sell 72 13 10 0)) ≡ None)
unfolding rulebook
not_by_booked_prices = (at_26, bid_26_run, refl, refl)

pub sell_13_passes : Comes cents false (entered (sell 72 13 10 0) (New 2 72 ∷ Fill 2 1 26 10 ∷ []) ∷ bid_26_booked)
unfolding rulebook
sell_13_passes = (_, next bid_26_run (enters 1 (checked Limit Sell 72 13 10 0) refl refl (omega arith) refl))

pub sell_13_not_refused : Denied bid_26_booked (refused (call.Order (sell 72 13 10 0)) room (of_monitor SellTooLow))
unfolding rulebook
sell_13_not_refused = (at_26, bid_26_run, λ s' x. none_is_not_some (left_says x))

pub buy_76_not_refused : Denied (market 0 51) (refused (call.Order (buy 71 76 10 0)) room (of_monitor BuyTooHigh))
unfolding rulebook
buy_76_not_refused = (open_with false (quoting 0 51) [] 0, market_run false 0 51 refl refl, λ s' x. none_is_not_some (left_says x))

pub not_before_all_are_repriced : (s : State) × Run cents false crossed s × ((quote_at_once (bests (told_to s.quotes 1 (quoting 108 112))) cents s.orders).out ≡ Fill 1 2 106 5 ∷ [])
unfolding rulebook quote_at_once turns_at_once
not_before_all_are_repriced = (at_crossed, crossed_run, refl)

pub repriced_to_108 : Comes cents false (told 1 108 112 (Fill 1 2 108 5 ∷ []) ∷ crossed)
unfolding rulebook
repriced_to_108 = (_, next crossed_run (tells refl))

pub not_filled_at_106 : Denied crossed (told 1 108 112 (Fill 1 2 106 5 ∷ []))
unfolding rulebook
not_filled_at_106 = (at_crossed, crossed_run, λ s' x. let e : 108 ≡ 106 = ap first_price (told_writes x) in omega arith)
