-- The runs of the table in which orders rest, by computation. Assumes nothing.
use Rattle.std.proofs.Common.{◌≡◌, false, [], ◌∷◌, refl, arith}
use Rattle.market.specs.Rungs.{cents}
use Rattle.values.specs.declared.terms.Side.TheVariants.{Buy, Sell}
use Rattle.values.specs.declared.terms.Kind.TheVariants.{Limit, Market}
use Rattle.values.specs.declared.faults.Layer.TheVariants.{Monitor}
use Rattle.values.specs.declared.faults.MonitorFault.TheVariants.{NoBid}
use Rattle.values.specs.declared.reports.Report.TheVariants.{New, Fill, Booked, Cancelled}
use Rattle.values.specs.declared.reports.Cause.TheVariants.{Protection, NoPrice}
use Rattle.values.specs.Codes.{row, of_monitor, number_of}
use Rattle.rules.specs.declared.Order.{Order}
use Rattle.rules.specs.States.{State}
use Rattle.rules.specs.Steps.{Step, Run}
use Rattle.rules.specs.Steps.Step.{told as tells, entered as enters}
use Rattle.rules.specs.Steps.Run.{next}
use Rattle.edges.specs.Calls.{quoting, buy, sell, market_sell, told, entered, market, Comes, Refused, Shows}
use Rattle.edges.specs.Edges.{bid_26_booked, crossed, offer_10_here, offer_11_here, offer_110_here, hidden_sell}
use Rattle.edges.proofs.Series.{open_with, terms, checked, rests}
use Rattle.edges.proofs.Steps.{rulebook, market_run, is_refused}

-- ---- what went before
abbrev pub at_26 : State
at_26 = open_with false (quoting 0 26) (rests 1 (terms Buy 71 26 0 10) 26 25 10 ∷ []) 1

pub bid_26_run : Run cents false bid_26_booked at_26
unfolding rulebook
bid_26_run = next (market_run false 0 26 refl refl) (enters 0 (checked Limit Buy 71 26 10 0) refl refl (omega arith) refl)

abbrev buy_1 : Order
buy_1 = rests 1 (terms Buy 71 110 0 5) 104 103 5

abbrev sell_2 : Order
sell_2 = rests 2 (terms Sell 72 100 0 5) 106 107 5

abbrev pub at_crossed : State
at_crossed = open_with false (quoting 106 104) (buy_1 ∷ sell_2 ∷ []) 2

crossed_1 : Step cents (open_with false (quoting 106 104) [] 0) (entered (buy 71 110 5 0) (New 1 71 ∷ Booked 1 104 103 5 ∷ [])) (open_with false (quoting 106 104) (buy_1 ∷ []) 1)
unfolding rulebook
crossed_1 = enters 0 (checked Limit Buy 71 110 5 0) refl refl (omega arith) refl

crossed_2 : Step cents (open_with false (quoting 106 104) (buy_1 ∷ []) 1) (entered (sell 72 100 5 0) (New 2 72 ∷ Booked 2 106 107 5 ∷ [])) at_crossed
unfolding rulebook
crossed_2 = enters 1 (checked Limit Sell 72 100 5 0) refl refl (omega arith) refl

pub crossed_run : Run cents false crossed at_crossed
unfolding rulebook
crossed_run = next (next (market_run false 106 104 refl refl) crossed_1) crossed_2

abbrev at_10 : State
at_10 = open_with false (quoting 0 0) (rests 1 (terms Sell 71 10 0 10) 10 10 10 ∷ []) 1

abbrev at_11 : State
at_11 = open_with false (quoting 0 0) (rests 1 (terms Sell 71 11 0 10) 11 11 10 ∷ []) 1

offer_10_run : Run cents false offer_10_here at_10
unfolding rulebook
offer_10_run = next (market_run false 0 0 refl refl) (enters 0 (checked Limit Sell 71 10 10 0) refl refl (omega arith) refl)

offer_11_run : Run cents false offer_11_here at_11
unfolding rulebook
offer_11_run = next (market_run false 0 0 refl refl) (enters 0 (checked Limit Sell 71 11 10 0) refl refl (omega arith) refl)

abbrev at_110 : State
at_110 = open_with false (quoting 0 112) (rests 1 (terms Sell 71 110 0 10) 110 110 10 ∷ []) 1

offer_110_run : Run cents false offer_110_here at_110
unfolding rulebook
offer_110_run = next (market_run false 0 112 refl refl) (enters 0 (checked Limit Sell 71 110 10 0) refl refl (omega arith) refl)

abbrev at_100000 : State
at_100000 = open_with false (quoting 100000 0) (rests 1 (terms Sell 71 100000 0 10) 100000 0 10 ∷ []) 1

hidden_run : Run cents false hidden_sell at_100000
unfolding rulebook
hidden_run = next (market_run false 100000 0 refl refl) (enters 0 (checked Limit Sell 71 100000 10 0) refl refl (omega arith) refl)

-- ---- the rows
pub no_bid_and_10_here : Comes cents false (entered (market_sell 72 5) (New 2 72 ∷ Booked 2 1 1 5 ∷ []) ∷ offer_10_here)
unfolding rulebook
no_bid_and_10_here = (_, next offer_10_run (enters 1 (checked Market Sell 72 0 5 0) refl refl (omega arith) refl))

pub no_bid_and_11_here : Refused false offer_11_here (market_sell 72 5) (row 15 Monitor 0)
unfolding rulebook
no_bid_and_11_here = is_refused false offer_11_here at_11 (market_sell 72 5) (of_monitor NoBid) (row 15 Monitor 0) offer_11_run refl refl

pub no_bid_and_10_away : Comes cents false (entered (market_sell 71 5) (New 1 71 ∷ Cancelled 1 5 NoPrice ∷ []) ∷ market 0 10) × (number_of NoPrice ≡ 3)
unfolding rulebook
no_bid_and_10_away = ((_, next (market_run false 0 10 refl refl) (enters 0 (checked Market Sell 71 0 5 0) refl refl (omega arith) refl)), refl)

pub nothing_below_1 : Comes cents false (entered (buy 71 1 10 0) (New 1 71 ∷ Booked 1 1 0 10 ∷ []) ∷ market 0 1)
unfolding rulebook
nothing_below_1 = (_, next (market_run false 0 1 refl refl) (enters 0 (checked Limit Buy 71 1 10 0) refl refl (omega arith) refl))

pub nothing_above_100000 : Comes cents false hidden_sell × Shows hidden_sell (record { bid = 0; offer = 0 })
unfolding rulebook
nothing_above_100000 = ((at_100000, hidden_run), (at_100000, hidden_run, refl))

pub uncrossed_again : Comes cents false (told 1 100 110 (Fill 1 2 106 5 ∷ []) ∷ crossed)
unfolding rulebook
uncrossed_again = (_, next crossed_run (tells refl))

pub past_the_protection : Comes cents false (entered (buy 72 112 30 1) (New 2 72 ∷ Fill 2 1 110 10 ∷ Cancelled 2 20 Protection ∷ []) ∷ offer_110_here) × (number_of Protection ≡ 2)
unfolding rulebook
past_the_protection = ((_, next offer_110_run (enters 1 (checked Limit Buy 72 112 30 1) refl refl (omega arith) refl)), refl)
