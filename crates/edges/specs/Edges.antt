-- The rulebook at its edges: one table, a row for each, named for what it shows. What happens to orders and quotes is shown
-- on runs of a new series. At the end stand readings that are wrong, and an example on which the rulebook says otherwise.
-- Assumes nothing.
--     bid_26_booked, crossed, offer_10_here, offer_11_here, offer_110_here, hidden_sell     what went before, the latest first
--     Edges                                                                               the table
use Rattle.std.specs.Prelude.{◌≡◌, true, false, List, [], ◌∷◌, Some, None}
use Rattle.market.specs.Rungs.{cents, cents_then_fives, fives_then_tens}
use Rattle.values.specs.declared.terms.Side.TheVariants.{Buy, Sell}
use Rattle.values.specs.declared.calls.Call.TheVariants as call
use Rattle.values.specs.declared.faults.Layer.TheVariants.{Monitor}
use Rattle.values.specs.declared.faults.MonitorFault.TheVariants.{BuyTooHigh, SellTooLow}
use Rattle.values.specs.declared.reports.Report.TheVariants.{New, Fill, Booked, Cancelled}
use Rattle.values.specs.declared.reports.Cause.TheVariants.{Protection, NoPrice}
use Rattle.values.specs.Codes.{row, of_monitor, number_of}
use Rattle.rules.specs.Ladders.{above, reach}
use Rattle.rules.specs.Monitor.{too_high}
use Rattle.rules.specs.Routing.{bests}
use Rattle.rules.specs.Faults.{objection_now}
use Rattle.rules.specs.States.{State}
use Rattle.rules.specs.Steps.{Event, Run, order_in}
use Rattle.rules.specs.Steps.Event.{refused}
use Rattle.rules.specs.Day.{room}
use Rattle.market.specs.Quotes.{told as told_to}
use Rattle.edges.specs.Calls.{quoting, buy, sell, market_buy, market_sell, told, entered, market, Comes, Passes, Refused, Shows, Denied}
use Rattle.edges.specs.Readings.{too_high_halved, objection_booked, quote_at_once}

-- away offer 26: a buy at 26 rests booked at 26 and displayed at 25
abbrev pub bid_26_booked : List Event
bid_26_booked = entered (buy 71 26 10 0) (New 1 71 ∷ Booked 1 26 25 10 ∷ []) ∷ market 0 26

-- away bid 106 over away offer 104: a buy at 110 rests at 104, then a sell at 100 rests at 106
abbrev pub crossed : List Event
crossed =
    entered (sell 72 100 5 0) (New 2 72 ∷ Booked 2 106 107 5 ∷ [])
    ∷ entered (buy 71 110 5 0) (New 1 71 ∷ Booked 1 104 103 5 ∷ [])
    ∷ market 106 104

-- no away quote: a sell is displayed here at 10
abbrev pub offer_10_here : List Event
offer_10_here = entered (sell 71 10 10 0) (New 1 71 ∷ Booked 1 10 10 10 ∷ []) ∷ market 0 0

-- the same at 11
abbrev pub offer_11_here : List Event
offer_11_here = entered (sell 71 11 10 0) (New 1 71 ∷ Booked 1 11 11 10 ∷ []) ∷ market 0 0

-- away offer 112: a sell of ten is displayed here at 110
abbrev pub offer_110_here : List Event
offer_110_here = entered (sell 71 110 10 0) (New 1 71 ∷ Booked 1 110 110 10 ∷ []) ∷ market 0 112

-- away bid 100,000: a sell rests behind it, where there is no rung left to display it at
abbrev pub hidden_sell : List Event
hidden_sell = entered (sell 71 100000 10 0) (New 1 71 ∷ Booked 1 100000 0 10 ∷ []) ∷ market 100000 0

pub record Edges : Type 0 where
  -- every cent below 300, fives from there: above 299 comes 300, then 305
  pub fives_from_300 : (above cents_then_fives 299 ≡ 300) × (above cents_then_fives 300 ≡ 305) × (reach cents_then_fives Buy 2 299 ≡ 305)
  -- fives below 300, tens from there: two rungs above 295 is 310
  pub tens_from_300 : reach fives_then_tens Buy 2 295 ≡ 310
  -- going up stays at 100,000, going down at the lowest rung
  pub stays_at_the_top : reach fives_then_tens Buy 3 99980 ≡ 100000
  pub stays_at_the_bottom : reach fives_then_tens Sell 3 10 ≡ 5
  -- limit buys: up to an offer of 50 from 25 above it, then from three halves of it, then from 250 above it
  pub offer_50_passes_74 : Passes false (market 0 50) (buy 71 74 10 0)
  pub offer_50_refuses_75 : Refused false (market 0 50) (buy 71 75 10 0) (row 16 Monitor 0)
  pub offer_51_passes_76 : Passes false (market 0 51) (buy 71 76 10 0)
  pub offer_51_refuses_77 : Refused false (market 0 51) (buy 71 77 10 0) (row 16 Monitor 0)
  pub offer_1200_passes_1449 : Passes false (market 0 1200) (buy 71 1449 10 0)
  pub offer_1200_refuses_1450 : Refused false (market 0 1200) (buy 71 1450 10 0) (row 16 Monitor 0)
  -- limit sells: down to half of a bid above 25
  pub bid_26_passes_14 : Passes false (market 26 0) (sell 71 14 10 0)
  pub bid_26_refuses_13 : Refused false (market 26 0) (sell 71 13 10 0) (row 17 Monitor 0)
  pub bid_25_passes_1 : Passes false (market 25 0) (sell 71 1 10 0)
  -- or down to 250 below it, where that is nearer
  pub bid_1200_passes_951 : Passes false (market 1200 0) (sell 71 951 10 0)
  pub bid_1200_refuses_950 : Refused false (market 1200 0) (sell 71 950 10 0) (row 17 Monitor 0)
  -- market orders of both sides: refused where the offer is 500 or more above the bid, an absent bid counting 0
  pub width_499_passes : Passes false (market 100 599) (market_buy 71 10) × Passes false (market 100 599) (market_sell 71 10)
  pub width_500_refused : Refused false (market 100 600) (market_buy 71 10) (row 14 Monitor 0) × Refused false (market 100 600) (market_sell 71 10) (row 14 Monitor 0)
  pub no_bid_counts_0 : Passes false (market 0 499) (market_buy 71 10) × Refused false (market 0 500) (market_buy 71 10) (row 14 Monitor 0)
  -- unless the width mark lets wide markets through
  pub width_mark_passes : Passes true (market 100 600) (market_buy 71 10) × Passes true (market 100 600) (market_sell 71 10)
  -- a market sell without a bid: a limit sell at the lowest rung where 10 is displayed here
  pub no_bid_and_10_here : Comes cents false (entered (market_sell 72 5) (New 2 72 ∷ Booked 2 1 1 5 ∷ []) ∷ offer_10_here)
  -- refused where the offer is 11
  pub no_bid_and_11_here : Refused false offer_11_here (market_sell 72 5) (row 15 Monitor 0)
  -- and goes on where 10 is offered away alone: it has no price to rest at
  pub no_bid_and_10_away : Comes cents false (entered (market_sell 71 5) (New 1 71 ∷ Cancelled 1 5 NoPrice ∷ []) ∷ market 0 10) × (number_of NoPrice ≡ 3)
  -- a buy at the away offer 1 is booked at 1 and displayed at 0, since there is no rung below
  pub nothing_below_1 : Comes cents false (entered (buy 71 1 10 0) (New 1 71 ∷ Booked 1 1 0 10 ∷ []) ∷ market 0 1)
  -- a sell booked at 100,000 behind the away bid is displayed at 0, and the best displayed offer passes over it
  pub nothing_above_100000 : Comes cents false hidden_sell × Shows hidden_sell (record { bid = 0; offer = 0 })
  -- beside a crossed away market a buy and a sell rest past one another, and once the quote has uncrossed they trade at 106
  pub crossed_away : Comes cents false crossed
  pub uncrossed_again : Comes cents false (told 1 100 110 (Fill 1 2 106 5 ∷ []) ∷ crossed)
  -- one rung above the offer 110 here is 111, short of the away offer 112 and of the limit: what is left is cancelled, cause 2
  pub past_the_protection : Comes cents false (entered (buy 72 112 30 1) (New 2 72 ∷ Fill 2 1 110 10 ∷ Cancelled 2 20 Protection ∷ []) ∷ offer_110_here) × (number_of Protection ≡ 2)
  -- WRONG: a fill at the displayed price. The sell is displayed at 107, and no step fills it there
  pub not_at_the_displayed_price : Shows crossed (record { bid = 103; offer = 107 }) × Denied crossed (told 1 100 110 (Fill 1 2 107 5 ∷ []))
  -- WRONG: booked prices in the best bid here. By 26 the sell at 13 would be refused; by 25 it passes, and trades at 26
  pub not_by_booked_prices :
      (s : State) × Run cents false bid_26_booked s
      × (objection_booked s (order_in cents (sell 72 13 10 0)) ≡ Some SellTooLow)
      × (objection_now s (order_in cents (sell 72 13 10 0)) ≡ None)
  pub sell_13_passes : Comes cents false (entered (sell 72 13 10 0) (New 2 72 ∷ Fill 2 1 26 10 ∷ []) ∷ bid_26_booked)
  pub sell_13_not_refused : Denied bid_26_booked (refused (call.Order (sell 72 13 10 0)) room (of_monitor SellTooLow))
  -- WRONG: half of 51 taken as 25. Then 76 would be refused, as 77 is
  pub not_by_a_rounded_half : (too_high_halved 76 51 ≡ true) × (too_high 76 51 ≡ false)
  pub buy_76_not_refused : Denied (market 0 51) (refused (call.Order (buy 71 76 10 0)) room (of_monitor BuyTooHigh))
  -- WRONG: trading before every order has been re-priced. The sell would be hit at 106, under the new away bid 108
  pub not_before_all_are_repriced :
      (s : State) × Run cents false crossed s
      × ((quote_at_once (bests (told_to s.quotes 1 (quoting 108 112))) cents s.orders).out ≡ Fill 1 2 106 5 ∷ [])
  pub repriced_to_108 : Comes cents false (told 1 108 112 (Fill 1 2 108 5 ∷ []) ∷ crossed)
  pub not_filled_at_106 : Denied crossed (told 1 108 112 (Fill 1 2 106 5 ∷ []))
