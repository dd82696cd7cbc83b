-- Orders that the monitor passes or refuses beside one away quote, by computation. Assumes nothing.
use Rattle.std.proofs.Common.{true, false, refl}
use Rattle.values.specs.declared.faults.Layer.TheVariants.{Monitor}
use Rattle.values.specs.declared.faults.MonitorFault.TheVariants.{WideMarket, BuyTooHigh, SellTooLow}
use Rattle.values.specs.Codes.{row}
use Rattle.edges.specs.Calls.{buy, sell, market_buy, market_sell, market, Passes, Refused}
use Rattle.edges.proofs.Steps.{rulebook, market_run, passes, stops}

pub offer_50_passes_74 : Passes false (market 0 50) (buy 71 74 10 0)
unfolding rulebook
offer_50_passes_74 = passes false 0 50 (buy 71 74 10 0) (market_run false 0 50 refl refl) refl

pub offer_50_refuses_75 : Refused false (market 0 50) (buy 71 75 10 0) (row 16 Monitor 0)
unfolding rulebook
offer_50_refuses_75 = stops false 0 50 (buy 71 75 10 0) BuyTooHigh (market_run false 0 50 refl refl) refl

pub offer_51_passes_76 : Passes false (market 0 51) (buy 71 76 10 0)
unfolding rulebook
offer_51_passes_76 = passes false 0 51 (buy 71 76 10 0) (market_run false 0 51 refl refl) refl

pub offer_51_refuses_77 : Refused false (market 0 51) (buy 71 77 10 0) (row 16 Monitor 0)
unfolding rulebook
offer_51_refuses_77 = stops false 0 51 (buy 71 77 10 0) BuyTooHigh (market_run false 0 51 refl refl) refl

pub offer_1200_passes_1449 : Passes false (market 0 1200) (buy 71 1449 10 0)
unfolding rulebook
offer_1200_passes_1449 = passes false 0 1200 (buy 71 1449 10 0) (market_run false 0 1200 refl refl) refl

pub offer_1200_refuses_1450 : Refused false (market 0 1200) (buy 71 1450 10 0) (row 16 Monitor 0)
unfolding rulebook
offer_1200_refuses_1450 = stops false 0 1200 (buy 71 1450 10 0) BuyTooHigh (market_run false 0 1200 refl refl) refl

pub bid_26_passes_14 : Passes false (market 26 0) (sell 71 14 10 0)
unfolding rulebook
bid_26_passes_14 = passes false 26 0 (sell 71 14 10 0) (market_run false 26 0 refl refl) refl

pub bid_26_refuses_13 : Refused false (market 26 0) (sell 71 13 10 0) (row 17 Monitor 0)
unfolding rulebook
bid_26_refuses_13 = stops false 26 0 (sell 71 13 10 0) SellTooLow (market_run false 26 0 refl refl) refl

pub bid_25_passes_1 : Passes false (market 25 0) (sell 71 1 10 0)
unfolding rulebook
bid_25_passes_1 = passes false 25 0 (sell 71 1 10 0) (market_run false 25 0 refl refl) refl

pub bid_1200_passes_951 : Passes false (market 1200 0) (sell 71 951 10 0)
unfolding rulebook
bid_1200_passes_951 = passes false 1200 0 (sell 71 951 10 0) (market_run false 1200 0 refl refl) refl

pub bid_1200_refuses_950 : Refused false (market 1200 0) (sell 71 950 10 0) (row 17 Monitor 0)
unfolding rulebook
bid_1200_refuses_950 = stops false 1200 0 (sell 71 950 10 0) SellTooLow (market_run false 1200 0 refl refl) refl

pub width_499_passes_a_buy : Passes false (market 100 599) (market_buy 71 10)
unfolding rulebook
width_499_passes_a_buy = passes false 100 599 (market_buy 71 10) (market_run false 100 599 refl refl) refl

pub width_500_refuses_a_buy : Refused false (market 100 600) (market_buy 71 10) (row 14 Monitor 0)
unfolding rulebook
width_500_refuses_a_buy = stops false 100 600 (market_buy 71 10) WideMarket (market_run false 100 600 refl refl) refl

pub width_mark_passes_a_buy : Passes true (market 100 600) (market_buy 71 10)
unfolding rulebook
width_mark_passes_a_buy = passes true 100 600 (market_buy 71 10) (market_run true 100 600 refl refl) refl

pub width_499_passes_a_sell : Passes false (market 100 599) (market_sell 71 10)
unfolding rulebook
width_499_passes_a_sell = passes false 100 599 (market_sell 71 10) (market_run false 100 599 refl refl) refl

pub width_500_refuses_a_sell : Refused false (market 100 600) (market_sell 71 10) (row 14 Monitor 0)
unfolding rulebook
width_500_refuses_a_sell = stops false 100 600 (market_sell 71 10) WideMarket (market_run false 100 600 refl refl) refl

pub width_mark_passes_a_sell : Passes true (market 100 600) (market_sell 71 10)
unfolding rulebook
width_mark_passes_a_sell = passes true 100 600 (market_sell 71 10) (market_run true 100 600 refl refl) refl

pub no_bid_passes_499 : Passes false (market 0 499) (market_buy 71 10)
unfolding rulebook
no_bid_passes_499 = passes false 0 499 (market_buy 71 10) (market_run false 0 499 refl refl) refl

pub no_bid_refuses_500 : Refused false (market 0 500) (market_buy 71 10) (row 14 Monitor 0)
unfolding rulebook
no_bid_refuses_500 = stops false 0 500 (market_buy 71 10) WideMarket (market_run false 0 500 refl refl) refl
