-- The whole table of edges. Assumes nothing.
use Rattle.std.proofs.Common.{refl}
use Rattle.edges.specs.Edges.{Edges}
use Rattle.edges.proofs.Steps.{rulebook}
use Rattle.edges.proofs.Monitor as monitor
use Rattle.edges.proofs.Books as books
use Rattle.edges.proofs.Readings as readings

pub edges : Edges
unfolding rulebook
edges = record {
  fives_from_300 = (refl, refl, refl);
  tens_from_300 = refl;
  stays_at_the_top = refl;
  stays_at_the_bottom = refl;
  offer_50_passes_74 = monitor.offer_50_passes_74;
  offer_50_refuses_75 = monitor.offer_50_refuses_75;
  offer_51_passes_76 = monitor.offer_51_passes_76;
  offer_51_refuses_77 = monitor.offer_51_refuses_77;
  offer_1200_passes_1449 = monitor.offer_1200_passes_1449;
  offer_1200_refuses_1450 = monitor.offer_1200_refuses_1450;
  bid_26_passes_14 = monitor.bid_26_passes_14;
  bid_26_refuses_13 = monitor.bid_26_refuses_13;
  bid_25_passes_1 = monitor.bid_25_passes_1;
  bid_1200_passes_951 = monitor.bid_1200_passes_951;
  bid_1200_refuses_950 = monitor.bid_1200_refuses_950;
  width_499_passes = (monitor.width_499_passes_a_buy, monitor.width_499_passes_a_sell);
  width_500_refused = (monitor.width_500_refuses_a_buy, monitor.width_500_refuses_a_sell);
  no_bid_counts_0 = (monitor.no_bid_passes_499, monitor.no_bid_refuses_500);
  width_mark_passes = (monitor.width_mark_passes_a_buy, monitor.width_mark_passes_a_sell);
  no_bid_and_10_here = books.no_bid_and_10_here;
  no_bid_and_11_here = books.no_bid_and_11_here;
  no_bid_and_10_away = books.no_bid_and_10_away;
  nothing_below_1 = books.nothing_below_1;
  nothing_above_100000 = books.nothing_above_100000;
  crossed_away = (books.at_crossed, books.crossed_run);
  uncrossed_again = books.uncrossed_again;
  past_the_protection = books.past_the_protection;
  not_at_the_displayed_price = readings.not_at_the_displayed_price;
  not_by_booked_prices = readings.not_by_booked_prices;
  sell_13_passes = readings.sell_13_passes;
  sell_13_not_refused = readings.sell_13_not_refused;
  not_by_a_rounded_half = (refl, refl);
  buy_76_not_refused = readings.buy_76_not_refused;
  not_before_all_are_repriced = readings.not_before_all_are_repriced;
  repriced_to_108 = readings.repriced_to_108;
  not_filled_at_106 = readings.not_filled_at_106;
}
