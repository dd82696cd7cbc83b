-- Fills that the law forbids. Assumes nothing.
use Rattle.std.proofs.Common.{◌≡◌, ◌<◌, ◌≤◌, false, [], ◌∷◌, replicate, refl, subst, arith}
use Rattle.market.specs.Quotes.{absent}
use Rattle.market.specs.Rungs.{cents}
use Rattle.values.specs.declared.terms.Side.{Side}
use Rattle.values.specs.declared.terms.Side.TheVariants.{Buy, Sell}
use Rattle.values.specs.declared.terms.Kind.TheVariants.{Limit}
use Rattle.values.specs.declared.reports.Report.TheVariants.{New, Booked}
use Rattle.rules.specs.declared.Order.{Order}
use Rattle.rules.specs.States.{State}
use Rattle.rules.specs.Slips.{no_sent}
use Rattle.rules.specs.Steps.{Step}
use Rattle.rules.specs.Steps.Step.{told as tells, entered as enters}
use Rattle.rules.specs.Steps.Run.{next}
use Rattle.edges.specs.Calls.{quoting, buy, sell, told, entered, Comes}
use Rattle.edges.proofs.Series.{open_with, terms, checked, rests}
use Rattle.edges.proofs.Steps.{rulebook, market_run}
use Rattle.bites.specs.Wrong.{two_buys, sold_at, uncrossed_at, offered_109, ThroughTheOffer, InventedSize, AwayUnasked, OfNothing, TwoBuysTrade, UnderTheBid, PastTheMakersProtection, QuoteForgotten}
use Rattle.bites.proofs.Runs.{at_sell, sell_run, hit_run, above_bound}

pub through_the_offer : ThroughTheOffer
unfolding rulebook
through_the_offer = (hit_run, λ l. above_bound 112 113 (omega arith) (omega arith) l.fills.0.1.0.0)

pub invented_size : InventedSize
unfolding rulebook
invented_size = (hit_run, λ l. let k : 11 ≤ 10 = l.within 1 in omega arith)

pub away_unasked : AwayUnasked
unfolding rulebook
away_unasked = (hit_run, λ l. let k : 10 ≡ 0 = l.answered.0 2 in omega arith)

pub of_nothing : OfNothing
unfolding rulebook
of_nothing = (hit_run, λ l. let k : 0 < 0 = l.fills.0.1.1.0.5 in omega arith)

abbrev at_buy : State
at_buy = open_with false (quoting 108 112) (rests 1 (terms Buy 71 110 0 10) 110 110 10 ∷ []) 1

buy_step : Step cents (open_with false (quoting 108 112) [] 0) (entered (buy 71 110 10 0) (New 1 71 ∷ Booked 1 110 110 10 ∷ [])) at_buy
unfolding rulebook
buy_step = enters 0 (checked Limit Buy 71 110 10 0) refl refl (omega arith) refl

sold_run : Comes cents false (sold_at 110)
unfolding rulebook
sold_run = (_, next (next (market_run false 108 112 refl refl) buy_step) (enters 1 (checked Limit Sell 72 100 10 0) refl refl (omega arith) refl))

pub under_the_bid : UnderTheBid
unfolding rulebook
under_the_bid = (sold_run, λ l. let k : 108 ≤ 107 = l.fills.0.1.0.1 in omega arith)

-- ---- two buys
two_buys_run : Comes cents false (two_buys (Booked 2 112 111 10 ∷ []))
unfolding rulebook
two_buys_run = (_, next (next (market_run false 108 112 refl refl) buy_step) (enters 1 (checked Limit Buy 72 115 10 0) refl refl (omega arith) refl))

abbrev Buys : Side → Type 0
Buys Buy = Unit {0}
Buys Sell = ⊥

pub two_buys_trade : TwoBuysTrade
unfolding rulebook
two_buys_trade = (two_buys_run, λ l. let e : Buy ≡ Sell = l.fills.0.1.0.4 in subst Buys e tt)

-- ---- the protected sell
abbrev buy_1 : Order
buy_1 = rests 1 (terms Buy 71 110 0 5) 104 103 5

-- protected one rung below the bid 106
abbrev sell_2 : Order
sell_2 = rests 2 (terms Sell 72 100 105 5) 106 107 5

protected_1 : Step cents (open_with false (quoting 106 104) [] 0) (entered (buy 71 110 5 0) (New 1 71 ∷ Booked 1 104 103 5 ∷ [])) (open_with false (quoting 106 104) (buy_1 ∷ []) 1)
unfolding rulebook
protected_1 = enters 0 (checked Limit Buy 71 110 5 0) refl refl (omega arith) refl

protected_2 : Step cents (open_with false (quoting 106 104) (buy_1 ∷ []) 1) (entered (sell 72 100 5 1) (New 2 72 ∷ Booked 2 106 107 5 ∷ [])) (open_with false (quoting 106 104) (buy_1 ∷ sell_2 ∷ []) 2)
unfolding rulebook
protected_2 = enters 1 (checked Limit Sell 72 100 5 1) refl refl (omega arith) refl

uncrossed_run : Comes cents false (uncrossed_at 106)
unfolding rulebook
uncrossed_run = (_, next (next (next (market_run false 106 104 refl refl) protected_1) protected_2) (tells refl))

pub past_the_makers_protection : PastTheMakersProtection
unfolding rulebook
past_the_makers_protection = (uncrossed_run, λ l. let k : 105 ≤ 104 = l.fills.0.0.3.1 in omega arith)

-- ---- the forgotten quote
abbrev at_109 : State
at_109 = record { opened = at_sell.opened; wide = false; quotes = quoting 108 112 ∷ quoting 0 109 ∷ replicate 13 absent; orders = at_sell.orders; sent = replicate 64 no_sent; arrivals = 1; numbered = 0 }

tell_109 : Step cents at_sell (told 2 0 109 []) at_109
unfolding rulebook
tell_109 = tells refl

remembered_run : Comes cents false (offered_109 (New 2 72 ∷ Booked 2 109 108 10 ∷ []))
unfolding rulebook
remembered_run = (_, next (next sell_run tell_109) (enters 1 (checked Limit Buy 72 115 10 0) refl refl (omega arith) refl))

pub quote_forgotten : QuoteForgotten
unfolding rulebook
quote_forgotten = ((remembered_run, λ l. above_bound 109 110 (omega arith) (omega arith) l.fills.0.1.0.0), hit_run)
