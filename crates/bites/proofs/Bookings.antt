-- Bookings that the law forbids. Assumes nothing.
use Rattle.std.proofs.Common.{◌≡◌, ℕ, ◌<◌, ◌≤◌, false, List, [], ◌∷◌, refl, ap, inl, inr, arith}
use Rattle.market.specs.Rungs.{cents}
use Rattle.values.specs.declared.terms.Side.TheVariants.{Buy, Sell}
use Rattle.values.specs.declared.terms.Kind.TheVariants.{Limit}
use Rattle.values.specs.declared.reports.Report.TheVariants.{New, Fill, Booked, Cancelled}
use Rattle.values.specs.declared.reports.Cause.TheVariants.{Protection}
use Rattle.values.specs.declared.faults.SeriesFault.TheVariants.{NoRoomForReports}
use Rattle.values.specs.Codes.{of_series}
use Rattle.rules.specs.declared.Order.{Order}
use Rattle.rules.specs.States.{State}
use Rattle.rules.specs.Steps.{Step, Run}
use Rattle.rules.specs.Steps.Step.{told as tells, entered as enters, left as leaves}
use Rattle.rules.specs.Steps.Run.{next}
use Rattle.edges.specs.Calls.{quoting, buy, sell, entered, Comes}
use Rattle.edges.proofs.Series.{open_with, terms, checked, rests}
use Rattle.edges.proofs.Steps.{rulebook, market_run}
use Rattle.bites.specs.Wrong.{displayed_at, three_rest, uncrossed_writes, OneTurnWritesNothing, moved_away, announced_as, Locks, RestsUnbooked, RestMisstated, WrittenPastTheRoom, OnlyTheOldest, BookedPastItsProtection, NumberSkipped}
use Rattle.bites.proofs.Runs.{sell_run, above_bound}

displayed_run : Comes cents false (displayed_at 111)
unfolding rulebook
displayed_run = (_, next (market_run false 108 112 refl refl) (enters 0 (checked Limit Buy 71 112 10 0) refl refl (omega arith) refl))

pub locks : Locks
unfolding rulebook
locks = (displayed_run, λ l. elim (l.unlocked 1 (omega arith)) [ inl e ↦ omega arith | inr k ↦ omega arith ])

pub rests_unbooked : RestsUnbooked
unfolding rulebook
rests_unbooked = (displayed_run, λ l. let k : 0 < 0 = (l.bounded 1 (omega arith)).2 in omega arith)

pub rest_misstated : RestMisstated
unfolding rulebook
rest_misstated = (displayed_run, λ l. let k : 9 ≡ 10 = l.stated.0.0 in omega arith)

pub written_past_the_room : WrittenPastTheRoom
unfolding rulebook
written_past_the_room = ((_, next (market_run false 108 112 refl refl) (leaves (of_series NoRoomForReports) refl)), λ l. let k : 2 ≤ 1 = l.room.0.2 in omega arith)

-- ---- three rest
abbrev buy_1 : Order
buy_1 = rests 1 (terms Buy 71 90 0 5) 90 90 5

abbrev buy_2 : Order
buy_2 = rests 2 (terms Buy 72 110 0 5) 104 103 5

abbrev sell_3 : Order
sell_3 = rests 3 (terms Sell 73 100 0 5) 106 107 5

abbrev at_three : State
at_three = open_with false (quoting 106 104) (buy_1 ∷ buy_2 ∷ sell_3 ∷ []) 3

three_1 : Step cents (open_with false (quoting 106 104) [] 0) (entered (buy 71 90 5 0) (New 1 71 ∷ Booked 1 90 90 5 ∷ [])) (open_with false (quoting 106 104) (buy_1 ∷ []) 1)
unfolding rulebook
three_1 = enters 0 (checked Limit Buy 71 90 5 0) refl refl (omega arith) refl

three_2 : Step cents (open_with false (quoting 106 104) (buy_1 ∷ []) 1) (entered (buy 72 110 5 0) (New 2 72 ∷ Booked 2 104 103 5 ∷ [])) (open_with false (quoting 106 104) (buy_1 ∷ buy_2 ∷ []) 2)
unfolding rulebook
three_2 = enters 1 (checked Limit Buy 72 110 5 0) refl refl (omega arith) refl

three_3 : Step cents (open_with false (quoting 106 104) (buy_1 ∷ buy_2 ∷ []) 2) (entered (sell 73 100 5 0) (New 3 73 ∷ Booked 3 106 107 5 ∷ [])) at_three
unfolding rulebook
three_3 = enters 2 (checked Limit Sell 73 100 5 0) refl refl (omega arith) refl

three_run : Run cents false three_rest at_three
unfolding rulebook
three_run = next (next (next (market_run false 106 104 refl refl) three_1) three_2) three_3

taken_run : Comes cents false (uncrossed_writes (Fill 2 3 106 5 ∷ []))
unfolding rulebook
taken_run = (_, next three_run (tells refl))

one_turn : OneTurnWritesNothing
unfolding rulebook
one_turn = (at_three, three_run, refl)

pub only_the_oldest : OnlyTheOldest
unfolding rulebook
only_the_oldest = ((taken_run, λ l. l.uncrossed 2 3 106 (omega arith) (omega arith) refl refl (inr (omega arith)) (omega arith) (inr (omega arith), inl refl) (omega arith, omega arith)), one_turn)

-- ---- a booking past its protection
abbrev buy_110 : Order
buy_110 = rests 1 (terms Buy 71 120 111 10) 110 109 10

rest_110 : Step cents (open_with false (quoting 108 110) [] 0) (entered (buy 71 120 10 1) (New 1 71 ∷ Booked 1 110 109 10 ∷ [])) (open_with false (quoting 108 110) (buy_110 ∷ []) 1)
unfolding rulebook
rest_110 = enters 0 (checked Limit Buy 71 120 10 1) refl refl (omega arith) refl

moved_run : Comes cents false (moved_away (Cancelled 1 10 Protection))
unfolding rulebook
moved_run = (_, next (next (market_run false 108 110 refl refl) rest_110) (tells refl))

pub booked_past_its_protection : BookedPastItsProtection
unfolding rulebook
booked_past_its_protection = (moved_run, λ l. above_bound 111 112 (omega arith) (omega arith) (l.bounded 1 (omega arith)).0.1)

-- ---- a number left out
announced_run : Comes cents false (announced_as 2)
unfolding rulebook
announced_run = (_, next sell_run (enters 1 (checked Limit Sell 72 115 10 0) refl refl (omega arith) refl))

abbrev first_number : List (ℕ × ℕ) → ℕ
first_number [] = 0
first_number (x ∷ xs) = x.0

pub number_skipped : NumberSkipped
unfolding rulebook
number_skipped = (announced_run, λ l. let e : 3 ≡ 2 = ap first_number l.counted.0 in omega arith)
