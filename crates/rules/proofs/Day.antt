-- The day is a run, by computation: the definitions give exactly these reports, slips and faults. Assumes nothing.
use Rattle.std.proofs.Common.{false, refl, arith}
use Rattle.market.specs.Rungs.{cents, first_from, step_up, bottom, last_below}
use Rattle.values.specs.declared.faults.SeriesFault.TheVariants.{NotResting}
use Rattle.values.specs.Codes.{of_series}
use Rattle.rules.specs.Sides.{tops}
use Rattle.rules.specs.Ladders.{beneath, seek, above}
use Rattle.rules.specs.Book.{pick}
use Rattle.rules.specs.Monitor.{admit}
use Rattle.rules.specs.Trading.{hit, trade}
use Rattle.rules.specs.Routing.{bests, shares, routing}
use Rattle.rules.specs.Resting.{rest_at, settle, turn, enter}
use Rattle.rules.specs.Quoting.{turns, quote}
use Rattle.rules.specs.Slips.{seat, file, filed}
use Rattle.rules.specs.States.{new}
use Rattle.rules.specs.Faults.{rows, refusal}
use Rattle.rules.specs.Steps.{Step, order_in}
use Rattle.rules.specs.Steps.Step.{opened, told, entered, dropped, replied, left}
use Rattle.rules.specs.Steps.Run.{start, next}
use Rattle.rules.specs.Day.{sell_checked, buy_checked, day_1, day_2, day_3, day_4, day_5, day_6, day_7, day_8, day_9, day_10, said_1, said_2, said_3, said_4, said_5, said_6, said_7, said_8, said_9, said_10, said_11, OneDay}

step_1 : Step cents (new false) said_1 day_1
unfolding refusal rows quote turns pick bests
step_1 = told refl

step_2 : Step cents day_1 said_2 day_2
unfolding refusal rows quote turns pick bests
step_2 = told refl

step_3 : Step cents day_2 said_3 day_3
unfolding refusal rows
step_3 = opened refl

step_4 : Step cents day_3 said_4 day_4
unfolding refusal rows pick seat order_in admit bests tops first_from step_up bottom last_below enter turn trade hit routing shares settle rest_at beneath seek above file filed
step_4 = entered 0 sell_checked refl refl (omega arith) refl

step_5 : Step cents day_4 said_5 day_5
unfolding refusal rows pick seat order_in admit bests tops first_from step_up bottom last_below enter turn trade hit routing shares settle rest_at beneath seek above file filed
step_5 = entered 1 buy_checked refl refl (omega arith) refl

step_6 : Step cents day_5 said_6 day_6
unfolding refusal rows quote turns pick bests turn trade hit settle rest_at beneath
step_6 = told refl

step_7 : Step cents day_6 said_7 day_7
unfolding refusal rows quote turns pick bests turn trade hit settle rest_at beneath
step_7 = told refl

step_8 : Step cents day_7 said_8 day_8
unfolding refusal rows seat
step_8 = replied 0 refl refl

step_9 : Step cents day_8 said_9 day_9
unfolding refusal rows seat
step_9 = replied 1 refl refl

step_10 : Step cents day_9 said_10 day_10
unfolding refusal rows pick
step_10 = dropped 1 refl refl

step_11 : Step cents day_10 said_11 day_10
unfolding refusal rows pick
step_11 = left (of_series NotResting) refl

pub one_day : OneDay
one_day = next (next (next (next (next (next (next (next (next (next (next start step_1) step_2) step_3) step_4) step_5) step_6) step_7) step_8) step_9) step_10) step_11
