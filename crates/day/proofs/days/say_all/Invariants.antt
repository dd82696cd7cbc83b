use Rattle.std.proofs.Common.{◌≡◌}
use Rattle.lines.specs.Inputs.{lines_of}
use Rattle.series.specs.Calls.{stands}
use Rattle.day.proofs.Onward.{Onward}
use Rattle.day.proofs.days.say_all.Given as goal

abbrev pub invariant-loop-line : goal.invariant-loop-line
invariant-loop-line g l =
    (l.series.ladder ≡ l.initial.series.ladder) × Onward g.V.Voice.words.say (g.L.Ladder.rung l.initial.series.ladder) (g.S.Sink.bytes l.initial.out) (stands g.B.Board.quotes l.initial.series) (lines_of l.initial.lines.rest.now) (g.S.Sink.bytes l.out) (stands g.B.Board.quotes l.series) (lines_of l.line-iterator.rest.now)
