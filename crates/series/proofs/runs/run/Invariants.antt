use Rattle.std.proofs.Common.{◌≡◌, List, length, take}
use Rattle.rules.specs.Steps.{Event, Run}
use Rattle.series.specs.Calls.{stands}
use Rattle.series.specs.Runs.{Asked}
use Rattle.series.proofs.runs.run.Given as goal

-- the asks so far have a history that leads here, on the same ladder
abbrev pub invariant-loop-ask : goal.invariant-loop-ask
invariant-loop-ask g l =
    (l.series.ladder ≡ l.initial.series.ladder)
    × ((h : List Event) × Asked (length l.initial.reports) (length l.initial.slips) (take l.ask-index l.asks) h × Run (g.L.Ladder.rung l.initial.series.ladder) l.wide h (stands g.B.Board.quotes l.series))
