use Rattle.std.proofs.Common.{◌≡◌, ◌++◌, take}
use Rattle.std.specs.List.{flat_map}
use Rattle.values.specs.Texts.{ended}
use Rattle.values.proofs.writing.put_lines.Given as goal

abbrev pub invariant-loop-line : goal.invariant-loop-line
invariant-loop-line g l = g.S.Sink.bytes l.out ≡ g.S.Sink.bytes l.initial.out ++ flat_map (ended g.L.Line.text) (take l.line-index l.lines)
