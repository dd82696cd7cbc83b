use Rattle.std.proofs.Common.{◌≡◌, string_bytes}
use Rattle.market.specs.Any.{rungs_of}
use Rattle.market.specs.Packing.{unpacked}
use Rattle.lines.specs.Inputs.{lines_of}
use Rattle.morning.proofs.Sofar.{Sofar}
use Rattle.morning.proofs.answers.answer_all.Given as goal

abbrev pub invariant-loop-line : goal.invariant-loop-line
invariant-loop-line l =
    (l.table.table ≡ unpacked l.packed.bytes.now) × Sofar (rungs_of l.ladder) (string_bytes l.initial.out) (lines_of l.initial.lines.rest.now) (string_bytes l.out) l.table.table (lines_of l.line-iterator.rest.now)
