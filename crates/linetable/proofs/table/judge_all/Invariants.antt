use Rattle.std.proofs.Common.{◌≡◌, ◌++◌, string_bytes}
use Rattle.lines.specs.Inputs.{lines_of}
use Rattle.linetable.specs.Table.{table}
use Rattle.linetable.specs.declared.table.Stage.TheVariants.{First}
use Rattle.linetable.proofs.table.judge_all.Given as goal

-- what is written, with what is still to come, is all
abbrev pub invariant-loop-line : goal.invariant-loop-line
invariant-loop-line l = string_bytes l.out ++ table l.stage (lines_of l.line-iterator.rest.now) ≡ string_bytes l.initial.out ++ table First (lines_of l.input)
