use Rattle.std.proofs.Common.{◌≡◌, ◌+◌, ◌≤◌, ◌++◌, length, decimal}
use Rattle.values.specs.Texts.{text_from}
use Rattle.values.proofs.writing.put_number.Given as goal

abbrev pub invariant-loop-front : goal.invariant-loop-front
invariant-loop-front l =
    (decimal l.n ++ text_from l.end l.initial.line ≡ decimal l.front ++ text_from l.at l.line) × (l.end + length (decimal l.front) ≤ l.at + 10) × (l.front ≤ l.n) × (2 ≤ l.at) × (l.at ≤ 64) × (length l.line ≡ 128)

abbrev pub decreases-loop-front : goal.decreases-loop-front
decreases-loop-front l = l.front
