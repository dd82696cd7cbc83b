use Rattle.std.proofs.Common.{◌≡◌, ◌+◌, ◌*◌, ◌≤◌, [], ◌∷◌, length}
use Rattle.values.specs.Texts.{numbered, text_from}
use Rattle.values.proofs.writing.gather.Given as goal

abbrev pub invariant-loop-left : goal.invariant-loop-left
invariant-loop-left g l =
    (numbered l.left (text_from l.at l.line) ≡ numbered l.fn.numbers (10 ∷ [])) × (11 * length l.left + 8 ≤ l.at) × (l.at ≤ 64)

abbrev pub decreases-loop-left : goal.decreases-loop-left
decreases-loop-left g l = length l.left
