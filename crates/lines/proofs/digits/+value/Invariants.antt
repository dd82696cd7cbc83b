use Rattle.std.proofs.Common.{length}
use Rattle.lines.proofs.digits.+value.Given as goal

abbrev pub decreases-value : goal.decreases-value
decreases-value l = length l.digits.now
