use Rattle.std.proofs.Common.{refl, ap, arith}
use Rattle.rules.specs.Slips.{no_sent, out}
use Rattle.table.proofs.Firsts.{replicated}
use Rattle.table.proofs.slips.SlipsOut.new.Goals as goal

pub invariant_of-result : goal.invariant_of-result
invariant_of-result c = record { full = refl; inside = omega arith; beyond = λ k l. ap out (replicated _ no_sent 64 k c.nothing.ensures) }
