use Rattle.std.proofs.Common.{◌≡◌, drop}
use Rattle.rules.specs.Slips.{filed}
use Rattle.table.proofs.slips.SlipsOut.file_all.Given as goal

abbrev pub invariant-loop-slip : goal.invariant-loop-slip
invariant-loop-slip l = filed l.id (drop l.slip-index l.slips) l.self.places ≡ filed l.id l.slips l.initial.self.places
