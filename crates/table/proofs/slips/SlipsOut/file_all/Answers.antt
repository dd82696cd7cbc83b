use Rattle.std.proofs.Common.{rules}
use Rattle.table.proofs.Seats.{filed_on, filed_all}
use Rattle.table.proofs.slips.SlipsOut.file_all.Goals as goal

pub loop-slip-preserved : goal.loop-slip-preserved
loop-slip-preserved c = filed_on c.args.id c.args.slips.now c.loop-slip.slip-index _ _ _ _ (search rules) c.file.ensures c.loop-slip.invariant

pub returns : goal.returns
returns c = filed_all c.args.id c.args.slips.now c.loop-slip.slip-index _ _ (search rules) c.loop-slip.invariant
