use Rattle.std.proofs.Common.{rules}
use Rattle.morning.proofs.Dumps.{dump_more, dump_end}
use Rattle.morning.proofs.text.put_bytes.Goals as goal

pub loop-i-preserved : goal.loop-i-preserved
loop-i-preserved c = dump_more c.args.bytes.now c.loop-i.i _ _ _ _ (search rules) c.in_ok-put_byte.ensures c.loop-i.invariant

pub returns : goal.returns
returns c = dump_end c.args.bytes.now c.loop-i.i _ _ (search rules) c.loop-i.invariant
