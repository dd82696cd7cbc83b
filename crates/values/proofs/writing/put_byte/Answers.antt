use Rattle.std.proofs.Common.{arith}
use Rattle.values.proofs.Lines.{put_before}
use Rattle.values.proofs.writing.put_byte.Goals as goal

pub returns-clause-text : goal.returns-clause-text
returns-clause-text c = put_before c.args.line.now c.args.end c.args.byte (omega arith) (omega arith) (omega arith)
