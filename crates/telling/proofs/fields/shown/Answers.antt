use Rattle.std.proofs.Common.{sym}
use Rattle.std.proofs.lemmas.List.{take_all}
use Rattle.telling.proofs.fields.shown.Goals as goal

pub returns-then-bytes-le80 : goal.returns-then-bytes-le80
returns-then-bytes-le80 c = sym (take_all 80 c.args.bytes.now c.if-bytes-le80.true)
