use Rattle.std.proofs.Common.{sym}
use Rattle.lines.proofs.Tests.{number_digits}
use Rattle.lines.proofs.digits.numeral.Goals as goal

pub value-requires-clause-all : goal.value-requires-clause-all
value-requires-clause-all c = number_digits c.args.bytes.now (sym c.if-is_number.ensures)
