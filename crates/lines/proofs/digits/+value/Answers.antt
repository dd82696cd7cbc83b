use Rattle.std.proofs.Common.{arith, rules}
use Rattle.lines.proofs.Values.{value_front}
use Rattle.lines.proofs.digits.+value.Goals as goal

pub overflow_mul-result : goal.overflow_mul-result
overflow_mul-result t c = omega (arith, value_front c.args.digits.now (search rules) c.requires.few c.requires.all)

pub overflow_add-result : goal.overflow_add-result
overflow_add-result t c = omega (arith, value_front c.args.digits.now (search rules) c.requires.few c.requires.all)
