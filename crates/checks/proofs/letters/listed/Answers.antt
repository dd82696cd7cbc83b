use Rattle.std.proofs.Common.{rules}
use Rattle.checks.proofs.letters.listed.Goals as goal

pub returns : goal.returns
returns g c = (c.try_from.result, c.try_from.ensures, search rules)
