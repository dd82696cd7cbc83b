use Rattle.rules.proofs.Day.{one_day}
use Rattle.rules.proofs.day_stands.Goals as goal

pub returns : goal.returns
returns c = one_day
