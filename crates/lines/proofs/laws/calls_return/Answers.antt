use Rattle.lines.proofs.Returning.{calls_return}
use Rattle.lines.proofs.laws.calls_return.Goals as goal

pub returns : goal.returns
returns c = calls_return
