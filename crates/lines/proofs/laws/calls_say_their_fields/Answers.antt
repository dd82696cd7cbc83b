use Rattle.lines.proofs.Saying.{calls_say}
use Rattle.lines.proofs.laws.calls_say_their_fields.Goals as goal

pub returns : goal.returns
returns c = calls_say
