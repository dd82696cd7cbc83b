use Rattle.lines.proofs.Saying.{headers_say}
use Rattle.lines.proofs.laws.headers_say_their_fields.Goals as goal

pub returns : goal.returns
returns c = headers_say
