use Rattle.lines.proofs.Returning.{headers_return}
use Rattle.lines.proofs.laws.headers_return.Goals as goal

pub returns : goal.returns
returns c = headers_return
