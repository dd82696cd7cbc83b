use Rattle.lines.proofs.Rewriting.{headers_rewrite}
use Rattle.lines.proofs.laws.headers_rewrite.Goals as goal

pub returns : goal.returns
returns c = headers_rewrite
