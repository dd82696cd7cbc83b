use Rattle.lines.proofs.Rewriting.{calls_rewrite}
use Rattle.lines.proofs.laws.calls_rewrite.Goals as goal

pub returns : goal.returns
returns c = calls_rewrite
