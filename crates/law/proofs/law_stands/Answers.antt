use Rattle.law.proofs.Whole.{law}
use Rattle.law.proofs.law_stands.Goals as goal

pub returns : goal.returns
returns c = law
