use Rattle.bites.proofs.Fills.{invented_size}
use Rattle.bites.proofs.an_invented_size_is_caught.Goals as goal

pub returns : goal.returns
returns c = invented_size
