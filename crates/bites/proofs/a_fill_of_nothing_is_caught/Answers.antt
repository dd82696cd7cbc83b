use Rattle.bites.proofs.Fills.{of_nothing}
use Rattle.bites.proofs.a_fill_of_nothing_is_caught.Goals as goal

pub returns : goal.returns
returns c = of_nothing
