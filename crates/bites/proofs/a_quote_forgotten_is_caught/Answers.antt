use Rattle.bites.proofs.Fills.{quote_forgotten}
use Rattle.bites.proofs.a_quote_forgotten_is_caught.Goals as goal

pub returns : goal.returns
returns c = quote_forgotten
