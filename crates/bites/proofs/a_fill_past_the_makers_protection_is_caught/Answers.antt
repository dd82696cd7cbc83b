use Rattle.bites.proofs.Fills.{past_the_makers_protection}
use Rattle.bites.proofs.a_fill_past_the_makers_protection_is_caught.Goals as goal

pub returns : goal.returns
returns c = past_the_makers_protection
