use Rattle.bites.proofs.Fills.{through_the_offer}
use Rattle.bites.proofs.a_fill_through_the_offer_is_caught.Goals as goal

pub returns : goal.returns
returns c = through_the_offer
