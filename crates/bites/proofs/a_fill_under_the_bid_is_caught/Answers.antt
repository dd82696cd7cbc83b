use Rattle.bites.proofs.Fills.{under_the_bid}
use Rattle.bites.proofs.a_fill_under_the_bid_is_caught.Goals as goal

pub returns : goal.returns
returns c = under_the_bid
