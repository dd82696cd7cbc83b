use Rattle.bites.proofs.Fills.{two_buys_trade}
use Rattle.bites.proofs.a_fill_between_two_buys_is_caught.Goals as goal

pub returns : goal.returns
returns c = two_buys_trade
