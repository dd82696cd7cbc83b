use Rattle.bites.proofs.Bookings.{only_the_oldest}
use Rattle.bites.proofs.a_pair_left_tradable_is_caught.Goals as goal

pub returns : goal.returns
returns c = only_the_oldest
