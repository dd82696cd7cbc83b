use Rattle.bites.proofs.Bookings.{rests_unbooked}
use Rattle.bites.proofs.an_order_that_rests_unbooked_is_caught.Goals as goal

pub returns : goal.returns
returns c = rests_unbooked
