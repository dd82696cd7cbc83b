use Rattle.bites.proofs.Bookings.{locks}
use Rattle.bites.proofs.a_displayed_price_that_locks_is_caught.Goals as goal

pub returns : goal.returns
returns c = locks
