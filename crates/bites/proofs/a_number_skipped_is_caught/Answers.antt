use Rattle.bites.proofs.Bookings.{number_skipped}
use Rattle.bites.proofs.a_number_skipped_is_caught.Goals as goal

pub returns : goal.returns
returns c = number_skipped
