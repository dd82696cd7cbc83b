use Rattle.bites.proofs.Bookings.{rest_misstated}
use Rattle.bites.proofs.a_booking_of_another_size_is_caught.Goals as goal

pub returns : goal.returns
returns c = rest_misstated
