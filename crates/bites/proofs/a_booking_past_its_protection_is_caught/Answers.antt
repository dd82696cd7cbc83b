use Rattle.bites.proofs.Bookings.{booked_past_its_protection}
use Rattle.bites.proofs.a_booking_past_its_protection_is_caught.Goals as goal

pub returns : goal.returns
returns c = booked_past_its_protection
