use Rattle.bites.proofs.Bookings.{written_past_the_room}
use Rattle.bites.proofs.a_report_past_the_room_is_caught.Goals as goal

pub returns : goal.returns
returns c = written_past_the_room
