use Rattle.bites.proofs.Replies.{settled_in_part}
use Rattle.bites.proofs.a_slip_settled_in_part_is_caught.Goals as goal

pub returns : goal.returns
returns c = settled_in_part
