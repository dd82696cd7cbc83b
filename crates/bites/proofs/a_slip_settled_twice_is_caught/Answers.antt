use Rattle.bites.proofs.Replies.{settled_twice}
use Rattle.bites.proofs.a_slip_settled_twice_is_caught.Goals as goal

pub returns : goal.returns
returns c = settled_twice
