use Rattle.bites.proofs.Replies.{cancels_another}
use Rattle.bites.proofs.a_reply_that_cancels_another_order_is_caught.Goals as goal

pub returns : goal.returns
returns c = cancels_another
