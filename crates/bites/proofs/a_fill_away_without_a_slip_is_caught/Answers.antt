use Rattle.bites.proofs.Fills.{away_unasked}
use Rattle.bites.proofs.a_fill_away_without_a_slip_is_caught.Goals as goal

pub returns : goal.returns
returns c = away_unasked
