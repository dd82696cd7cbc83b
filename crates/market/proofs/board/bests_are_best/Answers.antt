use Rattle.market.proofs.Law.{bests_are_best}
use Rattle.market.proofs.board.bests_are_best.Goals as goal

pub returns : goal.returns
returns c = bests_are_best
