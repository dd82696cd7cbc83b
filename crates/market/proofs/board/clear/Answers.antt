use Rattle.std.proofs.Common.{arith}
use Rattle.market.proofs.Clears.{clear_more, clear_all}
use Rattle.market.proofs.board.clear.Goals as goal

pub loop-e-preserved : goal.loop-e-preserved
loop-e-preserved g c =
    clear_more (g.B.Board.quotes c.loop-e.board) _ c.loop-e.e (g.B.Board.fifteen c.loop-e.board) (omega arith) (omega arith) c.tell.ensures c.loop-e.invariant

pub returns : goal.returns
returns g c =
    clear_all (g.B.Board.quotes c.loop-e.board) c.loop-e.e (g.B.Board.fifteen c.loop-e.board) (omega arith) c.loop-e.invariant
