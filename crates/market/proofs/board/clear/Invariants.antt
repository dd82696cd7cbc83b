use Rattle.std.proofs.Common.{◌≡◌, ℕ, ◌+◌, ◌<◌, get_or}
use Rattle.market.specs.Quotes.{absent}
use Rattle.market.proofs.board.clear.Given as goal

abbrev pub invariant-loop-e : goal.invariant-loop-e
invariant-loop-e g l = (k : ℕ) → k + 1 < l.e → get_or (g.B.Board.quotes l.board) k absent ≡ absent
