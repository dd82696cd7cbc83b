use Rattle.std.proofs.Common.{◌∙◌}
use Rattle.market.proofs.Packs.{quoted_unpacked}
use Rattle.market.proofs.packed.PackedBoardBoard.quote.Goals as goal

pub returns-in-Some : goal.returns-in-Some
returns-in-Some c = c.get_quote.ensures ∙ quoted_unpacked _ _ c.in-Some.i c.in-Some.ensures.0 c.in-Some.ensures.1
