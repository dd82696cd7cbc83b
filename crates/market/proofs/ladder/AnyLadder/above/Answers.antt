use Rattle.std.proofs.Common.{◌+◌, ◌-◌, ◌%◌, arith}
use Rattle.market.proofs.Spaced.{above_near, above_far}
use Rattle.market.proofs.ladder.AnyLadder.above.Goals as goal

pub returns-then-price-lt300 : goal.returns-then-price-lt300
returns-then-price-lt300 g c =
    above_near _ _ _ g.S.Spaced.spaced c.args.price (c.args.price - c.args.price % c.NEAR.result + c.NEAR-then-price-lt300.result) c.if-price-lt300.true (cc)

pub returns-else-price-lt300 : goal.returns-else-price-lt300
returns-else-price-lt300 g c =
    above_far _ _ _ g.S.Spaced.spaced c.args.price (c.args.price - c.args.price % c.FAR.result + c.FAR-else-price-lt300.result) c.if-price-lt300.false (omega arith) (cc)
