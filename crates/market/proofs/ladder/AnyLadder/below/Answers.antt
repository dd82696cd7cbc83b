use Rattle.std.proofs.Common.{◌-◌, ◌%◌, arith}
use Rattle.market.proofs.Spaced.{below_near, below_far}
use Rattle.market.proofs.ladder.AnyLadder.below.Goals as goal

pub returns-then-price-gt300 : goal.returns-then-price-gt300
returns-then-price-gt300 g c = below_far _ _ _ g.S.Spaced.spaced c.args.price (c.args.price - 1 - (c.args.price - 1) % c.FAR.result) c.if-price-gt300.true (omega arith) (cc)

pub returns-then-price-NEAR : goal.returns-then-price-NEAR
returns-then-price-NEAR g c =
    below_near _ _ _ g.S.Spaced.spaced c.args.price (c.args.price - 1 - (c.args.price - 1) % c.NEAR-then-price-NEAR.result) (omega arith) (omega arith) (cc)
