use Rattle.std.proofs.Common.{refl, rules}
use Rattle.market.specs.Rungs.{last_below, descended}
use Rattle.market.proofs.Steps.{walked}
use Rattle.market.proofs.ladder.down.Goals as goal

pub returns : goal.returns
returns g c =
    let R = g.L.Ladder.rung c.args.ladder.now in
    walked _ _ (last_below R) (λ k. descended R k c.args.from) (λ k. refl) (λ a x b q call. search rules) _ c.args.n c.fold.result refl c.fold.ensures.ran
