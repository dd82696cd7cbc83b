use Rattle.std.proofs.Common.{refl, rules}
use Rattle.market.specs.Rungs.{step_up, climbed}
use Rattle.market.proofs.Steps.{walked}
use Rattle.market.proofs.ladder.up.Goals as goal

pub returns : goal.returns
returns g c =
    let R = g.L.Ladder.rung c.args.ladder.now in
    walked _ _ (step_up R) (λ k. climbed R k c.args.from) (λ k. refl) (λ a x b q call. search rules) _ c.args.n c.fold.result refl c.fold.ensures.ran
