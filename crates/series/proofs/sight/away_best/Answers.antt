use Rattle.std.proofs.Common.{◌≡◌, ℕ, sym, ap, ◌∙◌}
use Rattle.rules.specs.declared.Bests.{Bests}
use Rattle.rules.specs.Routing.{bests}
use Rattle.rules.proofs.Rungs.{beneath_answer, above_answer}
use Rattle.series.proofs.Quoted.{on_both}
use Rattle.series.proofs.sight.away_best.Goals as goal

both : (b o x y : ℕ) → b ≡ x → o ≡ y → ◌≡◌ {A = Bests} (record { bid = b; offer = o }) (record { bid = x; offer = y })
both b o x y p q = cc

pub returns : goal.returns
unfolding bests
returns g c =
    let R = g.L.Ladder.rung c.args.ladder.now in
    record {
      best = both _ _ _ _ (ap (λ p. p.0) c.best_bid-bid.ensures) (ap (λ p. p.0) c.best_offer-offer.ensures);
      rungs = on_both R _ (c.unwrap_or.ensures ∙ sym (beneath_answer R _ _ c.below.ensures)) (c.unwrap_or-2.ensures ∙ sym (above_answer R _ _ (g.met.L.Ladder.most c.args.ladder.now) c.above.ensures));
    }
