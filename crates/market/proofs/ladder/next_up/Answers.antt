use Rattle.std.proofs.Common.{sym, ◌∙◌}
use Rattle.market.proofs.Steps.{step_above}
use Rattle.market.proofs.ladder.next_up.Goals as goal

pub returns : goal.returns
returns g c =
    let s = c.args.ladder.now in
    let law = g.met.L.Ladder in
    c.unwrap_or.ensures ∙ sym (step_above (g.L.Ladder.rung s) c.args.at c.above.result (law.top s) (law.most s) c.above.ensures)
