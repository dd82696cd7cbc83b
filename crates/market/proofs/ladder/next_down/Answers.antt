use Rattle.std.proofs.Common.{sym, ◌∙◌}
use Rattle.market.proofs.Steps.{bottom_lowest, step_below}
use Rattle.market.proofs.ladder.next_down.Goals as goal

pub returns : goal.returns
returns g c =
    let s = c.args.ladder.now in
    let R = g.L.Ladder.rung s in
    let law = g.met.L.Ladder in
    let low = bottom_lowest R c.args.lowest (law.none s) (law.most s) c.requires in
    c.unwrap_or.ensures ∙ sym (step_below R c.args.at c.args.lowest c.below.result low c.below.ensures)
