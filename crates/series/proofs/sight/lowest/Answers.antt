use Rattle.std.proofs.Common.{sym}
use Rattle.market.proofs.Steps.{bottom_lowest}
use Rattle.series.proofs.sight.lowest.Goals as goal

pub returns : goal.returns
returns g c =
    let s = c.args.ladder.now in
    let law = g.met.L.Ladder in
    sym (bottom_lowest (g.L.Ladder.rung s) c.lowest.result (law.none s) (law.most s) c.lowest.ensures)
