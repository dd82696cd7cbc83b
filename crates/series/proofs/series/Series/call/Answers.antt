use Rattle.rules.specs.Ladders.{Rungs}
use Rattle.series.proofs.Following.{follows}
use Rattle.series.proofs.series.Series.call.Goals as goal

pub returns : goal.returns
returns g c =
    let done = c.by_kind.ensures in
    let ladder = c.args.self.now.ladder in
    let law = g.met.L.Ladder in
    let rungs : Rungs (g.L.Ladder.rung ladder) = record { top = law.top ladder; none = law.none ladder; most = law.most ladder } in
    record {
      came = done.came;
      whole = done.whole;
      ladder = done.ladder;
      board = done.board;
      reports = done.reports;
      slips = done.slips;
      law = follows _ rungs _ _ _ _ _ _ _ _ c.by_kind.result done.came;
    }
