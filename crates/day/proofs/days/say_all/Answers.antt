use Rattle.std.proofs.Common.{ℕ, Bool, ap, ◌∙◌, subst}
use Rattle.series.specs.Calls.{stands}
use Rattle.day.specs.Days.{Moves}
use Rattle.day.proofs.Onward.{onward_more, onward_end}
use Rattle.day.proofs.days.say_all.Goals as goal

pub loop-line-preserved : goal.loop-line-preserved
loop-line-preserved g c =
    let i = c.loop-line.invariant in
    let a = c.in_ok-say_line.ensures in
    let v = a.value in (
      a.ladder ∙ i.0,
      onward_more _ _ _ _ _ _ _ _ _ _ v.0 _ _ c.in-Some.ensures.steps v.1 v.2 (subst (λ (R : ℕ → Bool). Moves R (stands g.B.Board.quotes c.loop-line.series) v.0 (stands g.B.Board.quotes c.say_line.new.series)) (ap g.L.Ladder.rung i.0) v.3) i.1,
    )

pub returns : goal.returns
returns g c =
    let i = c.loop-line.invariant in
    record {
      value = onward_end _ _ _ _ _ _ _ _ c.in-None.ensures.steps.0 i.1;
      ladder = i.0;
    }
