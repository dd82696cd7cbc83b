use Rattle.std.proofs.Common.{ℕ, ◌<◌, Bool, length, get_or, ap, ◌∙◌, subst, arith}
use Rattle.rules.specs.Ladders.{Rungs}
use Rattle.series.specs.Calls.{stands}
use Rattle.series.specs.Runs.{Ran}
use Rattle.series.proofs.Running.{took_as, no_ask, ran_more, ran_all}
use Rattle.series.proofs.runs.run.Goals as goal

pub loop-ask-preserved : goal.loop-ask-preserved
loop-ask-preserved g c =
    let n = length c.args.reports.now in
    let k = length c.args.slips.now in
    let s = stands g.B.Board.quotes c.loop-ask.series in
    let s' = stands g.B.Board.quotes c.ask_one.new.series in
    let R = g.L.Ladder.rung c.new-series.result.ladder in
    let on = ap g.L.Ladder.rung c.loop-ask.invariant.0 in
    let a = get_or c.args.asks.now c.loop-ask.ask-index no_ask in
    let lt : c.loop-ask.ask-index < length c.args.asks.now = omega arith in
    let took = took_as (g.L.Ladder.rung c.loop-ask.series.ladder) R (length c.loop-ask.reports) n (length c.loop-ask.slips) k a s s' on c.loop-ask.auto.reports c.loop-ask.auto.slips c.ask_one.ensures.took in
    (c.ask_one.ensures.ladder ∙ c.loop-ask.invariant.0, ran_more R c.args.wide n k c.args.asks.now c.loop-ask.ask-index no_ask s s' lt c.loop-ask.invariant.1 took)

pub returns : goal.returns
returns g c =
    let ladder = c.new-series.result.ladder in
    let law = g.met.L.Ladder in
    let rungs : Rungs (g.L.Ladder.rung ladder) = record { top = law.top ladder; none = law.none ladder; most = law.most ladder } in
    let ran = ran_all (g.L.Ladder.rung ladder) c.args.wide (length c.args.reports.now) (length c.args.slips.now) c.args.asks.now c.loop-ask.ask-index (stands g.B.Board.quotes c.loop-ask.series) rungs c.loop-ask-test.false c.loop-ask.invariant.1 in
    subst (λ (S : ℕ → Bool). Ran S c.args.wide (length c.args.reports.now) (length c.args.slips.now) c.args.asks.now (stands g.B.Board.quotes c.loop-ask.series)) (ap g.L.Ladder.rung c.new-series.ensures.ladder) ran
