use Rattle.std.proofs.Common.{sym, ap, ◌∙◌}
use Rattle.std.proofs.lemmas.Result.{IfOk-weaker}
use Rattle.market.specs.Any.{rungs_of}
use Rattle.market.specs.Packing.{unpacked}
use Rattle.market.proofs.Packs.{unpacked_zeros}
use Rattle.morning.specs.Mornings.{taken, after}
use Rattle.morning.specs.Words.{agreement}
use Rattle.morning.proofs.Sofar.{sofar_start, sofar_more, sofar_end, over_all}
use Rattle.morning.proofs.answers.answer_all.Goals as goal

pub loop-line-init : goal.loop-line-init
loop-line-init c =
    let e = c.in-Ok.ensures in (
      c.new-table.ensures ∙ sym (ap unpacked e.1 ∙ unpacked_zeros),
      rw c.into_iter-line-iterator.ensures.into_iter_gives (sofar_start _ _ _ _ c.new-table.ensures),
    )

pub loop-line-preserved : goal.loop-line-preserved
loop-line-preserved c =
    let i = c.loop-line.invariant in
    let e = c.in_ok-answer-in-Ok.ensures in (
      e.one ∙ ap (λ q. after q (taken (rungs_of c.args.ladder.now) c.in-Some.line.now)) i.0 ∙ sym e.other,
      sofar_more _ _ _ _ _ _ _ _ e.value.0 _ _ c.in-Some.ensures.steps e.value.2 e.value.1 e.one i.1,
    )

pub returns-in-None : goal.returns-in-None
returns-in-None c =
    let i = c.loop-line.invariant in
    record {
      value = IfOk-weaker c.writeln.result _ _ (λ _ b. over_all _ _ _ _ _ _ _ c.in-Ok.ensures.0 (sofar_end _ _ _ _ _ _ c.in-None.ensures.steps.0 i.1) (ap agreement (c.agree-same.ensures.same i.0)) b) c.writeln.ensures.bytes;
    }
