use Rattle.std.proofs.Common.{sym, ◌∙◌}
use Rattle.std.proofs.lemmas.Result.{IfOk-weaker}
use Rattle.day.specs.Days.Outcome.{came}
use Rattle.series.specs.Calls.{room, free_places}
use Rattle.rules.specs.Steps.Event.{did, refused}
use Rattle.day.proofs.Answering.{done_said, full_room}
use Rattle.day.proofs.days.say_line.Goals as goal

pub returns-in-Ok-call-clause-value : goal.returns-in-Ok-call-clause-value
returns-in-Ok-call-clause-value g c =
    let k = c.in-Ok-call.ensures.came in
    let r = c.new-reported.ensures in
    let s = c.new-sent.ensures in
    let m = room c.new-reported.result (free_places c.new-sent.result) in
    IfOk-weaker c.done.result _ _
    (λ _ b. (
      came (did c.in-Ok.call m k.0 k.1),
      (sym c.in-Ok.ensures, full_room _ _ _ _ (r.room ∙ c.told-reports) r.used (s.room ∙ c.told-slips) s.used),
      done_said g.V.Voice.words.say (g.S.Sink.bytes c.args.out.now) _ c.args.line.now c.in-Ok.call m _ _ k.0 _ _ _ k.1 _ r.empty s.empty k.2 k.3 c.as_slice.ensures c.as_slice-in-Ok-call.ensures (b m),
      k.4,
    ))
    c.done.ensures

pub returns-in-Err-call-clause-value : goal.returns-in-Err-call-clause-value
returns-in-Err-call-clause-value g c =
    let k = c.in-Err-call.ensures.came in
    let r = c.new-reported.ensures in
    let s = c.new-sent.ensures in
    let m = room c.new-reported.result (free_places c.new-sent.result) in
    IfOk-weaker c.refused.result _ _
    (λ _ b. (
      came (refused c.in-Ok.call m c.in-Err-call.fault),
      (sym c.in-Ok.ensures, full_room _ _ _ _ (r.room ∙ c.told-reports) r.used (s.room ∙ c.told-slips) s.used),
      b m,
      k.2,
    ))
    c.refused.ensures
