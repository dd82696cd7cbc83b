use Rattle.std.proofs.Common.{string_bytes}
use Rattle.std.proofs.lemmas.Option.{IfSome_then}
use Rattle.std.proofs.lemmas.Result.{IfOk-weaker}
use Rattle.telling.proofs.Steps.{two}
use Rattle.telling.proofs.paragraphs.put_refused.Goals as goal

pub returns : goal.returns
returns g c = IfOk-weaker c.put_refusal.result _ _ (λ _ e. IfSome_then (g.D.Display.output c.args.what) c.in_ok-write.ensures.bytes (λ text said. two (string_bytes c.args.out.now) _ _ text _ said e)) c.put_refusal.ensures
