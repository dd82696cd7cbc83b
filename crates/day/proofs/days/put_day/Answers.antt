use Rattle.std.proofs.lemmas.Result.{IfOk-weaker}
use Rattle.day.proofs.Whole.{writes}
use Rattle.day.proofs.days.put_day.Goals as goal

pub returns : goal.returns
returns g c = IfOk-weaker c.say_day.result _ _ (λ _ e. (e.0, e.1, writes c.args.input.now e.0 e.2)) c.say_day.ensures
