use Rattle.std.proofs.Common.{ap}
use Rattle.market.specs.Any.{rungs_of}
use Rattle.std.proofs.lemmas.Result.{IfOk-weaker}
use Rattle.day.proofs.Whole.{day_of}
use Rattle.day.proofs.days.say_calls.Goals as goal

pub returns : goal.returns
returns g c =
    let n = c.new-series.ensures in
    IfOk-weaker c.say_all.result _ _ (λ _ e. (e.0, e.1, day_of _ c.args.settings.ladder c.args.settings.wide _ _ _ _ _ (ap rungs_of n.ladder) n.state e.2)) c.say_all.ensures.value
