use Rattle.series.proofs.Following.{beside_slips, beside_lists, called}
use Rattle.series.proofs.series.Series.by_kind.Goals as goal

pub returns-in-Open-clause-came : goal.returns-in-Open-clause-came
returns-in-Open-clause-came g c =
    let r = c.open.result in
    called _ _ _ _ _ _ _ _ _ _ r c.in-Open.is (beside_lists _ _ _ _ _ _ _ r (c.open.ensures.came _))

pub returns-in-Away-clause-came : goal.returns-in-Away-clause-came
returns-in-Away-clause-came g c =
    let r = c.away.result in
    called _ _ _ _ _ _ _ _ _ _ r c.in-Away.is (beside_slips _ _ _ _ _ _ _ _ r (c.away.ensures.came _))

pub returns-in-Cancel-clause-came : goal.returns-in-Cancel-clause-came
returns-in-Cancel-clause-came g c =
    let r = c.cancel.result in
    called _ _ _ _ _ _ _ _ _ _ r c.in-Cancel.is (beside_slips _ _ _ _ _ _ _ _ r (c.cancel.ensures.came _))

pub returns-in-Reply-clause-came : goal.returns-in-Reply-clause-came
returns-in-Reply-clause-came g c =
    let r = c.reply.result in
    called _ _ _ _ _ _ _ _ _ _ r c.in-Reply.is (beside_slips _ _ _ _ _ _ _ _ r (c.reply.ensures.came _))
