use Rattle.std.proofs.Common.{sym, refl, ap}
use Rattle.std.proofs.lemmas.Result.{err_from_is_err_and}
use Rattle.series.proofs.Coming.{beside, came_refused, open_refused, open_came}
use Rattle.series.proofs.series.Series.open.Goals as goal

pub returns-in_err-open_row-clause-came : goal.returns-in_err-open_row-clause-came
returns-in_err-open_row-clause-came g c =
    let p = err_from_is_err_and c.from_residual.result c.from_residual.ensures.1 in
    let e = sym c.in_err-open_row.ensures in
    rw (p.1, p.2) (λ m. came_refused _ _ m _ _ _ _ (open_refused _ m _ _ e))

pub returns : goal.returns
returns g c =
    let e = sym c.in_ok-open_row.ensures in
    record { came = λ m. open_came _ m _ _ e (ap (beside (g.B.Board.quotes c.args.self.now.board)) c.open.ensures); whole = tt; ladder = refl; board = refl }
