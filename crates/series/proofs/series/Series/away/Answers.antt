use Rattle.std.proofs.Common.{List, sym, refl, ap, ◌∙◌}
use Rattle.std.proofs.lemmas.Result.{err_from_is_err_and}
use Rattle.market.specs.declared.board.Quote.{Quote}
use Rattle.rules.specs.Routing.{bests}
use Rattle.rules.specs.Quoting.{quote}
use Rattle.series.specs.States.{state, requoted}
use Rattle.series.specs.Rows.{away_row}
use Rattle.series.proofs.Coming.{beside, room_is, came_refused, away_unfit, away_rowed, away_came, grew}
use Rattle.series.proofs.series.Series.away.Goals as goal

pub returns-in_err-check_away-clause-came : goal.returns-in_err-check_away-clause-came
returns-in_err-check_away-clause-came g c =
    let p = err_from_is_err_and c.from_residual.result c.from_residual.ensures.1 in
    let e = sym c.in_err-check_away.ensures in
    rw (p.1, p.2) (λ k. came_refused _ _ _ _ _ _ _ (away_unfit _ _ _ _ _ _ e))

pub returns-in_err-report_row-clause-came : goal.returns-in_err-report_row-clause-came
returns-in_err-report_row-clause-came g c =
    let p = err_from_is_err_and c.from_residual-in_err-report_row.result c.from_residual-in_err-report_row.ensures.1 in
    let e = sym c.in_ok-check_away.ensures in
    let at = ap away_row (room_is _ _ _ c.room.ensures) ∙ sym c.in_err-report_row.ensures in
    rw (p.1, p.2) (λ k. came_refused _ _ _ _ _ _ _ (away_rowed _ _ _ _ _ _ _ e at))

pub returns : goal.returns
returns g c =
    let e = sym c.in_ok-check_away.ensures in
    let at = ap away_row (room_is _ _ _ c.room.ensures) ∙ sym c.in_ok-report_row.ensures in
    let R = g.L.Ladder.rung c.args.self.now.ladder in
    let done = c.quote.ensures R c.away_best-away.ensures.rungs in
    let s = state (g.B.Board.quotes c.args.self.now.board) c.args.self.now.ledger in
    let best = c.away_best-away.ensures.best ∙ ap bests c.tell.ensures in
    let to = ap (beside (g.B.Board.quotes c.tell.new.self)) done.after ∙ ap (λ (qs : List Quote). requoted s qs (quote c.away_best-away.result.best R s.orders)) c.tell.ensures in
    let grown = done.reported in
    record { came = λ k. away_came R _ _ _ s _ _ c.away_best-away.result.best _ _ e at best to grown; whole = tt; ladder = refl; reports = grew _ _ _ grown }
