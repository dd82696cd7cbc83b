use Rattle.std.proofs.Common.{ℕ, sym, refl, ap, ◌∙◌}
use Rattle.std.proofs.lemmas.Result.{err_from_is_err_and}
use Rattle.series.specs.States.{state}
use Rattle.series.specs.Rows.{cancel_row}
use Rattle.series.proofs.Coming.{beside, room_is, came_refused, cancel_unfit, cancel_rowed, cancel_came, grew}
use Rattle.series.proofs.series.Series.cancel.Goals as goal

pub returns-in_err-check_cancel-clause-came : goal.returns-in_err-check_cancel-clause-came
returns-in_err-check_cancel-clause-came g c =
    let p = err_from_is_err_and c.from_residual.result c.from_residual.ensures.1 in
    let e = sym c.in_err-check_cancel.ensures in
    rw (p.1, p.2) (λ k. came_refused _ _ _ _ _ _ _ (cancel_unfit _ _ _ _ _ e))

pub returns-in_err-place-clause-came : goal.returns-in_err-place-clause-came
returns-in_err-place-clause-came g c =
    let p = err_from_is_err_and c.from_residual-in_err-place.result c.from_residual-in_err-place.ensures.1 in
    let s = state (g.B.Board.quotes c.args.self.now.board) c.args.self.now.ledger in
    let e = sym c.in_ok-check_cancel.ensures in
    let at = ap (λ (n : ℕ). cancel_row s c.args.id n) (room_is _ _ _ c.room.ensures) ∙ sym c.in_err-place.ensures.row in
    rw (p.1, p.2) (λ k. came_refused _ _ _ _ _ _ _ (cancel_rowed _ _ _ _ _ _ e at))

pub returns : goal.returns
returns g c =
    let s = state (g.B.Board.quotes c.args.self.now.board) c.args.self.now.ledger in
    let e = sym c.in_ok-check_cancel.ensures in
    let at = ap (λ (n : ℕ). cancel_row s c.args.id n) (room_is _ _ _ c.room.ensures) ∙ sym c.in_ok-place.ensures.row in
    let to = ap (beside (g.B.Board.quotes c.args.self.now.board)) c.cancel.ensures.after in
    let grown = c.cancel.ensures.reported in
    record { came = λ k. cancel_came _ _ _ _ _ _ _ _ _ e at to grown; whole = tt; ladder = refl; board = refl; reports = grew _ _ _ grown }
