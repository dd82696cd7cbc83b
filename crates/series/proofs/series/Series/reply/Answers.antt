use Rattle.std.proofs.Common.{ℕ, sym, refl, ap, ◌∙◌}
use Rattle.std.proofs.lemmas.Result.{err_from_is_err_and}
use Rattle.series.specs.States.{state}
use Rattle.series.specs.Rows.{reply_row}
use Rattle.series.proofs.Coming.{beside, room_is, came_refused, reply_unfit, reply_rowed, reply_came, grew}
use Rattle.series.proofs.series.Series.reply.Goals as goal

pub returns-in_err-check_reply-clause-came : goal.returns-in_err-check_reply-clause-came
returns-in_err-check_reply-clause-came g c =
    let p = err_from_is_err_and c.from_residual.result c.from_residual.ensures.1 in
    let e = sym c.in_err-check_reply.ensures in
    rw (p.1, p.2) (λ k. came_refused _ _ _ _ _ _ _ (reply_unfit _ _ _ _ _ _ e))

pub returns-in_err-place-clause-came : goal.returns-in_err-place-clause-came
returns-in_err-place-clause-came g c =
    let p = err_from_is_err_and c.from_residual-in_err-place.result c.from_residual-in_err-place.ensures.1 in
    let s = state (g.B.Board.quotes c.args.self.now.board) c.args.self.now.ledger in
    let e = sym c.in_ok-check_reply.ensures in
    let at = ap (λ (n : ℕ). reply_row s c.args.slip c.args.filled n) (room_is _ _ _ c.room.ensures) ∙ sym c.in_err-place.ensures.row in
    rw (p.1, p.2) (λ k. came_refused _ _ _ _ _ _ _ (reply_rowed _ _ _ _ _ _ _ e at))

pub returns : goal.returns
returns g c =
    let s = state (g.B.Board.quotes c.args.self.now.board) c.args.self.now.ledger in
    let e = sym c.in_ok-check_reply.ensures in
    let at = ap (λ (n : ℕ). reply_row s c.args.slip c.args.filled n) (room_is _ _ _ c.room.ensures) ∙ sym c.in_ok-place.ensures.row in
    let to = ap (beside (g.B.Board.quotes c.args.self.now.board)) c.settle.ensures.after in
    let grown = c.settle.ensures.reported in
    record { came = λ k. reply_came _ _ _ _ _ _ _ _ _ _ e at to grown; whole = tt; ladder = refl; board = refl; reports = grew _ _ _ grown }
