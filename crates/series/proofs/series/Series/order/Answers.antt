use Rattle.std.proofs.Common.{ℕ, ◌<◌, length, sym, refl, ap, ◌∙◌, arith}
use Rattle.std.proofs.lemmas.Result.{err_from_is_err_and}
use Rattle.rules.specs.declared.Bests.{Bests}
use Rattle.rules.specs.Book.{here}
use Rattle.series.specs.Calls.{free_places}
use Rattle.series.specs.States.{state}
use Rattle.series.specs.Rows.{entry_row}
use Rattle.series.specs.Entry.{passing}
use Rattle.series.proofs.Coming.{beside, room_is, came_refused, grew}
use Rattle.series.proofs.Entering.{order_unfit, order_rowed, order_judged, order_passed, entry_fits, entering_as, order_came}
use Rattle.series.proofs.series.Series.order.Goals as goal

pub returns-in_err-order-clause-came : goal.returns-in_err-order-clause-came
returns-in_err-order-clause-came g c =
    let p = err_from_is_err_and c.from_residual.result c.from_residual.ensures.1 in
    let e = sym c.in_err-order.ensures in
    rw (p.1, p.2) (came_refused _ _ _ _ _ _ _ (order_unfit _ _ _ _ _ e))

pub returns-in_err-place-clause-came : goal.returns-in_err-place-clause-came
returns-in_err-place-clause-came g c =
    let p = err_from_is_err_and c.from_residual-in_err-place.result c.from_residual-in_err-place.ensures.1 in
    let s = state (g.B.Board.quotes c.args.self.now.board) c.args.self.now.ledger in
    let o = c.in_ok-order.order in
    let e = sym c.in_ok-order.ensures in
    let row = ap (λ (n : ℕ). entry_row s o n (free_places c.args.slips.now)) (room_is _ _ _ c.room.ensures) ∙ ap (λ (n : ℕ). entry_row s o c.room.result n) (room_is _ _ _ c.room-2.ensures) ∙ c.in_err-place.ensures in
    rw (p.1, p.2) (came_refused _ _ _ _ _ _ _ (order_rowed _ s _ _ o _ e row))

pub returns-in_err-passed-clause-came : goal.returns-in_err-passed-clause-came
returns-in_err-passed-clause-came g c =
    let p = err_from_is_err_and c.from_residual-in_err-passed.result c.from_residual-in_err-passed.ensures.1 in
    let R = g.L.Ladder.rung c.args.self.now.ladder in
    let s = state (g.B.Board.quotes c.args.self.now.board) c.args.self.now.ledger in
    let o = c.in_ok-order.order in
    let e = sym c.in_ok-order.ensures in
    let row = ap (λ (n : ℕ). entry_row s o n (free_places c.args.slips.now)) (room_is _ _ _ c.room.ensures) ∙ ap (λ (n : ℕ). entry_row s o c.room.result n) (room_is _ _ _ c.room-2.ensures) ∙ c.in_ok-place.ensures.0 in
    let why = ap (λ (b : Bests). passing R s.wide b (here s.orders) o) (sym c.away_best-away.ensures.best) ∙ sym c.in_err-passed.ensures in
    rw (p.1, p.2) (came_refused _ _ _ _ _ _ _ (order_judged R s _ _ o _ e row why))

pub enter-requires-clause-arrivals : goal.enter-requires-clause-arrivals
enter-requires-clause-arrivals g c =
    let s = state (g.B.Board.quotes c.args.self.now.board) c.args.self.now.ledger in
    (entry_fits s c.in_ok-order.order c.room.result c.room-2.result c.in_ok-place.ensures.0).2

pub returns : goal.returns
returns g c =
    let R = g.L.Ladder.rung c.args.self.now.ladder in
    let qs = g.B.Board.quotes c.args.self.now.board in
    let s = state qs c.args.self.now.ledger in
    let o = c.in_ok-order.order in
    let e = sym c.in_ok-order.ensures in
    let placed = c.in_ok-place.ensures in
    let row = ap (λ (n : ℕ). entry_row s o n (free_places c.args.slips.now)) (room_is _ _ _ c.room.ensures) ∙ ap (λ (n : ℕ). entry_row s o c.room.result n) (room_is _ _ _ c.room-2.ensures) ∙ placed.0 in
    let best = c.away_best-away.ensures.best in
    let pass = sym c.in_ok-passed.ensures in
    let fine = ap (λ (b : Bests). passing R s.wide b (here s.orders) o) (sym best) ∙ pass in
    let done = c.enter.ensures R c.away_best-away.ensures.rungs in
    let is = entering_as R s o c.in_ok-place.place c.in_ok-passed.passed c.away_best-away.result.best c.quotes_of-quotes.result best c.quotes_of-quotes.ensures pass in
    let in' : c.in_ok-place.place < length s.orders = omega (arith, placed.1, c.args.self.now.ledger.book.orders.full) in
    record {
      came = order_came R _ _ s _ o c.in_ok-place.place _ c.args.reports.now c.enter.new.reports c.args.slips.now c.enter.new.slips e (order_passed R s _ _ o _ e row fine) in' placed.2 is (ap (beside qs) done.after) done.reported.added done.sent.added;
      whole = tt;
      ladder = refl;
      board = refl;
      reports = grew _ _ _ done.reported;
      slips = grew _ _ _ done.sent;
    }
