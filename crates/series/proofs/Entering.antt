-- From an order's checks, rows and monitor to a step of the rules. Assumes nothing.
use Rattle.std.proofs.Common.{◌≡◌, ℕ, suc, ◌<◌, ◌≤◌, Bool, true, false, cond, not, ◌&&◌, ltb, leb, List, ◌++◌, length, Some, None, Ok, Err, Option, sym, refl, ap, ◌∙◌, subst, arith}
use Rattle.std.proofs.lemmas.Bool.{ltb-false, leb-false}
use Rattle.market.specs.declared.board.Quote.{Quote}
use Rattle.values.specs.declared.terms.Kind.{Kind}
use Rattle.values.specs.declared.calls.OrderFields.{OrderFields}
use Rattle.values.specs.declared.calls.Call.TheVariants as call
use Rattle.values.specs.declared.faults.Fault.{Fault}
use Rattle.values.specs.declared.faults.CheckFault.{CheckFault}
use Rattle.values.specs.declared.faults.MonitorFault.{MonitorFault}
use Rattle.values.specs.declared.faults.SeriesFault.{SeriesFault}
use Rattle.values.specs.declared.faults.SeriesFault.TheVariants.{NotOpen, NoRoomForReports, NoRoomForSlips, IdInUse, BookFull, AllArrivalsUsed, TooFewSlipsFree}
use Rattle.values.specs.declared.reports.Report.{Report}
use Rattle.values.specs.declared.reports.Slip.{Slip}
use Rattle.values.specs.Codes.{of_check, of_series, of_monitor}
use Rattle.checks.specs.declared.checked.CheckedOrder.{CheckedOrder}
use Rattle.checks.specs.declared.checked.CheckedCall.TheVariants as checked
use Rattle.checks.specs.Checked.{checked_order, routable, then}
use Rattle.records.specs.declared.list.AppendList.{AppendList}
use Rattle.records.specs.Contents.{contents}
use Rattle.rules.specs.declared.Room.{Room}
use Rattle.rules.specs.declared.Bests.{Bests}
use Rattle.rules.specs.Book.{free, at, branch, taken, here}
use Rattle.rules.specs.Monitor.{ruled, admit}
use Rattle.rules.specs.Routing.{bests, routing}
use Rattle.rules.specs.Resting.{enter}
use Rattle.rules.specs.Slips.{vacancies}
use Rattle.rules.specs.States.{State, Done, entering, after_entry, terms_now}
use Rattle.rules.specs.Faults.{rows, refusal, unless_checked, in_use, objection_now}
use Rattle.rules.specs.Steps.{Step, order_in, or_none}
use Rattle.rules.specs.Steps.Event.{did}
use Rattle.rules.specs.Steps.Step.{entered}
use Rattle.book.specs.declared.monitor.Entered.{Entered}
use Rattle.book.specs.declared.monitor.Passed.{Passed}
use Rattle.book.specs.Passing.{passed, judged, terms_of}
use Rattle.series.specs.Calls.{Came}
use Rattle.series.specs.Rows.{entry_row, or_else}
use Rattle.series.specs.Entry.{passing}

-- ---- the field checks
pub order_unfit : (R : ℕ → Bool) (s : State) (f : OrderFields) (m : Room) (x : CheckFault) → checked_order R f ≡ Err x → refusal R s (call.Order f) m ≡ Some (of_check x)
unfolding refusal
order_unfit R s f m x e = ap (λ r. unless_checked (then r (λ o. Ok (checked.Order o))) (λ k. rows s k m)) e

order_rows : (R : ℕ → Bool) (s : State) (f : OrderFields) (m : Room) (o : CheckedOrder) → checked_order R f ≡ Ok o → refusal R s (call.Order f) m ≡ rows s (checked.Order o) m
unfolding refusal
order_rows R s f m o e = ap (λ r. unless_checked (then r (λ o. Ok (checked.Order o))) (λ k. rows s k m)) e

order_said : (R : ℕ → Bool) (f : OrderFields) (o : CheckedOrder) → checked_order R f ≡ Ok o → o ≡ order_in R f
unfolding order_in
order_said R f o e = sym (ap or_none e)

-- ---- the rows before the monitor, then the monitor
abbrev first : Option SeriesFault → Option MonitorFault → Option Fault
first None f = branch f None (λ x. Some (of_monitor x))
first (Some x) f = Some (of_series x)

rows_first : (s : State) (o : CheckedOrder) (m : Room) → rows s (checked.Order o) m ≡ first (entry_row s o m.reports m.slips) (objection_now s o)
unfolding rows
rows_first s o m = go s.opened (ltb m.reports 128) (ltb m.slips 15) (in_use s o.id) (leb 64 (taken s.orders)) (leb 1000000 s.arrivals) (routable o && ltb (vacancies s.sent) 15)
  where
    go : (a b c d e f g : Bool) → cond (not a) (Some (of_series NotOpen)) (cond b (Some (of_series NoRoomForReports)) (cond c (Some (of_series NoRoomForSlips)) (cond d (Some (of_series IdInUse)) (cond e (Some (of_series BookFull)) (cond f (Some (of_series AllArrivalsUsed)) (cond g (Some (of_series TooFewSlipsFree)) (branch (objection_now s o) None (λ x. Some (of_monitor x)))))))))
        ≡ first (or_else (cond (not a) (Err NotOpen) (cond b (Err NoRoomForReports) (cond c (Err NoRoomForSlips) (cond d (Err IdInUse) (Ok tt))))) (cond e (Some BookFull) (or_else (cond f (Err AllArrivalsUsed) (cond g (Err TooFewSlipsFree) (Ok tt))) None))) (objection_now s o)
    go false b c d e f g = refl
    go true true c d e f g = refl
    go true false true d e f g = refl
    go true false false true e f g = refl
    go true false false false true f g = refl
    go true false false false false true g = refl
    go true false false false false false true = refl
    go true false false false false false false = refl

pub order_rowed : (R : ℕ → Bool) (s : State) (f : OrderFields) (m : Room) (o : CheckedOrder) (x : SeriesFault) → checked_order R f ≡ Ok o → entry_row s o m.reports m.slips ≡ Some x → refusal R s (call.Order f) m ≡ Some (of_series x)
order_rowed R s f m o x e row = order_rows R s f m o e ∙ rows_first s o m ∙ ap (λ r. first r (objection_now s o)) row

judged_row : (R : ℕ → Bool) (s : State) (f : OrderFields) (m : Room) (o : CheckedOrder) (x : Option MonitorFault) → checked_order R f ≡ Ok o → entry_row s o m.reports m.slips ≡ None → objection_now s o ≡ x → refusal R s (call.Order f) m ≡ first None x
judged_row R s f m o x e row why = order_rows R s f m o e ∙ rows_first s o m ∙ ap (λ r. first r (objection_now s o)) row ∙ ap (first None) why

-- ---- what the monitor says
refused_by : (obj : Option MonitorFault) (g : Kind × ℕ) (en : Entered) (x : MonitorFault) → judged (ruled obj g) en ≡ Err x → obj ≡ Some x
refused_by None g en x e = let z : ◌≡◌ {A = ℕ} 0 1 = cc in absurd (omega arith)
refused_by (Some y) g en x e = cc

granted_by : (obj : Option MonitorFault) (g : Kind × ℕ) (en : Entered) (p : Passed) → judged (ruled obj g) en ≡ Ok p → (obj ≡ None) × (passed en g ≡ p)
granted_by None g en p e = (refl, (cc))
granted_by (Some y) g en p e = let z : ◌≡◌ {A = ℕ} 0 1 = cc in absurd (omega arith)

pub order_judged : (R : ℕ → Bool) (s : State) (f : OrderFields) (m : Room) (o : CheckedOrder) (x : MonitorFault) → checked_order R f ≡ Ok o → entry_row s o m.reports m.slips ≡ None → passing R s.wide (bests s.quotes) (here s.orders) o ≡ Err x → refusal R s (call.Order f) m ≡ Some (of_monitor x)
order_judged R s f m o x e row p = judged_row R s f m o (Some x) e row (refused_by _ _ _ x p)

pub order_passed : (R : ℕ → Bool) (s : State) (f : OrderFields) (m : Room) (o : CheckedOrder) (p : Passed) → checked_order R f ≡ Ok o → entry_row s o m.reports m.slips ≡ None → passing R s.wide (bests s.quotes) (here s.orders) o ≡ Ok p → refusal R s (call.Order f) m ≡ None
order_passed R s f m o p e row h = judged_row R s f m o None e row (granted_by _ _ _ p h).0

pub terms_passed : (R : ℕ → Bool) (wide : Bool) (e m : Bests) (o : CheckedOrder) (p : Passed) → passing R wide e m o ≡ Ok p → terms_of p ≡ admit R e m o
unfolding admit
terms_passed R wide e m o p h = sym (ap terms_of (granted_by _ _ _ p h).1)

-- ---- the room that the rows leave
pub entry_fits : (s : State) (o : CheckedOrder) (m k : ℕ) → entry_row s o m k ≡ None → (128 ≤ m) × (15 ≤ k) × (s.arrivals < 1000000)
entry_fits s o m k h =
    let p = go s.opened (ltb m 128) (ltb k 15) (in_use s o.id) (leb 64 (taken s.orders)) (leb 1000000 s.arrivals) (routable o && ltb (vacancies s.sent) 15) h in
    (ltb-false m 128 p.0, ltb-false k 15 p.1, leb-false 1000000 s.arrivals p.2)
  where
    go : (a b c d e f g : Bool) → or_else (cond (not a) (Err NotOpen) (cond b (Err NoRoomForReports) (cond c (Err NoRoomForSlips) (cond d (Err IdInUse) (Ok tt))))) (cond e (Some BookFull) (or_else (cond f (Err AllArrivalsUsed) (cond g (Err TooFewSlipsFree) (Ok tt))) None)) ≡ None → (b ≡ false) × (c ≡ false) × (f ≡ false)
    go false b c d e f g h = let z : ◌≡◌ {A = ℕ} 0 1 = cc in absurd (omega arith)
    go true true c d e f g h = let z : ◌≡◌ {A = ℕ} 0 1 = cc in absurd (omega arith)
    go true false true d e f g h = let z : ◌≡◌ {A = ℕ} 0 1 = cc in absurd (omega arith)
    go true false false true e f g h = let z : ◌≡◌ {A = ℕ} 0 1 = cc in absurd (omega arith)
    go true false false false true f g h = let z : ◌≡◌ {A = ℕ} 0 1 = cc in absurd (omega arith)
    go true false false false false true g h = let z : ◌≡◌ {A = ℕ} 0 1 = cc in absurd (omega arith)
    go true false false false false false g h = (refl, refl, refl)

-- what the book was told to enter is what the rules enter
pub entering_as : (R : ℕ → Bool) (s : State) (o : CheckedOrder) (i : ℕ) (p : Passed) (e : Bests) (qs : List Quote) → e ≡ bests s.quotes → qs ≡ s.quotes → passing R s.wide e (here s.orders) o ≡ Ok p → after_entry s o.id (enter e R (routing (routable o) qs e s.numbered) i (suc s.arrivals) (terms_of p) s.orders) ≡ entering R s i o
entering_as R s o i p e qs best all pass =
    let t : terms_of p ≡ terms_now R s o = terms_passed R s.wide e (here s.orders) o p pass ∙ ap (λ b. admit R b (here s.orders) o) best in
    ap (λ y. after_entry s o.id (enter e R (routing (routable o) qs e s.numbered) i (suc s.arrivals) y s.orders)) t
    ∙ ap (λ y. after_entry s o.id (enter e R (routing (routable o) y e s.numbered) i (suc s.arrivals) (terms_now R s o) s.orders)) all
    ∙ ap (λ y. after_entry s o.id (enter y R (routing (routable o) s.quotes y s.numbered) i (suc s.arrivals) (terms_now R s o) s.orders)) best

-- ---- the step
pub order_came : (R : ℕ → Bool) (f : OrderFields) (m : Room) (s s' : State) (o : CheckedOrder) (i : ℕ) (d : Done) (l l' : AppendList Report) (k k' : AppendList Slip) → checked_order R f ≡ Ok o → refusal R s (call.Order f) m ≡ None → i < length s.orders → at s.orders i ≡ free → d ≡ entering R s i o → s' ≡ d.state → contents l' ≡ contents l ++ d.reports → contents k' ≡ contents k ++ d.slips → Came {U = Unit} R (call.Order f) m s s' (contents l) (contents l') (contents k) (contents k') (Ok tt)
order_came R f m s s' o i d l l' k k' e fine in' empty is to g h =
    (d.reports, d.slips, g, h, subst (λ (x : State). Step R s (did (call.Order f) m d.reports d.slips) x) (sym to) (subst (λ (y : Done). Step R s (did (call.Order f) m y.reports y.slips) y.state) (sym is) (entered i o fine (order_said R f o e) in' empty)))
