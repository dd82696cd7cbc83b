-- Events, the steps of a series, and its runs. Assumes nothing.
--     Event               what was asked, with which room, and what came of it: reports and slips, or the fault
--     order_in R f        the order that these fields say
--     Step R s e s'       s comes to s' by the event e
--     Run R wide h s      a new series comes to s by the events of h, the latest first
use Rattle.std.specs.Prelude.{◌≡◌, ℕ, ◌<◌, Bool, List, [], ◌∷◌, length, Some, None, Result}
use Rattle.std.specs.declared.result.Result.TheVariants as result
use Rattle.market.specs.declared.board.Quote.{Quote}
use Rattle.values.specs.declared.terms.Side.TheVariants.{Buy}
use Rattle.values.specs.declared.terms.Kind.TheVariants.{Limit}
use Rattle.values.specs.declared.terms.Origin.TheVariants.{Customer}
use Rattle.values.specs.declared.terms.Mark.TheVariants.{Route}
use Rattle.values.specs.declared.calls.OrderFields.{OrderFields}
use Rattle.values.specs.declared.calls.Call.{Call}
use Rattle.values.specs.declared.calls.Call.TheVariants as call
use Rattle.values.specs.declared.faults.Fault.{Fault}
use Rattle.values.specs.declared.faults.CheckFault.{CheckFault}
use Rattle.values.specs.declared.reports.Report.{Report}
use Rattle.values.specs.declared.reports.Slip.{Slip}
use Rattle.checks.specs.declared.checked.CheckedOrder.{CheckedOrder}
use Rattle.checks.specs.Checked.{checked_order}
use Rattle.rules.specs.declared.Room.{Room}
use Rattle.rules.specs.Book.{free, at}
use Rattle.rules.specs.States.{State, new, opening, telling, entering, dropping, replying}
use Rattle.rules.specs.Faults.{refusal, order_place, slip_place}

pub data Event : Type 0 where
  did : Call → Room → List Report → List Slip → Event
  refused : Call → Room → Fault → Event

abbrev pub no_order : CheckedOrder
no_order = record { id = 0; firm = 0; side = Buy; origin = Customer; kind = Limit; mark = Route; limit = 0; size = 0; protection = 0 }

abbrev pub or_none : Result CheckedOrder CheckFault → CheckedOrder
or_none (result.Ok o) = o
or_none (result.Err f) = no_order

unfoldable pub order_in : (ℕ → Bool) → OrderFields → CheckedOrder
order_in R f = or_none (checked_order R f)

-- an accepted call has no refusal, and only the place of an order is free: any place that holds none
pub data Step (R : ℕ → Bool) : State → Event → State → Type 0 where
  opened : {s : State} {m : Room} → refusal R s call.Open m ≡ None → Step R s (did call.Open m (opening s).reports (opening s).slips) (opening s).state
  told : {s : State} {m : Room} {x : ℕ} {q : Quote} → refusal R s (call.Away x q) m ≡ None → Step R s (did (call.Away x q) m (telling R s x q).reports (telling R s x q).slips) (telling R s x q).state
  entered : {s : State} {m : Room} {f : OrderFields} (i : ℕ) (o : CheckedOrder) → refusal R s (call.Order f) m ≡ None → o ≡ order_in R f → i < length s.orders → at s.orders i ≡ free → Step R s (did (call.Order f) m (entering R s i o).reports (entering R s i o).slips) (entering R s i o).state
  dropped : {s : State} {m : Room} {id : ℕ} (i : ℕ) → refusal R s (call.Cancel id) m ≡ None → order_place s id ≡ Some i → Step R s (did (call.Cancel id) m (dropping s i).reports (dropping s i).slips) (dropping s i).state
  replied : {s : State} {m : Room} {n f : ℕ} (i : ℕ) → refusal R s (call.Reply n f) m ≡ None → slip_place s n ≡ Some i → Step R s (did (call.Reply n f) m (replying s i f).reports (replying s i f).slips) (replying s i f).state
  left : {s : State} {c : Call} {m : Room} (f : Fault) → refusal R s c m ≡ Some f → Step R s (refused c m f) s

pub data Run (R : ℕ → Bool) (wide : Bool) : List Event → State → Type 0 where
  start : Run R wide [] (new wide)
  next : {h : List Event} {s s' : State} {e : Event} → Run R wide h s → Step R s e s' → Run R wide (e ∷ h) s'
