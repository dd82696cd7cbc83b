-- Which calls are refused, and why: the topmost row of the fault table that fits. Assumes nothing.
--     refusal R s c m         the fault of the call c, with any fields, with the room m in its lists; none if it is carried out
--     rows s k m              the same once the fields are checked
--     before_monitor, monitor_row, after_monitor      the rows, in their order
--     topmost rows rest       the first row that fits, else what follows
use Rattle.std.specs.Prelude.{ℕ, Bool, true, false, cond, not, ◌&&◌, ◌||◌, ltb, List, [], ◌∷◌, length, Some, None, Option, Result, nat_le, nat_lt}
use Rattle.std.specs.declared.result.Result.TheVariants as result
use Rattle.values.specs.declared.calls.Call.{Call}
use Rattle.values.specs.declared.faults.Fault.{Fault}
use Rattle.values.specs.declared.faults.CheckFault.{CheckFault}
use Rattle.values.specs.declared.faults.MonitorFault.{MonitorFault}
use Rattle.values.specs.declared.faults.SeriesFault.TheVariants.{NotOpen, AlreadyOpen, NoRoomForReports, NoRoomForSlips, IdInUse, BookFull, AllArrivalsUsed, TooFewSlipsFree, NotResting, SlipNotOut, FilledAboveSize}
use Rattle.values.specs.Codes.{of_check, of_series, of_monitor}
use Rattle.checks.specs.declared.checked.CheckedOrder.{CheckedOrder}
use Rattle.checks.specs.declared.checked.CheckedCall.{CheckedCall}
use Rattle.checks.specs.declared.checked.CheckedCall.TheVariants as checked
use Rattle.checks.specs.Checked.{checked_call, routable}
use Rattle.rules.specs.declared.Room.{Room}
use Rattle.rules.specs.Sides.{national}
use Rattle.rules.specs.Book.{branch, found, spot, taken, here}
use Rattle.rules.specs.Monitor.{objection}
use Rattle.rules.specs.Routing.{bests}
use Rattle.rules.specs.Slips.{sent_at, carries, is_slip, seat, vacancies}
use Rattle.rules.specs.States.{State, named}

-- ---- which calls a row speaks of
abbrev pub opens : CheckedCall → Bool
opens checked.Open = true
opens (checked.Away x q) = false
opens (checked.Order o) = false
opens (checked.Cancel id) = false
opens (checked.Reply n f) = false

-- orders, cancels and replies wait for the opening; away quotes do not
abbrev pub waits : CheckedCall → Bool
waits checked.Open = false
waits (checked.Away x q) = false
waits (checked.Order o) = true
waits (checked.Cancel id) = true
waits (checked.Reply n f) = true

abbrev pub order_and : CheckedCall → (CheckedOrder → Bool) → Bool
order_and checked.Open t = false
order_and (checked.Away x q) t = false
order_and (checked.Order o) t = t o
order_and (checked.Cancel id) t = false
order_and (checked.Reply n f) t = false

abbrev pub cancel_and : CheckedCall → (ℕ → Bool) → Bool
cancel_and checked.Open t = false
cancel_and (checked.Away x q) t = false
cancel_and (checked.Order o) t = false
cancel_and (checked.Cancel id) t = t id
cancel_and (checked.Reply n f) t = false

abbrev pub reply_and : CheckedCall → (ℕ → ℕ → Bool) → Bool
reply_and checked.Open t = false
reply_and (checked.Away x q) t = false
reply_and (checked.Order o) t = false
reply_and (checked.Cancel id) t = false
reply_and (checked.Reply n f) t = t n f

-- ---- what a row asks of the series
abbrev pub order_place : State → ℕ → Option ℕ
order_place s id = spot (named id) s.orders

abbrev pub slip_place : State → ℕ → Option ℕ
slip_place s n = seat (is_slip n) s.sent (length s.sent)

-- an id that rests, or that is on a slip
abbrev pub in_use : State → ℕ → Bool
in_use s id = found (order_place s id) || found (seat (carries id) s.sent (length s.sent))

-- more is said to be filled than the slip carries
abbrev pub above_size : State → ℕ → ℕ → Bool
above_size s n f = branch (slip_place s n) false (λ i. ltb (sent_at s.sent i).slip.size f)

-- ---- the rows
abbrev pub topmost : List (Bool × Fault) → Option Fault → Option Fault
topmost [] rest = rest
topmost (r ∷ rs) rest = cond r.0 (Some r.1) (topmost rs rest)

abbrev pub before_monitor : State → CheckedCall → Room → List (Bool × Fault)
before_monitor s k m =
    (waits k && not s.opened, of_series NotOpen)
    ∷ (opens k && s.opened, of_series AlreadyOpen)
    ∷ (not (opens k) && nat_lt m.reports 128, of_series NoRoomForReports)
    ∷ (order_and k (λ o. ltb m.slips 15), of_series NoRoomForSlips)
    ∷ (order_and k (λ o. in_use s o.id), of_series IdInUse)
    ∷ (order_and k (λ o. nat_le 64 (taken s.orders)), of_series BookFull)
    ∷ (order_and k (λ o. nat_le 1000000 s.arrivals), of_series AllArrivalsUsed)
    ∷ (order_and k (λ o. routable o && nat_lt (vacancies s.sent) 15), of_series TooFewSlipsFree)
    ∷ []

-- what the monitor says to an order now
abbrev pub objection_now : State → CheckedOrder → Option MonitorFault
objection_now s o = objection s.wide (national (bests s.quotes) (here s.orders)) (here s.orders) o.kind o.side o.limit

abbrev pub monitor_row : State → CheckedCall → Option MonitorFault
monitor_row s checked.Open = None
monitor_row s (checked.Away x q) = None
monitor_row s (checked.Order o) = objection_now s o
monitor_row s (checked.Cancel id) = None
monitor_row s (checked.Reply n f) = None

abbrev pub after_monitor : State → CheckedCall → List (Bool × Fault)
after_monitor s k =
    (cancel_and k (λ id. not (found (order_place s id))), of_series NotResting)
    ∷ (reply_and k (λ n f. not (found (slip_place s n))), of_series SlipNotOut)
    ∷ (reply_and k (λ n f. above_size s n f), of_series FilledAboveSize)
    ∷ []

unfoldable pub rows : State → CheckedCall → Room → Option Fault
rows s k m = topmost (before_monitor s k m) (branch (monitor_row s k) (topmost (after_monitor s k) None) (λ f. Some (of_monitor f)))

-- the field checks come first
abbrev pub unless_checked : Result CheckedCall CheckFault → (CheckedCall → Option Fault) → Option Fault
unless_checked (result.Ok k) next = next k
unless_checked (result.Err f) next = Some (of_check f)

unfoldable pub refusal : (ℕ → Bool) → State → Call → Room → Option Fault
refusal R s c m = unless_checked (checked_call R c) (λ k. rows s k m)
