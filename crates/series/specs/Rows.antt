-- The rows of the fault table call by call, once the fields are checked. Assumes nothing.
--     open_row s, away_row m      the rows of an opening and of an away quote
--     cancel_row s id m           the place of the order that a cancel names, or the row that refuses it
--     reply_row s n f m           the place of the slip that a reply names, or the row that refuses it
--     entry_row s o m k           the row before the monitor that refuses the order o, if any
--     Placed s o m k r            r has a free place for the order, or that row
-- m is the room of the report list, k that of the slip list.
use Rattle.std.specs.Prelude.{◌≡◌, ℕ, ◌<◌, Bool, cond, not, ◌&&◌, Some, None, Ok, Err, Option, Result, nat_le, nat_lt}
use Rattle.values.specs.declared.faults.SeriesFault.{SeriesFault}
use Rattle.values.specs.declared.faults.SeriesFault.TheVariants.{NotOpen, AlreadyOpen, NoRoomForReports, NoRoomForSlips, IdInUse, BookFull, AllArrivalsUsed, TooFewSlipsFree, NotResting, SlipNotOut, FilledAboveSize}
use Rattle.checks.specs.declared.checked.CheckedOrder.{CheckedOrder}
use Rattle.checks.specs.Checked.{routable}
use Rattle.rules.specs.States.{State}
use Rattle.rules.specs.Book.{free, at, branch, taken}
use Rattle.rules.specs.Faults.{order_place, slip_place, in_use}
use Rattle.rules.specs.Slips.{sent_at, vacancies}

abbrev pub open_row : State → Result Unit SeriesFault
open_row s = cond s.opened (Err AlreadyOpen) (Ok tt)

abbrev pub away_row : ℕ → Result Unit SeriesFault
away_row m = cond (nat_lt m 128) (Err NoRoomForReports) (Ok tt)

abbrev pub cancel_row : State → ℕ → ℕ → Result ℕ SeriesFault
cancel_row s id m = cond (not s.opened) (Err NotOpen) (cond (nat_lt m 128) (Err NoRoomForReports) (branch (order_place s id) (Err NotResting) (λ i. Ok i)))

abbrev pub reply_row : State → ℕ → ℕ → ℕ → Result ℕ SeriesFault
reply_row s n f m =
    cond (not s.opened) (Err NotOpen)
    (cond (nat_lt m 128) (Err NoRoomForReports)
    (branch (slip_place s n) (Err SlipNotOut) (λ i. cond (nat_lt (sent_at s.sent i).slip.size f) (Err FilledAboveSize) (Ok i))))

-- ---- an order: the rows before a place is looked for, and those after
abbrev pub early_row : State → ℕ → ℕ → ℕ → Result Unit SeriesFault
early_row s id m k =
    cond (not s.opened) (Err NotOpen)
    (cond (nat_lt m 128) (Err NoRoomForReports)
    (cond (nat_lt k 15) (Err NoRoomForSlips)
    (cond (in_use s id) (Err IdInUse) (Ok tt))))

abbrev pub late_row : State → Bool → Result Unit SeriesFault
late_row s go =
    cond (nat_le 1000000 s.arrivals) (Err AllArrivalsUsed)
    (cond (go && nat_lt (vacancies s.sent) 15) (Err TooFewSlipsFree) (Ok tt))

-- the first that refuses
abbrev pub or_else : Result Unit SeriesFault → Option SeriesFault → Option SeriesFault
or_else (Ok u) rest = rest
or_else (Err f) rest = Some f

abbrev pub entry_row : State → CheckedOrder → ℕ → ℕ → Option SeriesFault
entry_row s o m k = or_else (early_row s o.id m k) (cond (nat_le 64 (taken s.orders)) (Some BookFull) (or_else (late_row s (routable o)) None))

abbrev pub Placed : State → CheckedOrder → ℕ → ℕ → Result ℕ SeriesFault → Type 0
Placed s o m k (Ok i) = (entry_row s o m k ≡ None) × (i < 64) × (at s.orders i ≡ free)
Placed s o m k (Err f) = entry_row s o m k ≡ Some f
