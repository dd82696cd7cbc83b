-- Steps and short runs of the examples. Assumes nothing.
--     rulebook                opens every definition that an example computes with
--     told_writes, left_says  what a step by a quote wrote; what a refusal was for
--     first-told, market_run  exchange 1 quotes to a new series; and it is opened
--     passes, stops           an order after that, carried out or stopped by the monitor
--     is_refused              an order after any run, refused
use Rattle.std.proofs.Common.{◌≡◌, ℕ, Bool, List, [], Some, None, refl, subst, arith}
use Rattle.market.specs.declared.board.Quote.{Quote}
use Rattle.market.specs.Rungs.{cents, first_from, step_up, bottom, last_below}
use Rattle.values.specs.declared.calls.OrderFields.{OrderFields}
use Rattle.values.specs.declared.calls.Call.{Call}
use Rattle.values.specs.declared.calls.Call.TheVariants as call
use Rattle.values.specs.declared.faults.Fault.{Fault}
use Rattle.values.specs.declared.faults.Code.{Code}
use Rattle.values.specs.declared.reports.Report.{Report}
use Rattle.values.specs.declared.reports.Slip.{Slip}
use Rattle.values.specs.declared.faults.MonitorFault.{MonitorFault}
use Rattle.values.specs.Codes.{code, of_monitor}
use Rattle.rules.specs.declared.Room.{Room}
use Rattle.rules.specs.Sides.{tops}
use Rattle.rules.specs.Ladders.{beneath, seek, above}
use Rattle.rules.specs.Book.{pick}
use Rattle.rules.specs.Monitor.{admit}
use Rattle.rules.specs.Trading.{hit, trade}
use Rattle.rules.specs.Routing.{bests, shares, routing}
use Rattle.rules.specs.Resting.{rest_at, settle, turn, enter}
use Rattle.rules.specs.Quoting.{turns, quote}
use Rattle.rules.specs.Slips.{seat, file, filed}
use Rattle.rules.specs.States.{State, Done, new, telling}
use Rattle.rules.specs.Faults.{rows, refusal}
use Rattle.rules.specs.Steps.{Event, Step, Run, order_in}
use Rattle.rules.specs.Steps.Event.{did, refused}
use Rattle.rules.specs.Steps.Step.{opened as opens, told as tells, entered as enters, left as leaves}
use Rattle.rules.specs.Steps.Run.{start, next}
use Rattle.rules.specs.Day.{room}
use Rattle.edges.proofs.Series.{told_only, open_with}
use Rattle.edges.specs.Calls.{quoting, market, Passes, Refused}

unfoldable pub rulebook : Unit {0}
unfolding refusal rows pick seat order_in admit bests tops first_from step_up bottom last_below enter turn trade hit routing shares settle rest_at beneath seek above file filed quote turns
rulebook = tt

pub told_writes : {R : ℕ → Bool} {s : State} {x : ℕ} {q : Quote} {m : Room} {rs : List Report} {ss : List Slip} {s' : State} → Step R s (did (call.Away x q) m rs ss) s' → (telling R s x q).reports ≡ rs
told_writes (tells p) = refl

pub left_says : {R : ℕ → Bool} {s : State} {c : Call} {m : Room} {f : Fault} {s' : State} → Step R s (refused c m f) s' → refusal R s c m ≡ Some f
left_says (leaves f p) = p

-- a quote that nothing rests against
abbrev told_plainly : Bool → Quote → Done
told_plainly wide q = record { state = told_only wide q; reports = []; slips = [] }

pub market_run : (wide : Bool) (b o : ℕ) → refusal cents (new wide) (call.Away 1 (quoting b o)) room ≡ None → telling cents (new wide) 1 (quoting b o) ≡ told_plainly wide (quoting b o) → Run cents wide (market b o) (open_with wide (quoting b o) [] 0)
unfolding rulebook refusal rows
market_run wide b o p e = next (next start (subst (λ d. Step cents (new wide) (did (call.Away 1 (quoting b o)) room d.reports d.slips) d.state) e (tells p))) (opens refl)

pub passes : (wide : Bool) (b o : ℕ) (f : OrderFields) → Run cents wide (market b o) (open_with wide (quoting b o) [] 0) → refusal cents (open_with wide (quoting b o) [] 0) (call.Order f) room ≡ None → Passes wide (market b o) f
passes wide b o f r p = (_, _, (_, next r (enters 0 (order_in cents f) p refl (omega arith) refl)))

pub is_refused : (wide : Bool) (h : List Event) (s : State) (f : OrderFields) (x : Fault) (c : Code) → Run cents wide h s → refusal cents s (call.Order f) room ≡ Some x → code x ≡ c → Refused wide h f c
is_refused wide h s f x c r p e = (x, e, (_, next r (leaves x p)))

pub stops : (wide : Bool) (b o : ℕ) (f : OrderFields) (x : MonitorFault) → Run cents wide (market b o) (open_with wide (quoting b o) [] 0) → refusal cents (open_with wide (quoting b o) [] 0) (call.Order f) room ≡ Some (of_monitor x) → Refused wide (market b o) f (code (of_monitor x))
stops wide b o f x r p = is_refused wide (market b o) (open_with wide (quoting b o) [] 0) f (of_monitor x) (code (of_monitor x)) r p refl
