-- From what the ledger did to a step of the rules. Assumes nothing.
use Rattle.std.proofs.Common.{◌≡◌, ℕ, ◌+◌, ◌-◌, Bool, List, [], ◌++◌, Some, Ok, Err, Result, sym, refl, ap, ◌∙◌, subst, arith}
use Rattle.market.specs.declared.board.Quote.{Quote}
use Rattle.market.specs.Quotes.{told}
use Rattle.values.specs.declared.calls.Call.{Call}
use Rattle.values.specs.declared.calls.Call.TheVariants as call
use Rattle.values.specs.declared.faults.Fault.{Fault}
use Rattle.values.specs.declared.faults.CheckFault.{CheckFault}
use Rattle.values.specs.declared.faults.SeriesFault.{SeriesFault}
use Rattle.values.specs.declared.reports.Report.{Report}
use Rattle.values.specs.declared.reports.Slip.{Slip}
use Rattle.values.specs.Codes.{of_check, of_series}
use Rattle.checks.specs.declared.checked.CheckedCall.TheVariants as checked
use Rattle.checks.specs.declared.checked.CheckedCall.{CheckedCall}
use Rattle.checks.specs.Checked.{checked_away, checked_cancel, checked_reply}
use Rattle.records.specs.declared.list.AppendList.{AppendList}
use Rattle.records.specs.Contents.{contents, Grown}
use Rattle.rules.specs.declared.Room.{Room}
use Rattle.rules.specs.declared.Bests.{Bests}
use Rattle.rules.specs.Routing.{bests}
use Rattle.rules.specs.Quoting.{quote}
use Rattle.rules.specs.States.{State, new, opening, telling, dropping, replying}
use Rattle.rules.specs.Faults.{refusal}
use Rattle.rules.specs.Steps.{Step, Run}
use Rattle.rules.specs.Steps.Step.{opened, told as step_told, dropped, replied, left}
use Rattle.rules.specs.Steps.Run.{start}
use Rattle.rules.specs.Steps.Event.{did}
use Rattle.series.specs.States.{requoted}
use Rattle.series.specs.Calls.{Came, Lent}
use Rattle.series.specs.Rows.{open_row, away_row, cancel_row, reply_row}
use Rattle.series.proofs.Refusing.{fault_in, check_refused, checked_rows, open_rows, away_checked, away_rows, cancel_checked, cancel_rows, cancel_place, reply_checked, reply_rows, reply_place}

-- a state beside other quotes
abbrev pub beside : List Quote → State → State
beside qs s = record { opened = s.opened; wide = s.wide; quotes = qs; orders = s.orders; sent = s.sent; arrivals = s.arrivals; numbered = s.numbered }

pub began : (R : ℕ → Bool) (wide : Bool) (s : State) → s ≡ new wide → Run R wide [] s
began R wide s e = subst (λ (x : State). Run R wide [] x) (sym e) start

-- a refused call leaves all as it was
pub came_refused : (R : ℕ → Bool) (c : Call) (m : Room) (s : State) (rs : List Report) (ss : List Slip) (f : Fault) → refusal R s c m ≡ Some f → Came {U = Unit} R c m s s rs rs ss ss (Err f)
came_refused R c m s rs ss f e = (refl, refl, left f e)

pub open_refused : (R : ℕ → Bool) (m : Room) (s : State) (f : SeriesFault) → open_row s ≡ Err f → refusal R s call.Open m ≡ Some (of_series f)
open_refused R m s f e = checked_rows R s call.Open m checked.Open refl ∙ open_rows s m ∙ ap fault_in e

pub open_came : (R : ℕ → Bool) (m : Room) (s s' : State) → open_row s ≡ Ok tt → s' ≡ (opening s).state → Came {U = Unit} R call.Open m s s' [] [] [] [] (Ok tt)
open_came R m s s' e at =
    ([], [], refl, refl, subst (λ (x : State). Step R s (did call.Open m [] []) x) (sym at) (opened (checked_rows R s call.Open m checked.Open refl ∙ open_rows s m ∙ ap fault_in e)))

-- the room that a list answers
pub room_is : (r u c : ℕ) → r + u ≡ c → c - u ≡ r
room_is r u c e = omega arith

-- ---- an away quote
pub away_unfit : (R : ℕ → Bool) (s : State) (x : ℕ) (q : Quote) (m : Room) (f : CheckFault) → checked_away R x q ≡ Err f → refusal R s (call.Away x q) m ≡ Some (of_check f)
away_unfit R s x q m f e = check_refused R s (call.Away x q) m f e

pub away_rowed : (R : ℕ → Bool) (s : State) (x : ℕ) (q : Quote) (m : Room) (k : CheckedCall) (r : Result Unit SeriesFault) → checked_away R x q ≡ Ok k → away_row m.reports ≡ r → refusal R s (call.Away x q) m ≡ fault_in r
away_rowed R s x q m k r e at = checked_rows R s (call.Away x q) m (checked.Away x q) (away_checked R x q k e) ∙ away_rows s x q m ∙ ap fault_in at

pub away_came : (R : ℕ → Bool) (x : ℕ) (q : Quote) (m : Room) (s s' : State) (k : CheckedCall) (e : Bests) (l l' : AppendList Report) → checked_away R x q ≡ Ok k → away_row m.reports ≡ Ok tt → e ≡ bests (told s.quotes x q) → s' ≡ requoted s (told s.quotes x q) (quote e R s.orders) → Grown l (quote e R s.orders).out l' → Came {U = Unit} R (call.Away x q) m s s' (contents l) (contents l') [] [] (Ok tt)
away_came R x q m s s' k e l l' fit at best to g =
    let d = telling R s x q in
    let same = ap (λ b. quote b R s.orders) best in
    let from : s' ≡ d.state = to ∙ ap (requoted s (told s.quotes x q)) same in
    (d.reports, [], g.added ∙ ap (λ r. contents l ++ r.out) same, refl, subst (λ (y : State). Step R s (did (call.Away x q) m d.reports []) y) (sym from) (step_told (away_rowed R s x q m k (Ok tt) fit at)))

-- ---- a cancel
pub cancel_unfit : (R : ℕ → Bool) (s : State) (id : ℕ) (m : Room) (f : CheckFault) → checked_cancel id ≡ Err f → refusal R s (call.Cancel id) m ≡ Some (of_check f)
cancel_unfit R s id m f e = check_refused R s (call.Cancel id) m f e

pub cancel_rowed : (R : ℕ → Bool) (s : State) (id : ℕ) (m : Room) (k : CheckedCall) (r : Result ℕ SeriesFault) → checked_cancel id ≡ Ok k → cancel_row s id m.reports ≡ r → refusal R s (call.Cancel id) m ≡ fault_in r
cancel_rowed R s id m k r e at = checked_rows R s (call.Cancel id) m (checked.Cancel id) (cancel_checked id k e) ∙ cancel_rows s id m ∙ ap fault_in at

pub cancel_came : (R : ℕ → Bool) (id : ℕ) (m : Room) (s s' : State) (k : CheckedCall) (i : ℕ) (l l' : AppendList Report) → checked_cancel id ≡ Ok k → cancel_row s id m.reports ≡ Ok i → s' ≡ (dropping s i).state → Grown l (dropping s i).reports l' → Came {U = Unit} R (call.Cancel id) m s s' (contents l) (contents l') [] [] (Ok tt)
cancel_came R id m s s' k i l l' e at to g =
    ((dropping s i).reports, [], g.added, refl, subst (λ (x : State). Step R s (did (call.Cancel id) m (dropping s i).reports []) x) (sym to) (dropped i (cancel_rowed R s id m k (Ok i) e at) (cancel_place s id m.reports i at)))

-- ---- a reply
pub reply_unfit : (R : ℕ → Bool) (s : State) (n f : ℕ) (m : Room) (x : CheckFault) → checked_reply n f ≡ Err x → refusal R s (call.Reply n f) m ≡ Some (of_check x)
reply_unfit R s n f m x e = check_refused R s (call.Reply n f) m x e

pub reply_rowed : (R : ℕ → Bool) (s : State) (n f : ℕ) (m : Room) (k : CheckedCall) (r : Result ℕ SeriesFault) → checked_reply n f ≡ Ok k → reply_row s n f m.reports ≡ r → refusal R s (call.Reply n f) m ≡ fault_in r
reply_rowed R s n f m k r e at = checked_rows R s (call.Reply n f) m (checked.Reply n f) (reply_checked n f k e) ∙ reply_rows s n f m ∙ ap fault_in at

pub reply_came : (R : ℕ → Bool) (n f : ℕ) (m : Room) (s s' : State) (k : CheckedCall) (i : ℕ) (l l' : AppendList Report) → checked_reply n f ≡ Ok k → reply_row s n f m.reports ≡ Ok i → s' ≡ (replying s i f).state → Grown l (replying s i f).reports l' → Came {U = Unit} R (call.Reply n f) m s s' (contents l) (contents l') [] [] (Ok tt)
reply_came R n f m s s' k i l l' e at to g =
    ((replying s i f).reports, [], g.added, refl, subst (λ (x : State). Step R s (did (call.Reply n f) m (replying s i f).reports []) x) (sym to) (replied i (reply_rowed R s n f m k (Ok i) e at) (reply_place s n f m.reports i at)))

pub grew : {T : Type 0} (l : AppendList T) (rs : List T) (l' : AppendList T) → Grown l rs l' → Lent {U = Unit} (Ok tt) l l'
grew l rs l' g = (g.place, g.room, omega (arith, g.used))
