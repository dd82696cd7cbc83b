-- The fault table call by call. Assumes nothing.
use Rattle.std.proofs.Common.{◌≡◌, ℕ, Bool, true, false, cond, not, ltb, Some, None, Ok, Err, Option, Result, refl, ap, ◌∙◌, arith}
use Rattle.market.specs.declared.board.Quote.{Quote}
use Rattle.values.specs.declared.calls.Call.{Call}
use Rattle.values.specs.declared.faults.Fault.{Fault}
use Rattle.values.specs.declared.faults.CheckFault.{CheckFault}
use Rattle.values.specs.declared.faults.SeriesFault.{SeriesFault}
use Rattle.values.specs.declared.faults.SeriesFault.TheVariants.{NotOpen, AlreadyOpen, NoRoomForReports, NotResting, SlipNotOut, FilledAboveSize}
use Rattle.values.specs.Codes.{of_check, of_series}
use Rattle.checks.specs.declared.checked.CheckedCall.{CheckedCall}
use Rattle.checks.specs.declared.checked.CheckedCall.TheVariants as checked
use Rattle.checks.specs.Checked.{checked_call, checked_away, checked_cancel, checked_reply, then}
use Rattle.checks.specs.Fields.{within, size_beside, on_ladder}
use Rattle.rules.specs.declared.Room.{Room}
use Rattle.rules.specs.Book.{branch, found}
use Rattle.rules.specs.Slips.{sent_at}
use Rattle.rules.specs.States.{State}
use Rattle.rules.specs.Faults.{rows, refusal, unless_checked, order_place, slip_place}
use Rattle.series.specs.Rows.{open_row, away_row, cancel_row, reply_row}

-- the fault that the rows of the series answered
abbrev pub fault_in : {A : Type 0} → Result A SeriesFault → Option Fault
fault_in (Ok x) = None
fault_in (Err f) = Some (of_series f)

-- ---- the field checks come first
pub check_refused : (R : ℕ → Bool) (s : State) (c : Call) (m : Room) (f : CheckFault) → checked_call R c ≡ Err f → refusal R s c m ≡ Some (of_check f)
unfolding refusal
check_refused R s c m f e = ap (λ r. unless_checked r (λ k. rows s k m)) e

pub checked_rows : (R : ℕ → Bool) (s : State) (c : Call) (m : Room) (k : CheckedCall) → checked_call R c ≡ Ok k → refusal R s c m ≡ rows s k m
unfolding refusal
checked_rows R s c m k e = ap (λ r. unless_checked r (λ k. rows s k m)) e

-- a check that answers a value went on past its first part
then_ok : {A B Q : Type 0} (r : Result A CheckFault) {f : A → Result B CheckFault} {k : B} → ((x : A) → f x ≡ Ok k → Q) → then r f ≡ Ok k → Q
then_ok (Ok x) go e = go x e
then_ok (Err y) go e = let z : ◌≡◌ {A = ℕ} 0 1 = cc in absurd (omega arith)

pub away_checked : (R : ℕ → Bool) (x : ℕ) (q : Quote) (k : CheckedCall) → checked_away R x q ≡ Ok k → checked_away R x q ≡ Ok (checked.Away x q)
away_checked R x q k e =
    e ∙ ap (λ c. Ok c) (then_ok (within 1 15 2 x) (λ _. then_ok (within 0 100000 3 q.bid) (λ _. then_ok (size_beside 4 q.bid q.bid_size) (λ _. then_ok (within 0 100000 5 q.offer) (λ _. then_ok (size_beside 6 q.offer q.offer_size) (λ _. then_ok (on_ladder R 3 q.bid) (λ _. then_ok (on_ladder R 5 q.offer) (λ _ d. same d))))))) e)
  where
    same : {k : CheckedCall} → ◌≡◌ {A = Result CheckedCall CheckFault} (Ok (checked.Away x q)) (Ok k) → k ≡ checked.Away x q
    same d = cc

pub cancel_checked : (id : ℕ) (k : CheckedCall) → checked_cancel id ≡ Ok k → checked_cancel id ≡ Ok (checked.Cancel id)
cancel_checked id k e = e ∙ ap (λ c. Ok c) (then_ok (within 1 999999 2 id) (λ _ d. same d) e)
  where
    same : {k : CheckedCall} → ◌≡◌ {A = Result CheckedCall CheckFault} (Ok (checked.Cancel id)) (Ok k) → k ≡ checked.Cancel id
    same d = cc

pub reply_checked : (n f : ℕ) (k : CheckedCall) → checked_reply n f ≡ Ok k → checked_reply n f ≡ Ok (checked.Reply n f)
reply_checked n f k e = e ∙ ap (λ c. Ok c) (then_ok (within 1 15000000 2 n) (λ _. then_ok (within 0 9999 3 f) (λ _ d. same d)) e)
  where
    same : {k : CheckedCall} → ◌≡◌ {A = Result CheckedCall CheckFault} (Ok (checked.Reply n f)) (Ok k) → k ≡ checked.Reply n f
    same d = cc

-- ---- then the rows
pub open_rows : (s : State) (m : Room) → rows s checked.Open m ≡ fault_in (open_row s)
unfolding rows
open_rows s m = go s.opened
  where
    go : (a : Bool) → cond a (Some (of_series AlreadyOpen)) None ≡ fault_in {A = Unit} (cond a (Err AlreadyOpen) (Ok tt))
    go true = refl
    go false = refl

pub away_rows : (s : State) (x : ℕ) (q : Quote) (m : Room) → rows s (checked.Away x q) m ≡ fault_in (away_row m.reports)
unfolding rows
away_rows s x q m = go (ltb m.reports 128)
  where
    go : (a : Bool) → cond a (Some (of_series NoRoomForReports)) None ≡ fault_in {A = Unit} (cond a (Err NoRoomForReports) (Ok tt))
    go true = refl
    go false = refl

pub cancel_rows : (s : State) (id : ℕ) (m : Room) → rows s (checked.Cancel id) m ≡ fault_in (cancel_row s id m.reports)
unfolding rows
cancel_rows s id m = go s.opened (ltb m.reports 128) (order_place s id)
  where
    go : (a b : Bool) (o : Option ℕ) → cond (not a) (Some (of_series NotOpen)) (cond b (Some (of_series NoRoomForReports)) (cond (not (found o)) (Some (of_series NotResting)) None)) ≡ fault_in (cond (not a) (Err NotOpen) (cond b (Err NoRoomForReports) (branch o (Err NotResting) (λ i. Ok i))))
    go false b o = refl
    go true true o = refl
    go true false None = refl
    go true false (Some i) = refl

pub reply_rows : (s : State) (n f : ℕ) (m : Room) → rows s (checked.Reply n f) m ≡ fault_in (reply_row s n f m.reports)
unfolding rows
reply_rows s n f m = go s.opened (ltb m.reports 128) (slip_place s n)
  where
    last : (b : Bool) (i : ℕ) → cond b (Some (of_series FilledAboveSize)) None ≡ fault_in {A = ℕ} (cond b (Err FilledAboveSize) (Ok i))
    last true i = refl
    last false i = refl

    go : (a b : Bool) (o : Option ℕ) → cond (not a) (Some (of_series NotOpen)) (cond b (Some (of_series NoRoomForReports)) (cond (not (found o)) (Some (of_series SlipNotOut)) (cond (branch o false (λ i. ltb (sent_at s.sent i).slip.size f)) (Some (of_series FilledAboveSize)) None))) ≡ fault_in (cond (not a) (Err NotOpen) (cond b (Err NoRoomForReports) (branch o (Err SlipNotOut) (λ i. cond (ltb (sent_at s.sent i).slip.size f) (Err FilledAboveSize) (Ok i)))))
    go false b o = refl
    go true true o = refl
    go true false None = refl
    go true false (Some i) = last (ltb (sent_at s.sent i).slip.size f) i

-- ---- and the place that they answer
pub cancel_place : (s : State) (id m i : ℕ) → cancel_row s id m ≡ Ok i → order_place s id ≡ Some i
cancel_place s id m i e = go s.opened (ltb m 128) (order_place s id) e
  where
    go : (a b : Bool) (o : Option ℕ) → ◌≡◌ {A = Result ℕ SeriesFault} (cond (not a) (Err NotOpen) (cond b (Err NoRoomForReports) (branch o (Err NotResting) (λ j. Ok j)))) (Ok i) → o ≡ Some i
    go false b o e = let z : ◌≡◌ {A = ℕ} 0 1 = cc in absurd (omega arith)
    go true true o e = let z : ◌≡◌ {A = ℕ} 0 1 = cc in absurd (omega arith)
    go true false None e = let z : ◌≡◌ {A = ℕ} 0 1 = cc in absurd (omega arith)
    go true false (Some j) e = cc

pub reply_place : (s : State) (n f m i : ℕ) → reply_row s n f m ≡ Ok i → slip_place s n ≡ Some i
reply_place s n f m i e = go s.opened (ltb m 128) (slip_place s n) e
  where
    last : (b : Bool) (j : ℕ) → ◌≡◌ {A = Result ℕ SeriesFault} (cond b (Err FilledAboveSize) (Ok j)) (Ok i) → ◌≡◌ {A = Option ℕ} (Some j) (Some i)
    last true j e = let z : ◌≡◌ {A = ℕ} 0 1 = cc in absurd (omega arith)
    last false j e = cc

    go : (a b : Bool) (o : Option ℕ) → ◌≡◌ {A = Result ℕ SeriesFault} (cond (not a) (Err NotOpen) (cond b (Err NoRoomForReports) (branch o (Err SlipNotOut) (λ j. cond (ltb (sent_at s.sent j).slip.size f) (Err FilledAboveSize) (Ok j))))) (Ok i) → o ≡ Some i
    go false b o e = let z : ◌≡◌ {A = ℕ} 0 1 = cc in absurd (omega arith)
    go true true o e = let z : ◌≡◌ {A = ℕ} 0 1 = cc in absurd (omega arith)
    go true false None e = let z : ◌≡◌ {A = ℕ} 0 1 = cc in absurd (omega arith)
    go true false (Some j) e = last (ltb (sent_at s.sent j).slip.size f) j e
