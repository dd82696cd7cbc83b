-- What is known of a call that is not refused. Assumes nothing.
--     order_rows, order_room      an order that is accepted was checked; what the rows leave to it
--     reply_fits                  a reply fills no more than its slip carries
--     away_reports, cancel_reports, reply_reports     these calls have room for 128 reports
use Rattle.std.proofs.Common.{◌≡◌, ℕ, ◌<◌, ◌≤◌, Bool, true, false, cond, not, ◌&&◌, ltb, leb, Some, None, Option, Result, sym, refl, ap, ◌∙◌, subst}
use Rattle.std.proofs.lemmas.Bool.{ltb-false, leb-false, both_ways}
use Rattle.std.specs.declared.result.Result.TheVariants as result
use Rattle.market.specs.declared.board.Quote.{Quote}
use Rattle.values.specs.declared.calls.OrderFields.{OrderFields}
use Rattle.values.specs.declared.calls.Call.{Call}
use Rattle.values.specs.declared.calls.Call.TheVariants as call
use Rattle.values.specs.declared.faults.Fault.{Fault}
use Rattle.values.specs.declared.faults.CheckFault.{CheckFault}
use Rattle.values.specs.declared.faults.MonitorFault.{MonitorFault}
use Rattle.values.specs.Codes.{of_check, of_monitor}
use Rattle.checks.specs.declared.checked.CheckedOrder.{CheckedOrder}
use Rattle.checks.specs.declared.checked.CheckedCall.{CheckedCall}
use Rattle.checks.specs.declared.checked.CheckedCall.TheVariants as checked
use Rattle.checks.specs.Checked.{checked_order, checked_call, routable, then}
use Rattle.checks.specs.Fields.{within, size_beside, on_ladder}
use Rattle.rules.specs.declared.Room.{Room}
use Rattle.rules.specs.Slips.{sent_at, vacancies}
use Rattle.rules.specs.Book.{branch, found, taken}
use Rattle.rules.specs.States.{State}
use Rattle.rules.specs.Faults.{opens, waits, rows, refusal, unless_checked, slip_place, above_size, in_use, objection_now}
use Rattle.rules.specs.Steps.{order_in, or_none}

some_not_none : (f : Fault) → ◌≡◌ {A = Option Fault} (Some f) None → ⊥
some_not_none f e = both_ways false refl (sym (ap found e))

-- where a row does not speak, its test fails, and the rows after it do not speak either
pub passed : (b : Bool) (f : Fault) (rest : Option Fault) → cond b (Some f) rest ≡ None → (b ≡ false) × (rest ≡ None)
passed true f rest e = absurd (some_not_none f e)
passed false f rest e = (refl, e)

-- an accepted order's fields are checked, and no row speaks of it
pub order_rows : (R : ℕ → Bool) (s : State) (f : OrderFields) (m : Room) → refusal R s (call.Order f) m ≡ None → rows s (checked.Order (order_in R f)) m ≡ None
unfolding refusal order_in
order_rows R s f m h = go (checked_order R f) h
  where
    go : (r : Result CheckedOrder CheckFault) → unless_checked (then r (λ o. result.Ok (checked.Order o))) (λ k. rows s k m) ≡ None → rows s (checked.Order (or_none r)) m ≡ None
    go (result.Ok o) e = e
    go (result.Err x) e = absurd (some_not_none (of_check x) e)

-- what the rows before the monitor leave to an order
pub record RoomFor (s : State) (o : CheckedOrder) (m : Room) : Type 0 where
  pub opened : s.opened ≡ true
  pub reports : 128 ≤ m.reports
  pub slips : 15 ≤ m.slips
  pub unused : in_use s o.id ≡ false
  pub places : taken s.orders < 64
  pub arrivals : s.arrivals < 1000000
  pub vacant : routable o ≡ true → 15 ≤ vacancies s.sent
  pub fine : objection_now s o ≡ None

pub order_room : (s : State) (o : CheckedOrder) (m : Room) → rows s (checked.Order o) m ≡ None → RoomFor s o m
unfolding rows
order_room s o m h =
    let a = passed (not s.opened) _ _ h in
    let b = passed (ltb m.reports 128) _ _ a.1 in
    let c = passed (ltb m.slips 15) _ _ b.1 in
    let d = passed (in_use s o.id) _ _ c.1 in
    let e = passed (leb 64 (taken s.orders)) _ _ d.1 in
    let f = passed (leb 1000000 s.arrivals) _ _ e.1 in
    let g = passed (routable o && ltb (vacancies s.sent) 15) _ _ f.1 in
    record {
      opened = is_open s.opened a.0;
      reports = ltb-false m.reports 128 b.0;
      slips = ltb-false m.slips 15 c.0;
      unused = d.0;
      places = leb-false 64 (taken s.orders) e.0;
      arrivals = leb-false 1000000 s.arrivals f.0;
      vacant = λ r. ltb-false (vacancies s.sent) 15 (both (routable o) _ g.0 r);
      fine = no_fault (objection_now s o) g.1;
    }
  where
    is_open : (b : Bool) → not b ≡ false → b ≡ true
    is_open true e = refl
    is_open false e = sym e

    both : (b c : Bool) → (b && c) ≡ false → b ≡ true → c ≡ false
    both true c e r = e
    both false c e r = absurd (both_ways false refl r)

    no_fault : (f : Option MonitorFault) → branch f None (λ x. Some (of_monitor x)) ≡ None → f ≡ None
    no_fault None e = refl
    no_fault (Some x) e = absurd (some_not_none (of_monitor x) e)

-- ---- room for reports, of any call but the opening
rows_reports : (s : State) (k : CheckedCall) (m : Room) → opens k ≡ false → rows s k m ≡ None → 128 ≤ m.reports
unfolding rows
rows_reports s k m e h =
    let a = passed (waits k && not s.opened) _ _ h in
    let b = passed (opens k && s.opened) _ _ a.1 in
    let c = passed (not (opens k) && ltb m.reports 128) _ _ b.1 in
    ltb-false m.reports 128 (subst (λ o. (not o && ltb m.reports 128) ≡ false) e c.0)

abbrev OpensNot : Result CheckedCall CheckFault → Type 0
OpensNot (result.Ok k) = opens k ≡ false
OpensNot (result.Err f) = Unit {0}

goes_on : {A : Type 0} (r : Result A CheckFault) (next : A → Result CheckedCall CheckFault) → ((x : A) → OpensNot (next x)) → OpensNot (then r next)
goes_on (result.Ok x) next h = h x
goes_on (result.Err f) next h = tt

call_reports : (R : ℕ → Bool) (s : State) (c : Call) (m : Room) → OpensNot (checked_call R c) → refusal R s c m ≡ None → 128 ≤ m.reports
unfolding refusal
call_reports R s c m = go (checked_call R c)
  where
    go : (r : Result CheckedCall CheckFault) → OpensNot r → unless_checked r (λ k. rows s k m) ≡ None → 128 ≤ m.reports
    go (result.Ok k) n e = rows_reports s k m n e
    go (result.Err x) n e = absurd (some_not_none (of_check x) e)

pub away_reports : (R : ℕ → Bool) (s : State) (x : ℕ) (q : Quote) (m : Room) → refusal R s (call.Away x q) m ≡ None → 128 ≤ m.reports
away_reports R s x q m =
    call_reports R s (call.Away x q) m
    (goes_on (within 1 15 2 x) _ (λ _.
    goes_on (within 0 100000 3 q.bid) _ (λ _.
    goes_on (size_beside 4 q.bid q.bid_size) _ (λ _.
    goes_on (within 0 100000 5 q.offer) _ (λ _.
    goes_on (size_beside 6 q.offer q.offer_size) _ (λ _.
    goes_on (on_ladder R 3 q.bid) _ (λ _.
    goes_on (on_ladder R 5 q.offer) _ (λ _.
    refl))))))))

pub cancel_reports : (R : ℕ → Bool) (s : State) (id : ℕ) (m : Room) → refusal R s (call.Cancel id) m ≡ None → 128 ≤ m.reports
cancel_reports R s id m = call_reports R s (call.Cancel id) m (goes_on (within 1 999999 2 id) _ (λ _. refl))

pub reply_reports : (R : ℕ → Bool) (s : State) (n f : ℕ) (m : Room) → refusal R s (call.Reply n f) m ≡ None → 128 ≤ m.reports
reply_reports R s n f m = call_reports R s (call.Reply n f) m (goes_on (within 1 15000000 2 n) _ (λ _. goes_on (within 0 9999 3 f) _ (λ _. refl)))

-- ---- replies
reply_rows : (s : State) (n f : ℕ) (m : Room) → rows s (checked.Reply n f) m ≡ None → above_size s n f ≡ false
unfolding rows
reply_rows s n f m h =
    let a = passed (not s.opened) _ _ h in
    let b = passed (ltb m.reports 128) _ _ a.1 in
    let c = passed (not (found (slip_place s n))) _ _ b.1 in
    (passed (above_size s n f) _ _ c.1).0

-- an accepted reply fills no more than its slip carries
pub reply_fits : (R : ℕ → Bool) (s : State) (n f : ℕ) (m : Room) (i : ℕ) → refusal R s (call.Reply n f) m ≡ None → slip_place s n ≡ Some i → f ≤ (sent_at s.sent i).slip.size
unfolding refusal
reply_fits R s n f m i h at =
    ltb-false (sent_at s.sent i).slip.size f (ap (λ o. branch o false (λ j. ltb (sent_at s.sent j).slip.size f)) (sym at) ∙ reply_rows s n f m (first (within 1 15000000 2 n) h))
  where
    second : (r : Result ℕ CheckFault) → unless_checked (then r (λ _. result.Ok (checked.Reply n f))) (λ k. rows s k m) ≡ None → rows s (checked.Reply n f) m ≡ None
    second (result.Ok x) e = e
    second (result.Err x) e = absurd (some_not_none (of_check x) e)

    first : (r : Result ℕ CheckFault) → unless_checked (then r (λ _. then (within 0 9999 3 f) (λ _. result.Ok (checked.Reply n f)))) (λ k. rows s k m) ≡ None → rows s (checked.Reply n f) m ≡ None
    first (result.Ok x) e = second (within 0 9999 3 f) e
    first (result.Err x) e = absurd (some_not_none (of_check x) e)
