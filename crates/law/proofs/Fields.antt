-- An accepted order has the id of its fields. Assumes nothing.
--     order_id      which is the one that it is announced with
use Rattle.std.proofs.Common.{◌≡◌, ℕ, Bool, ◌&&◌, leb, None, Ok, Err, Result, refl, arith}
use Rattle.std.proofs.lemmas.Bool.{cond_both}
use Rattle.values.specs.declared.calls.OrderFields.{OrderFields}
use Rattle.values.specs.declared.calls.Call.TheVariants as call
use Rattle.values.specs.declared.faults.CheckFault.{CheckFault}
use Rattle.values.specs.declared.faults.CheckFault.TheVariants.{OutOfRange}
use Rattle.checks.specs.declared.checked.CheckedOrder.{CheckedOrder}
use Rattle.checks.specs.declared.checked.CheckedCall.TheVariants as checked
use Rattle.checks.specs.Checked.{then, checked_order}
use Rattle.checks.specs.Fields.{within, listed, side_by, origin_by, kind_by, mark_by, limit_by, on_ladder, handled}
use Rattle.rules.specs.declared.Room.{Room}
use Rattle.rules.specs.States.{State}
use Rattle.rules.specs.Faults.{rows, refusal, unless_checked}
use Rattle.rules.specs.Steps.{or_none, order_in}

-- what is checked has P
abbrev Gives : (CheckedOrder → Type 0) → Result CheckedOrder CheckFault → Type 0
Gives P (Ok o) = P o
Gives P (Err f) = Unit {0}

then_gives : {A : Type 0} (P : CheckedOrder → Type 0) (r : Result A CheckFault) (next : A → Result CheckedOrder CheckFault) → ((x : A) → r ≡ Ok x → Gives P (next x)) → Gives P (then r next)
then_gives P (Ok x) next h = h x refl
then_gives P (Err f) next h = tt

within_is : (low high k n x : ℕ) → within low high k n ≡ Ok x → x ≡ n
within_is low high k n x = cond_both (leb low n && leb n high) (Ok n) (Err (OutOfRange k)) (λ r. r ≡ Ok x → x ≡ n) (λ _ e. cc) (λ _ e. absurd (let z : ◌≡◌ {A = ℕ} 0 1 = cc in omega arith))

checked_id : (R : ℕ → Bool) (f : OrderFields) → Gives (λ o. o.id ≡ f.id) (checked_order R f)
checked_id R f =
    let P : CheckedOrder → Type 0 = λ o. o.id ≡ f.id in
    then_gives P (within 1 999999 2 f.id) _ (λ id e.
    then_gives P (within 1 9999 3 f.firm) _ (λ firm _.
    then_gives P (listed 4 (side_by f.side)) _ (λ side _.
    then_gives P (listed 5 (origin_by f.origin)) _ (λ origin _.
    then_gives P (listed 6 (kind_by f.kind)) _ (λ kind _.
    then_gives P (listed 7 (mark_by f.mark)) _ (λ mark _.
    then_gives P (limit_by kind f.limit) _ (λ limit _.
    then_gives P (within 1 9999 9 f.size) _ (λ size _.
    then_gives P (within 0 20 10 f.protection) _ (λ protection _.
    then_gives P (on_ladder R 8 limit) _ (λ price _.
    then_gives P (handled kind) _ (λ kept _.
    within_is 1 999999 2 f.id id e)))))))))))

pub order_id : (R : ℕ → Bool) (s : State) (f : OrderFields) (m : Room) → refusal R s (call.Order f) m ≡ None → (order_in R f).id ≡ f.id
unfolding refusal order_in
order_id R s f m h = go (checked_order R f) (checked_id R f) h
  where
    go : (r : Result CheckedOrder CheckFault) → Gives (λ o. o.id ≡ f.id) r → unless_checked (then r (λ o. Ok (checked.Order o))) (λ k. rows s k m) ≡ None → (or_none r).id ≡ f.id
    go (Ok o) g e = g
    go (Err x) g e = absurd (let z : ◌≡◌ {A = ℕ} 0 1 = cc in omega arith)
