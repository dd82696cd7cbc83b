-- From what came of a call to the history that it adds to. Assumes nothing.
use Rattle.std.proofs.Common.{◌≡◌, ℕ, Bool, List, [], ◌∷◌, ◌++◌, Ok, Err, Result, sym, refl, ap, ◌∙◌, subst, append-nil}
use Rattle.values.specs.declared.calls.Call.{Call}
use Rattle.values.specs.declared.faults.Fault.{Fault}
use Rattle.values.specs.declared.reports.Report.{Report}
use Rattle.values.specs.declared.reports.Slip.{Slip}
use Rattle.rules.specs.declared.Room.{Room}
use Rattle.rules.specs.Ladders.{Rungs}
use Rattle.rules.specs.States.{State}
use Rattle.rules.specs.Steps.{Event, Step}
use Rattle.rules.specs.Steps.Run.{next}
use Rattle.law.proofs.Whole.{law}
use Rattle.series.specs.Calls.{Came, Adds, Follows}

-- ---- a call that touches no list leaves it as it is
unmoved : {T : Type 0} (xs ys : List T) → [] ≡ ys → xs ≡ xs ++ ys
unmoved xs ys e = sym (append-nil xs) ∙ ap (λ zs. xs ++ zs) e

pub beside_slips : (R : ℕ → Bool) (c : Call) (m : Room) (s s' : State) (rs rs' : List Report) (ss : List Slip) (r : Result Unit Fault) → Came R c m s s' rs rs' [] [] r → Came R c m s s' rs rs' ss ss r
beside_slips R c m s s' rs rs' ss (Ok u) came = (came.0, came.1, came.2, unmoved ss came.1 came.3, came.4)
beside_slips R c m s s' rs rs' ss (Err f) came = (came.0, refl, came.2)

pub beside_lists : (R : ℕ → Bool) (c : Call) (m : Room) (s s' : State) (rs : List Report) (ss : List Slip) (r : Result Unit Fault) → Came R c m s s' [] [] [] [] r → Came R c m s s' rs rs ss ss r
beside_lists R c m s s' rs ss (Ok u) came = (came.0, came.1, unmoved rs came.0 came.2, unmoved ss came.1 came.3, came.4)
beside_lists R c m s s' rs ss (Err f) came = (refl, refl, came.2)

-- the call by its name
pub called : (R : ℕ → Bool) (c x : Call) (m : Room) (s s' : State) (rs rs' : List Report) (ss ss' : List Slip) (r : Result Unit Fault) → c ≡ x → Came R x m s s' rs rs' ss ss' r → Came R c m s s' rs rs' ss ss' r
called R c x m s s' rs rs' ss ss' r e came = subst (λ (y : Call). Came R y m s s' rs rs' ss ss' r) (sym e) came

-- ---- a step adds to every history, and the law goes with it
pub adds : (R : ℕ → Bool) → Rungs R → (s : State) (e : Event) (s' : State) → Step R s e s' → Adds R s e s'
adds R rungs s e s' x wide h run = let on = next run x in let kept = law R rungs wide (e ∷ h) s' on in (on, kept.0, kept.1)

pub follows : (R : ℕ → Bool) → Rungs R → (c : Call) (m : Room) (s s' : State) (rs rs' : List Report) (ss ss' : List Slip) (r : Result Unit Fault) → Came R c m s s' rs rs' ss ss' r → Follows R c m s s' rs rs' ss ss' r
follows R rungs c m s s' rs rs' ss ss' (Ok u) came = (came.0, came.1, came.2, came.3, adds R rungs s _ s' came.4)
follows R rungs c m s s' rs rs' ss ss' (Err f) came = adds R rungs s _ s' came.2
