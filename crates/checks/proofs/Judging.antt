-- From judging one field after the other to the leftmost field of the topmost row. Assumes nothing.
--     Refused js f         f is reported for the first of the judgments that does not fit
--     sorted js            no judgment stands behind one that it is before
--     leftmost             Refused, in a sorted list, is the law
--     DecidesOne j P r    r decides the judgment j, and its value has P
--     and_then, done       the chain of checks, one judgment at a time
use Rattle.std.proofs.Common.{◌≡◌, ℕ, Bool, true, false, cond, not, ◌&&◌, ◌||◌, eqb, ltb, ◌⊎◌, List, [], ◌∷◌, Ok, Err, Result, refl, inl, inr, arith}
use Rattle.std.proofs.lemmas.Bool.Decides.{nat_tests}
use Rattle.values.specs.declared.faults.CheckFault.{CheckFault}
use Rattle.checks.specs.Checked.{then}
use Rattle.checks.specs.Law.{Judgment, Every, One, before, Reports, LeftmostTopmost, Judged}

-- the fault is reported for the first that does not fit
abbrev pub Refused : List Judgment → CheckFault → Type 0
Refused [] f = ⊥
Refused (j ∷ js) f = (Reports f j × (j.Fits → ⊥)) ⊎ (j.Fits × Refused js f)

-- none of these is before j
abbrev pub none_before : Judgment → List Judgment → Bool
none_before j [] = true
none_before j (k ∷ ks) = not (before k j) && none_before j ks

-- none stands behind one that it is before
abbrev pub sorted : List Judgment → Bool
sorted [] = true
sorted (j ∷ js) = none_before j js && sorted js

and_left : (a b : Bool) → a && b ≡ true → a ≡ true
and_left true b e = refl
and_left false b e = e

and_right : (a b : Bool) → a && b ≡ true → b ≡ true
and_right true b e = e
and_right false b e = grind arith

not_both : (b : Bool) → not b ≡ true → b ≡ true → ⊥
not_both true n e = grind arith
not_both false n e = grind arith

not_before_itself : (r f : ℕ) → ltb r r || (eqb r r && ltb f f) ≡ true → ⊥
not_before_itself r f e = grind (arith, nat_tests)

-- of the judgments behind j none is before it, so there is nothing to show
rest_fits : (j : Judgment) (js : List Judgment) → none_before j js ≡ true → Every (λ k. before k j ≡ true → k.Fits) js
rest_fits j [] e = tt
rest_fits j (k ∷ ks) e = (
  λ b. absurd (not_both (before k j) (and_left (not (before k j)) (none_before j ks) e) b),
  rest_fits j ks (and_right (not (before k j)) (none_before j ks) e),
)

-- what the law says of the judgment reported
abbrev Found : CheckFault → List Judgment → Judgment → Type 0
Found f js j = Reports f j × (j.Fits → ⊥) × Every (λ k. before k j ≡ true → k.Fits) js

-- a judgment that fits may be put in front
one_more : (f : CheckFault) (k : Judgment) (js all : List Judgment) → k.Fits → One (Found f all) js → One (Found f (k ∷ all)) js
one_more f k [] all fits h = h
one_more f k (j ∷ js) all fits (inl h) = inl (h.0, h.1, (λ _. fits, h.2))
one_more f k (j ∷ js) all fits (inr h) = inr (one_more f k js all fits h)

-- in a sorted list the first that does not fit is the leftmost of the topmost row
pub leftmost : (js : List Judgment) (f : CheckFault) → sorted js ≡ true → Refused js f → LeftmostTopmost js f
leftmost [] f e h = h
leftmost (j ∷ js) f e (inl h) =
    inl (h.0, h.1, (λ b. absurd (not_before_itself j.row_number j.field b), rest_fits j js (and_left (none_before j js) (sorted js) e)))
leftmost (j ∷ js) f e (inr h) =
    inr (one_more f j js js h.0 (leftmost js f (and_right (none_before j js) (sorted js) e) h.1))

-- all fit and the value is the right one, or the fault is that of the first that does not fit
unfoldable pub InOrder : {A : Type 0} → List Judgment → (A → Type 0) → Result A CheckFault → Type 0
InOrder js Carries (Ok v) = Every (λ j. j.Fits) js × Carries v
InOrder js Carries (Err f) = Refused js f

-- the judgment fits and the value has P, or it does not fit and is reported
unfoldable pub DecidesOne : {A : Type 0} → Judgment → (A → Type 0) → Result A CheckFault → Type 0
DecidesOne j P (Ok v) = j.Fits × P v
DecidesOne j P (Err f) = Reports f j × (j.Fits → ⊥)

-- a judgment that fits may be put in front of an answer
in_front : {B : Type 0} (j : Judgment) (js : List Judgment) (C : B → Type 0) (r : Result B CheckFault) → j.Fits → InOrder js C r → InOrder (j ∷ js) C r
unfolding InOrder
in_front j js C (Ok v) fits h = ((fits, h.0), h.1)
in_front j js C (Err f) fits h = inr (fits, h)

-- one judgment is decided, and the rest by what follows
pub and_then : {A B : Type 0} (j : Judgment) (js : List Judgment) (P : A → Type 0) (C : B → Type 0) (r : Result A CheckFault) (next : A → Result B CheckFault) →
    DecidesOne j P r → ((v : A) → P v → InOrder js C (next v)) → InOrder (j ∷ js) C (then r next)
unfolding InOrder DecidesOne
and_then j js P C (Ok v) next h k = in_front j js C (next v) h.0 (k v h.1)
and_then j js P C (Err f) next h k = inl h

-- nothing is left to judge
pub done : {A : Type 0} (C : A → Type 0) (v : A) → C v → InOrder [] C (Ok v)
unfolding InOrder
done C v c = (tt, c)

-- the value handed on in another form
pub carried : {A B : Type 0} (js : List Judgment) (C : A → Type 0) (D : B → Type 0) (r : Result A CheckFault) (g : A → B) → InOrder js C r → ((v : A) → C v → D (g v)) → InOrder js D (then r (λ v. Ok (g v)))
unfolding InOrder
carried js C D (Ok v) g h k = (h.0, k v h.1)
carried js C D (Err f) g h k = h

-- a test decides a judgment
pub by_test : {A : Type 0} (j : Judgment) (P : A → Type 0) (b : Bool) (x : A) (f : CheckFault) → P x → Reports f j → (b ≡ true → j.Fits) → (b ≡ false → j.Fits → ⊥) → DecidesOne j P (cond b (Ok x) (Err f))
unfolding DecidesOne
by_test j P true x f p e yes-fits not-fits = (yes-fits refl, p)
by_test j P false x f p e yes-fits not-fits = (e, not-fits refl)

-- judged in order, answered by the law
pub ordered : {A : Type 0} (js : List Judgment) (C : A → Type 0) (r : Result A CheckFault) → sorted js ≡ true → InOrder js C r → Judged js C r
unfolding InOrder
ordered js C (Ok v) e h = h
ordered js C (Err f) e h = leftmost js f e h
