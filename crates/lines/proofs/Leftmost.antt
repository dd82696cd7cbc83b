-- The leftmost unfit field. Assumes nothing.
use Rattle.std.proofs.Common.{◌≡◌, ℕ, zero, suc, ◌+◌, ◌<◌, true, false, ◌⊎◌, List, [], ◌∷◌, length, get_or, Err, Result, sym, refl, ap, ◌∙◌, inl, inr, arith}
use Rattle.values.specs.declared.faults.LineFault.{LineFault}
use Rattle.values.specs.declared.faults.LineFault.TheVariants.{Unreadable}
use Rattle.lines.specs.Words.{Word, number, letter, unreadable, word_of}
use Rattle.lines.specs.Calls.{Sort, num, cap, number_by, letter_by, field_in, and_then, read_all}
use Rattle.lines.specs.Laws.{fit, FirstUnfit}

abbrev pub field_by : Sort → Word → ℕ → Result ℕ LineFault
field_by num w p = number_by w p
field_by cap w p = letter_by w p

pub field_is : (s : Sort) (f : List ℕ) (fs : List (List ℕ)) (p : ℕ) → field_in s (f ∷ fs) p ≡ field_by s (word_of f) (p + 1)
field_is num f fs p = refl
field_is cap f fs p = refl

abbrev Either : {R : Type 0} → Sort → Word → ℕ → (ℕ → Result R LineFault) → LineFault → Type 0
Either s w p next f = ((fit s w ≡ false) × (f ≡ Unreadable p)) ⊎ ((fit s w ≡ true) × ((n : ℕ) × (next n ≡ Err f)))

one : {R : Type 0} (s : Sort) (w : Word) (p : ℕ) (next : ℕ → Result R LineFault) (f : LineFault) → and_then (field_by s w p) next ≡ Err f → Either s w p next f
one num (number n) p next f e = inr (refl, (n, e))
one num (letter c) p next f e = inl (refl, cc)
one num unreadable p next f e = inl (refl, cc)
one cap (number n) p next f e = inl (refl, cc)
one cap (letter c) p next f e = inr (refl, (c, e))
one cap unreadable p next f e = inl (refl, cc)

later : (s : Sort) (ss : List Sort) (f : List ℕ) (fs : List (List ℕ)) (k : ℕ) → fit s (word_of f) ≡ true → FirstUnfit ss fs k → FirstUnfit (s ∷ ss) (f ∷ fs) (suc k)
later s ss f fs k here h = record { within = omega (arith, h.within); unfit = h.unfit; before = before }
  where
    before : (j : ℕ) → j < suc k → fit (get_or (s ∷ ss) j num) (word_of (get_or (f ∷ fs) j [])) ≡ true
    before zero lt = here
    before (suc j) lt = h.before j (omega arith)

pub leftmost : {R : Type 0} (ss : List Sort) (fs : List (List ℕ)) (p : ℕ) (make : List ℕ → R) (f : LineFault) → length fs ≡ length ss → read_all ss fs p make ≡ Err f → (k : ℕ) × FirstUnfit ss fs k × (f ≡ Unreadable (p + k + 1))
leftmost [] fs p make f same e = let z : ◌≡◌ {A = ℕ} 0 1 = cc in absurd (omega arith)
leftmost (s ∷ ss) [] p make f same e = absurd (omega arith)
leftmost (s ∷ ss) (w ∷ fs) p make f same e =
    elim (one s (word_of w) (p + 1) (λ n. read_all ss fs (p + 1) (λ ns. make (n ∷ ns))) f (ap (λ r. and_then r (λ n. read_all ss fs (p + 1) (λ ns. make (n ∷ ns)))) (sym (field_is s w fs p)) ∙ e)) [
      | inl h ↦ (0, record { within = omega arith; unfit = h.0; before = λ j lt. absurd (omega arith) }, h.1 ∙ ap Unreadable (omega arith))
      | inr h ↦
          let rest = leftmost ss fs (p + 1) (λ ns. make (h.1.0 ∷ ns)) f (omega arith) h.1.1 in
          (suc rest.0, later s ss w fs rest.0 h.0 rest.1, rest.2 ∙ ap Unreadable (omega arith))
    ]

stop : {R : Type 0} (s : Sort) (w : Word) (p : ℕ) (next : ℕ → Result R LineFault) → fit s w ≡ false → and_then (field_by s w p) next ≡ Err (Unreadable p)
stop num (number n) p next e = let z : ◌≡◌ {A = ℕ} 0 1 = cc in absurd (omega arith)
stop num (letter c) p next e = refl
stop num unreadable p next e = refl
stop cap (number n) p next e = refl
stop cap (letter c) p next e = let z : ◌≡◌ {A = ℕ} 0 1 = cc in absurd (omega arith)
stop cap unreadable p next e = refl

go : {R : Type 0} (s : Sort) (w : Word) (p : ℕ) (next : ℕ → Result R LineFault) (r : Result R LineFault) → fit s w ≡ true → ((n : ℕ) → next n ≡ r) → and_then (field_by s w p) next ≡ r
go num (number n) p next r e all = all n
go num (letter c) p next r e all = let z : ◌≡◌ {A = ℕ} 0 1 = cc in absurd (omega arith)
go num unreadable p next r e all = let z : ◌≡◌ {A = ℕ} 0 1 = cc in absurd (omega arith)
go cap (number n) p next r e all = let z : ◌≡◌ {A = ℕ} 0 1 = cc in absurd (omega arith)
go cap (letter c) p next r e all = all c
go cap unreadable p next r e all = let z : ◌≡◌ {A = ℕ} 0 1 = cc in absurd (omega arith)

sooner : (s : Sort) (ss : List Sort) (f : List ℕ) (fs : List (List ℕ)) (k : ℕ) → FirstUnfit (s ∷ ss) (f ∷ fs) (suc k) → FirstUnfit ss fs k
sooner s ss f fs k h = record { within = omega (arith, h.within); unfit = h.unfit; before = λ j lt. h.before (suc j) (omega arith) }

pub refused_at : {R : Type 0} (ss : List Sort) (fs : List (List ℕ)) (p k : ℕ) (make : List ℕ → R) → length fs ≡ length ss → FirstUnfit ss fs k → read_all ss fs p make ≡ Err (Unreadable (p + k + 1))
refused_at [] fs p k make same h = absurd (omega (arith, h.within))
refused_at (s ∷ ss) [] p k make same h = absurd (omega arith)
refused_at (s ∷ ss) (w ∷ fs) p zero make same h =
    ap (λ r. and_then r (λ n. read_all ss fs (p + 1) (λ ns. make (n ∷ ns)))) (field_is s w fs p) ∙ stop s (word_of w) (p + 1) (λ n. read_all ss fs (p + 1) (λ ns. make (n ∷ ns))) h.unfit ∙ ap (λ q. Err (Unreadable q)) (omega arith)
refused_at (s ∷ ss) (w ∷ fs) p (suc k) make same h =
    ap (λ r. and_then r (λ n. read_all ss fs (p + 1) (λ ns. make (n ∷ ns)))) (field_is s w fs p)
    ∙ go s (word_of w) (p + 1) (λ n. read_all ss fs (p + 1) (λ ns. make (n ∷ ns))) (Err (Unreadable (p + 1 + k + 1))) (h.before 0 (omega arith)) (λ n. refused_at ss fs (p + 1) k (λ ns. make (n ∷ ns)) (omega arith) (sooner s ss w fs k h))
    ∙ ap (λ q. Err (Unreadable q)) (omega arith)
