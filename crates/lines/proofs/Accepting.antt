-- What an accepted line holds. Assumes nothing.
--     Ends ss fs make r     the fields fs are of the sorts ss, and what they say makes r
--     accepted              an accepted line has a kind of one byte, and fields that end so
use Rattle.std.proofs.Common.{◌≡◌, ℕ, ◌+◌, Bool, true, false, cond, leb, List, [], ◌∷◌, length, get_or, Some, None, Ok, Option, Result, sym, refl, ap, ◌∙◌, inl, inr, arith}
use Rattle.std.proofs.lemmas.Bool.{cases_eq}
use Rattle.values.specs.declared.faults.LineFault.{LineFault}
use Rattle.lines.specs.Digits.{is_number, value_of}
use Rattle.lines.specs.Words.{Word, number, letter, unreadable, is_letter, word_of, fields}
use Rattle.values.specs.Terms.{letter_of}
use Rattle.lines.specs.Calls.{Sort, num, cap, Form, rest_of, and_then, read_all, by_form, read_line}
use Rattle.lines.specs.Laws.{by_first, named}
use Rattle.lines.specs.Accepts.{Digits, Capital}
use Rattle.lines.proofs.Naming.{line_named}
use Rattle.lines.proofs.Leftmost.{field_by, field_is}
use Rattle.lines.proofs.Refusing.{by_count, by_miscount}

abbrev pub word_for : Sort → ℕ → Word
word_for num n = number n
word_for cap c = letter c

abbrev pub Ends : {R : Type 0} → List Sort → List (List ℕ) → (List ℕ → R) → R → Type 0
Ends [] fs make r = (fs ≡ []) × (make [] ≡ r)
Ends (s ∷ ss) fs make r = (f : List ℕ) × (rest : List (List ℕ)) × (n : ℕ) × (fs ≡ f ∷ rest) × (word_of f ≡ word_for s n) × Ends ss rest (λ ns. make (n ∷ ns)) r

goes : {R : Type 0} (s : Sort) (w : Word) (p : ℕ) (next : ℕ → Result R LineFault) (r : R) → and_then (field_by s w p) next ≡ Ok r → (n : ℕ) × (w ≡ word_for s n) × (next n ≡ Ok r)
goes num (number n) p next r e = (n, refl, e)
goes num (letter c) p next r e = let z : ◌≡◌ {A = ℕ} 0 1 = cc in absurd (omega arith)
goes num unreadable p next r e = let z : ◌≡◌ {A = ℕ} 0 1 = cc in absurd (omega arith)
goes cap (number n) p next r e = let z : ◌≡◌ {A = ℕ} 0 1 = cc in absurd (omega arith)
goes cap (letter c) p next r e = (c, refl, e)
goes cap unreadable p next r e = let z : ◌≡◌ {A = ℕ} 0 1 = cc in absurd (omega arith)

ends : {R : Type 0} (ss : List Sort) (fs : List (List ℕ)) (p : ℕ) (make : List ℕ → R) (r : R) → length fs ≡ length ss → read_all ss fs p make ≡ Ok r → Ends ss fs make r
ends [] [] p make r same e = (refl, cc)
ends [] (f ∷ fs) p make r same e = absurd (omega arith)
ends (s ∷ ss) [] p make r same e = absurd (omega arith)
ends (s ∷ ss) (f ∷ fs) p make r same e =
    let one = goes s (word_of f) (p + 1) (λ n. read_all ss fs (p + 1) (λ ns. make (n ∷ ns))) r (ap (λ x. and_then x (λ n. read_all ss fs (p + 1) (λ ns. make (n ∷ ns)))) (sym (field_is s f fs p)) ∙ e) in
    (f, fs, one.0, refl, one.1, ends ss fs (p + 1) (λ ns. make (one.0 ∷ ns)) r (omega arith) one.2)

-- the fields, the numbers that they say, and what these make
abbrev pub listed : {R : Type 0} (ss : List Sort) (fs : List (List ℕ)) (make : List ℕ → R) (r : R) → Ends ss fs make r → List (List ℕ)
listed [] fs make r h = []
listed (s ∷ ss) fs make r h = h.0 ∷ listed ss h.1 (λ ns. make (h.2 ∷ ns)) r h.5

pub listed_is : {R : Type 0} (ss : List Sort) (fs : List (List ℕ)) (make : List ℕ → R) (r : R) (h : Ends ss fs make r) → fs ≡ listed ss fs make r h
listed_is [] fs make r h = h.0
listed_is (s ∷ ss) fs make r h = h.3 ∙ ap (λ l. h.0 ∷ l) (listed_is ss h.1 (λ ns. make (h.2 ∷ ns)) r h.5)

abbrev pub numbers : {R : Type 0} (ss : List Sort) (fs : List (List ℕ)) (make : List ℕ → R) (r : R) → Ends ss fs make r → List ℕ
numbers [] fs make r h = []
numbers (s ∷ ss) fs make r h = h.2 ∷ numbers ss h.1 (λ ns. make (h.2 ∷ ns)) r h.5

pub made_is : {R : Type 0} (ss : List Sort) (fs : List (List ℕ)) (make : List ℕ → R) (r : R) (h : Ends ss fs make r) → make (numbers ss fs make r h) ≡ r
made_is [] fs make r h = h.1
made_is (s ∷ ss) fs make r h = made_is ss h.1 (λ ns. make (h.2 ∷ ns)) r h.5

-- a field that says a number, or a letter
says : (f : List ℕ) (a b : Bool) (n : ℕ) → cond a (letter (get_or f 0 0)) (cond b (number (value_of f)) unreadable) ≡ number n → (b ≡ true) × (n ≡ value_of f)
says f true b n e = let z : ◌≡◌ {A = ℕ} 0 1 = cc in absurd (omega arith)
says f false true n e = (refl, cc)
says f false false n e = let z : ◌≡◌ {A = ℕ} 0 1 = cc in absurd (omega arith)

pub digits_say : (f : List ℕ) (n : ℕ) → word_of f ≡ number n → Digits f n
digits_say f n e = says f (is_letter f) (is_number f) n e

tells : (f : List ℕ) (a b : Bool) (c : ℕ) → cond a (letter (get_or f 0 0)) (cond b (number (value_of f)) unreadable) ≡ letter c → (a ≡ true) × (c ≡ get_or f 0 0)
tells f true b c e = (refl, cc)
tells f false true c e = let z : ◌≡◌ {A = ℕ} 0 1 = cc in absurd (omega arith)
tells f false false c e = let z : ◌≡◌ {A = ℕ} 0 1 = cc in absurd (omega arith)

pub capital_is : (f : List ℕ) (c : ℕ) → word_of f ≡ letter c → (is_letter f ≡ true) × (c ≡ get_or f 0 0)
capital_is f c e = tells f (is_letter f) (is_number f) c e

pub capital_says : (f : List ℕ) (c : ℕ) → word_of f ≡ letter c → Capital f (letter_of c)
capital_says f c e = let is = capital_is f c e in (is.0, ap letter_of is.1)

pub record Accepted {R : Type 0} (forms : ℕ → Option (Form R)) (bs : List ℕ) (r : R) : Type 0 where
  pub kind : ℕ
  pub form : Form R
  pub rest : List (List ℕ)
  pub known : forms kind ≡ Some form
  pub parts : fields bs ≡ (kind ∷ []) ∷ rest
  pub ends_so : Ends form.sorts rest form.make r

first : {R : Type 0} (forms : ℕ → Option (Form R)) (fs : List (List ℕ)) (form : Form R) → by_first forms fs ≡ Some form → (k : ℕ) × (forms k ≡ Some form) × (fs ≡ (k ∷ []) ∷ rest_of fs)
first forms [] form e = let z : ◌≡◌ {A = ℕ} 0 1 = cc in absurd (omega arith)
first forms ([] ∷ fs) form e = let z : ◌≡◌ {A = ℕ} 0 1 = cc in absurd (omega arith)
first forms ((k ∷ []) ∷ fs) form e = (k, e, refl)
first forms ((k ∷ b ∷ bs) ∷ fs) form e = let z : ◌≡◌ {A = ℕ} 0 1 = cc in absurd (omega arith)

short : {R : Type 0} (b : Bool) (o : Option (Form R)) (form : Form R) → cond b o None ≡ Some form → o ≡ Some form
short true o form e = e
short false o form e = let z : ◌≡◌ {A = ℕ} 0 1 = cc in absurd (omega arith)

by_named : {R : Type 0} (forms : ℕ → Option (Form R)) (bs : List ℕ) (r : R) (o : Option (Form R)) → named forms bs ≡ o → by_form o (rest_of (fields bs)) ≡ Ok r → Accepted forms bs r
by_named forms bs r None is e = let z : ◌≡◌ {A = ℕ} 0 1 = cc in absurd (omega arith)
by_named forms bs r (Some form) is e =
    elim (cases_eq (length (rest_of (fields bs)) + 1) (length form.sorts + 1)) [
      | inl same ↦
          let at = first forms (fields bs) form (short (leb (length bs) 80) (by_first forms (fields bs)) form is) in
          let so = ends form.sorts (rest_of (fields bs)) 1 form.make r (omega arith) (sym (by_count form (rest_of (fields bs)) same) ∙ e) in
          record { kind = at.0; form = form; rest = rest_of (fields bs); known = at.1; parts = at.2; ends_so = so }
      | inr differs ↦
          let said = sym (by_miscount form (rest_of (fields bs)) differs) ∙ e in
          let z : ◌≡◌ {A = ℕ} 0 1 = cc in absurd (omega arith)
    ]

pub accepted : {R : Type 0} (forms : ℕ → Option (Form R)) → forms 9 ≡ None → (bs : List ℕ) (r : R) → read_line forms bs ≡ Ok r → Accepted forms bs r
accepted forms none bs r e = by_named forms bs r (named forms bs) refl (sym (line_named forms bs none) ∙ e)
