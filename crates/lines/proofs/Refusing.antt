-- A line is refused for the topmost row that fits it, and only for that. Assumes nothing.
use Rattle.std.proofs.Common.{◌≡◌, ℕ, ◌+◌, ◌<◌, eqb, List, [], ◌∷◌, length, Some, None, Err, Option, sym, refl, ap, ◌∙◌, inl, inr, arith}
use Rattle.std.proofs.lemmas.Bool.{eq-eqb, ne_eqb, cases_eq, cond-true, cond-false}
use Rattle.values.specs.declared.faults.Layer.TheVariants.{Line}
use Rattle.values.specs.declared.faults.LineFault.{LineFault}
use Rattle.values.specs.declared.faults.LineFault.TheVariants.{NoCall, FieldCount, Unreadable}
use Rattle.values.specs.Codes.{code, row, of_line}
use Rattle.lines.specs.Words.{fields}
use Rattle.lines.specs.Calls.{Form, rest_of, read_all, read_by, by_form}
use Rattle.lines.specs.Laws.{named, width, Refused, no_call, miscounted, misread, Refusals}
use Rattle.lines.proofs.Cuts.{some_field}
use Rattle.lines.proofs.Naming.{line_named}
use Rattle.lines.proofs.Leftmost.{leftmost, refused_at}

pub after_kind : (fs : List (List ℕ)) → 0 < length fs → length (rest_of fs) + 1 ≡ length fs
after_kind [] some = absurd (omega arith)
after_kind (f ∷ fs) some = omega arith

only_first : (f : LineFault) → code (of_line f) ≡ row 1 Line 1 → f ≡ NoCall
only_first NoCall e = refl
only_first (FieldCount n) e = let z : ◌≡◌ {A = ℕ} 2 1 = ap (λ c. c.number) e in absurd (omega arith)
only_first (Unreadable n) e = let z : ◌≡◌ {A = ℕ} 3 1 = ap (λ c. c.number) e in absurd (omega arith)

only_second : (f : LineFault) (n : ℕ) → code (of_line f) ≡ row 2 Line n → f ≡ FieldCount n
only_second NoCall n e = let z : ◌≡◌ {A = ℕ} 1 2 = ap (λ c. c.number) e in absurd (omega arith)
only_second (FieldCount m) n e = ap (λ c. FieldCount c.place) e
only_second (Unreadable m) n e = let z : ◌≡◌ {A = ℕ} 3 2 = ap (λ c. c.number) e in absurd (omega arith)

only_third : (f : LineFault) (n : ℕ) → code (of_line f) ≡ row 3 Line n → f ≡ Unreadable n
only_third NoCall n e = let z : ◌≡◌ {A = ℕ} 1 3 = ap (λ c. c.number) e in absurd (omega arith)
only_third (FieldCount m) n e = let z : ◌≡◌ {A = ℕ} 2 3 = ap (λ c. c.number) e in absurd (omega arith)
only_third (Unreadable m) n e = ap (λ c. Unreadable c.place) e

pub by_count : {R : Type 0} (form : Form R) (fs : List (List ℕ)) → length fs + 1 ≡ length form.sorts + 1 → read_by form fs ≡ read_all form.sorts fs 1 form.make
by_count form fs same = cond-true (eqb (length fs + 1) (length form.sorts + 1)) _ _ (eq-eqb _ _ same)

pub by_miscount : {R : Type 0} (form : Form R) (fs : List (List ℕ)) → (length fs + 1 ≡ length form.sorts + 1 → ⊥) → read_by form fs ≡ Err (FieldCount (length fs + 1))
by_miscount form fs other = cond-false (eqb (length fs + 1) (length form.sorts + 1)) _ _ (ne_eqb _ _ other)

-- what a line is refused for, once the form that it names is known
why : {R : Type 0} (forms : ℕ → Option (Form R)) (bs : List ℕ) (f : LineFault) (o : Option (Form R)) → named forms bs ≡ o → by_form o (rest_of (fields bs)) ≡ Err f → Refused forms bs f
why forms bs f None is e = let fault : f ≡ NoCall = cc in no_call is (ap (λ x. code (of_line x)) fault)
why {R} forms bs f (Some form) is e =
    let count = after_kind (fields bs) (some_field bs) in
    elim (cases_eq (length (fields bs)) (width form)) [
      | inl same ↦
          let found = leftmost form.sorts (rest_of (fields bs)) 1 form.make f (omega arith) (sym (by_count form (rest_of (fields bs)) (omega arith)) ∙ e) in
          misread form found.0 is same found.1 (ap (λ x. code (of_line x)) found.2 ∙ ap (row 3 Line) (omega arith))
      | inr differs ↦
          let said = sym (by_miscount form (rest_of (fields bs)) (λ same. differs (omega arith))) ∙ e in
          let fault : f ≡ FieldCount (length (rest_of (fields bs)) + 1) = cc in
          miscounted form is differs (ap (λ x. code (of_line x)) fault ∙ ap (row 2 Line) count)
    ]

refuses : {R : Type 0} (forms : ℕ → Option (Form R)) (bs : List ℕ) (f : LineFault) → Refused forms bs f → by_form (named forms bs) (rest_of (fields bs)) ≡ Err f
refuses forms bs f (no_call is at) = ap (λ o. by_form o (rest_of (fields bs))) is ∙ ap Err (sym (only_first f at))
refuses forms bs f (miscounted form is differs at) =
    let count = after_kind (fields bs) (some_field bs) in
    ap (λ o. by_form o (rest_of (fields bs))) is ∙ by_miscount form (rest_of (fields bs)) (λ same. differs (omega arith)) ∙ ap (λ n. Err (FieldCount n)) count ∙ ap Err (sym (only_second f (length (fields bs)) at))
refuses forms bs f (misread form k is same first at) =
    let count = after_kind (fields bs) (some_field bs) in
    ap (λ o. by_form o (rest_of (fields bs))) is
    ∙ by_count form (rest_of (fields bs)) (omega arith)
    ∙ refused_at form.sorts (rest_of (fields bs)) 1 k form.make (omega arith) first
    ∙ ap (λ n. Err (Unreadable n)) (omega arith)
    ∙ ap Err (sym (only_third f (k + 2) at))

pub refusals : {R : Type 0} (forms : ℕ → Option (Form R)) → forms 9 ≡ None → Refusals forms
refusals forms none bs f = (λ e. why forms bs f (named forms bs) refl (sym (line_named forms bs none) ∙ e), λ h. line_named forms bs none ∙ refuses forms bs f h)
