-- A line is read by the form that its first field names, over the fields after it. Assumes nothing.
use Rattle.std.proofs.Common.{◌≡◌, ℕ, Bool, true, false, cond, eqb, leb, List, [], ◌∷◌, length, None, Err, Option, Result, sym, refl, ap, ◌∙◌, inl, inr}
use Rattle.std.proofs.lemmas.Bool.{eq-eqb, ne_eqb, cases_eq}
use Rattle.values.specs.declared.faults.LineFault.{LineFault}
use Rattle.values.specs.declared.faults.LineFault.TheVariants.{NoCall}
use Rattle.lines.specs.Words.{grown, fields}
use Rattle.lines.specs.Calls.{Form, rest_of, by_form, by_kind, read_line}
use Rattle.lines.specs.Laws.{by_first, named}
use Rattle.lines.proofs.Cuts.{tab, other}

-- a first field of two bytes or more, which names no form
two_bytes : {R : Type 0} (forms : ℕ → Option (Form R)) (k t : ℕ) (fs : List (List ℕ)) → by_form (by_first forms (grown k (grown t fs))) (rest_of (grown k (grown t fs))) ≡ Err NoCall
two_bytes forms k t [] = refl
two_bytes forms k t (f ∷ fs) = refl

first_tab : {R : Type 0} (forms : ℕ → Option (Form R)) (k : ℕ) (bs : List ℕ) → k ≡ 9 → by_form (by_first forms (fields (k ∷ bs))) (rest_of (fields (k ∷ bs))) ≡ Err NoCall
first_tab forms k bs is = ap (λ fs. by_form (by_first forms fs) (rest_of fs)) (tab k bs is)

unknown : {R : Type 0} (forms : ℕ → Option (Form R)) (k : ℕ) (fs : List (List ℕ)) → forms 9 ≡ None → k ≡ 9 → by_form (forms k) fs ≡ Err NoCall
unknown forms k fs none is = ap (λ x. by_form (forms x) fs) is ∙ ap (λ o. by_form o fs) none

one_byte : {R : Type 0} (forms : ℕ → Option (Form R)) (k : ℕ) → forms 9 ≡ None → by_form (forms k) [] ≡ by_form (by_first forms (fields (k ∷ []))) (rest_of (fields (k ∷ [])))
one_byte forms k none =
    elim (cases_eq k 9) [
      | inl is ↦ unknown forms k [] none is ∙ sym (first_tab forms k [] is)
      | inr not ↦ sym (ap (λ fs. by_form (by_first forms fs) (rest_of fs)) (other k [] not))
    ]

abbrev split : {R : Type 0} → (ℕ → Option (Form R)) → ℕ → List ℕ → Bool → Result R LineFault
split forms k rest b = cond b (by_form (forms k) (fields rest)) (Err NoCall)

at_first : {R : Type 0} (forms : ℕ → Option (Form R)) (k : ℕ) (rest : List ℕ) (b : Bool) → forms 9 ≡ None → k ≡ 9 → split forms k rest b ≡ Err NoCall
at_first forms k rest true none is = unknown forms k (fields rest) none is
at_first forms k rest false none is = refl

more_bytes : {R : Type 0} (forms : ℕ → Option (Form R)) (k t : ℕ) (rest : List ℕ) → forms 9 ≡ None → split forms k rest (eqb t 9) ≡ by_form (by_first forms (fields (k ∷ t ∷ rest))) (rest_of (fields (k ∷ t ∷ rest)))
more_bytes forms k t rest none =
    elim (cases_eq k 9) [
      | inl is ↦ at_first forms k rest (eqb t 9) none is ∙ sym (first_tab forms k (t ∷ rest) is)
      | inr not ↦
          elim (cases_eq t 9) [
            | inl tabbed ↦ ap (split forms k rest) (eq-eqb t 9 tabbed) ∙ sym (ap (λ fs. by_form (by_first forms fs) (rest_of fs)) (other k (t ∷ rest) not ∙ ap (grown k) (tab t rest tabbed)))
            | inr letter ↦
                ap (split forms k rest) (ne_eqb t 9 letter) ∙ sym (ap (λ fs. by_form (by_first forms fs) (rest_of fs)) (other k (t ∷ rest) not ∙ ap (grown k) (other t rest letter)) ∙ two_bytes forms k t (fields rest))
          ]
    ]

by_fields : {R : Type 0} (forms : ℕ → Option (Form R)) (bs : List ℕ) → forms 9 ≡ None → by_kind forms bs ≡ by_form (by_first forms (fields bs)) (rest_of (fields bs))
by_fields forms [] none = refl
by_fields forms (k ∷ []) none = one_byte forms k none
by_fields forms (k ∷ t ∷ rest) none = more_bytes forms k t rest none

fitting : {R : Type 0} (forms : ℕ → Option (Form R)) (bs : List ℕ) (b : Bool) → forms 9 ≡ None → cond b (by_kind forms bs) (Err NoCall) ≡ by_form (cond b (by_first forms (fields bs)) None) (rest_of (fields bs))
fitting forms bs true none = by_fields forms bs none
fitting forms bs false none = refl

pub line_named : {R : Type 0} (forms : ℕ → Option (Form R)) (bs : List ℕ) → forms 9 ≡ None → read_line forms bs ≡ by_form (named forms bs) (rest_of (fields bs))
line_named forms bs none = fitting forms bs (leb (length bs) 80) none
