-- What the reader of lines does, in the words of the table of faults. Assumes nothing.
--     fit s w               a field that says w fits where the sort s is asked
--     FirstUnfit ss fs k    the field at k is the leftmost that does not fit
--     named forms bs        the form that the first field of a line names
--     width form            how many fields a line of the form has, the kind among them
--     Refused forms bs f    f is the topmost row that fits the line, at its place
--     Refusals forms        a line is refused for just that fault
use Rattle.std.specs.Prelude.{◌≡◌, ℕ, ◌+◌, ◌<◌, Bool, true, false, cond, List, [], ◌∷◌, length, Some, None, Err, Option, ◌≢◌, nat_le, slice_index_or}
use Rattle.values.specs.declared.faults.Layer.TheVariants.{Line}
use Rattle.values.specs.declared.faults.LineFault.{LineFault}
use Rattle.values.specs.Codes.{code, row, of_line}
use Rattle.lines.specs.Words.{Word, number, letter, unreadable, word_of, fields}
use Rattle.lines.specs.Calls.{Sort, num, cap, Form, rest_of, read_line}

abbrev pub fit : Sort → Word → Bool
fit num (number n) = true
fit num (letter c) = false
fit num unreadable = false
fit cap (number n) = false
fit cap (letter c) = true
fit cap unreadable = false

-- the field at k is not of its sort, and each before it is
pub record FirstUnfit (ss : List Sort) (fs : List (List ℕ)) (k : ℕ) : Type 0 where
  pub within : k < length ss
  pub unfit : fit (slice_index_or ss k num) (word_of (slice_index_or fs k [])) ≡ false
  pub before : (j : ℕ) → j < k → fit (slice_index_or ss j num) (word_of (slice_index_or fs j [])) ≡ true

-- the kind is a first field of one byte
abbrev pub by_first : {R : Type 0} → (ℕ → Option (Form R)) → List (List ℕ) → Option (Form R)
by_first forms [] = None
by_first forms ([] ∷ fs) = None
by_first forms ((k ∷ []) ∷ fs) = forms k
by_first forms ((k ∷ b ∷ bs) ∷ fs) = None

-- a line of over eighty bytes names no form
abbrev pub named : {R : Type 0} → (ℕ → Option (Form R)) → List ℕ → Option (Form R)
named forms bs = cond (nat_le (length bs) 80) (by_first forms (fields bs)) None

abbrev pub width : {R : Type 0} → Form R → ℕ
width form = length form.sorts + 1

-- row 1 where the line names no form; else row 2 where the count differs, at the number of fields found; else row 3 at the
-- leftmost field that does not fit, the fields after the kind being numbered from 2
pub data Refused {R : Type 0} (forms : ℕ → Option (Form R)) (bs : List ℕ) (f : LineFault) : Type 0 where
  no_call : named forms bs ≡ None → code (of_line f) ≡ row 1 Line 1 → Refused forms bs f
  miscounted : (form : Form R) → named forms bs ≡ Some form → (length (fields bs) ≢ width form) → code (of_line f) ≡ row 2 Line (length (fields bs)) → Refused forms bs f
  misread : (form : Form R) (k : ℕ) → named forms bs ≡ Some form → length (fields bs) ≡ width form → FirstUnfit form.sorts (rest_of (fields bs)) k → code (of_line f) ≡ row 3 Line (k + 2) → Refused forms bs f

abbrev pub Refusals : {R : Type 0} → (ℕ → Option (Form R)) → Type 0
Refusals forms = (bs : List ℕ) (f : LineFault) → (read_line forms bs ≡ Err f → Refused forms bs f) × (Refused forms bs f → read_line forms bs ≡ Err f)
