-- What a line asks for, or why it is refused. Assumes nothing.
--     Form R                the sorts of the fields after the kind, and what is made of them
--     sorts k, call_of k    the table of kinds: the sort of each field, and the call that the fields make
--     read_all              the fields by their sorts, up to the leftmost that does not fit
--     read_line forms bs    a line read by the form that its first field names
--     read_header_of bs     the first line of a day
--     read_call_of bs       every later line
use Rattle.std.specs.Prelude.{ℕ, ◌+◌, cond, List, [], ◌∷◌, length, Some, None, Ok, Err, Option, Result, ◌==◌, nat_le, slice_index}
use Rattle.values.specs.declared.calls.Header.{Header}
use Rattle.values.specs.declared.calls.Call.{Call}
use Rattle.values.specs.declared.calls.Call.TheVariants as call
use Rattle.values.specs.declared.faults.LineFault.{LineFault}
use Rattle.values.specs.declared.faults.LineFault.TheVariants.{NoCall, FieldCount, Unreadable}
use Rattle.values.specs.Terms.{letter_of}
use Rattle.lines.specs.Words.{Word, number, letter, unreadable, word_of, fields}
use Rattle.lines.specs.declared.calls.CallKind.{CallKind}
use Rattle.lines.specs.declared.calls.CallKind.TheVariants.{Open, Away, Order, Cancel, Reply}

-- what stands in a field: a number, or a capital
pub data Sort : Type 0 where
  num : Sort
  cap : Sort

pub record Form (R : Type 0) : Type 0 where
  pub sorts : List Sort
  pub make : List ℕ → R

-- the fields after the kind
abbrev pub sorts_of : CallKind → List Sort
sorts_of Open = []
sorts_of Away = num ∷ num ∷ num ∷ num ∷ num ∷ []
sorts_of Order = num ∷ num ∷ cap ∷ cap ∷ cap ∷ cap ∷ num ∷ num ∷ num ∷ []
sorts_of Cancel = num ∷ []
sorts_of Reply = num ∷ num ∷ []

-- the call that the fields make, in their order
abbrev pub call_of : CallKind → List ℕ → Call
call_of Open ns = call.Open
call_of Away ns = call.Away (slice_index ns 0) (record { bid = slice_index ns 1; bid_size = slice_index ns 2; offer = slice_index ns 3; offer_size = slice_index ns 4 })
call_of Order ns =
    call.Order (record { id = slice_index ns 0; firm = slice_index ns 1; side = letter_of (slice_index ns 2); origin = letter_of (slice_index ns 3); kind = letter_of (slice_index ns 4); mark = letter_of (slice_index ns 5); limit = slice_index ns 6; size = slice_index ns 7; protection = slice_index ns 8 })
call_of Cancel ns = call.Cancel (slice_index ns 0)
call_of Reply ns = call.Reply (slice_index ns 0) (slice_index ns 1)

abbrev pub header_sorts : List Sort
header_sorts = cap ∷ num ∷ []

abbrev pub header_of : List ℕ → Header
header_of ns = record { ladder = letter_of (slice_index ns 0); width = slice_index ns 1 }

abbrev pub number_by : Word → ℕ → Result ℕ LineFault
number_by (number n) p = Ok n
number_by (letter c) p = Err (Unreadable p)
number_by unreadable p = Err (Unreadable p)

abbrev pub letter_by : Word → ℕ → Result ℕ LineFault
letter_by (number n) p = Err (Unreadable p)
letter_by (letter c) p = Ok c
letter_by unreadable p = Err (Unreadable p)

-- the first of these fields, read by its word and its place; p fields stand before it
abbrev pub first_by : {A : Type 0} → (Word → ℕ → Result A LineFault) → List (List ℕ) → ℕ → Result A LineFault
first_by by [] p = Err (Unreadable (p + 1))
first_by by (f ∷ fs) p = by (word_of f) (p + 1)

abbrev pub number_in : List (List ℕ) → ℕ → Result ℕ LineFault
number_in fs p = first_by number_by fs p

abbrev pub letter_in : List (List ℕ) → ℕ → Result ℕ LineFault
letter_in fs p = first_by letter_by fs p

abbrev pub rest_of : List (List ℕ) → List (List ℕ)
rest_of [] = []
rest_of (f ∷ fs) = fs

-- a fault ends the reading
abbrev pub and_then : {R : Type 0} → Result ℕ LineFault → (ℕ → Result R LineFault) → Result R LineFault
and_then (Ok n) next = next n
and_then (Err f) next = Err f

abbrev pub field_in : Sort → List (List ℕ) → ℕ → Result ℕ LineFault
field_in num fs p = number_in fs p
field_in cap fs p = letter_in fs p

-- the fields as these sorts, up to the leftmost that does not fit; p fields stand before them
abbrev pub read_all : {R : Type 0} → List Sort → List (List ℕ) → ℕ → (List ℕ → R) → Result R LineFault
read_all [] fs p make = Ok (make [])
read_all (s ∷ ss) fs p make = and_then (field_in s fs p) (λ n. read_all ss (rest_of fs) (p + 1) (λ ns. make (n ∷ ns)))

-- the fields after the kind, if there are as many as the form has
abbrev pub read_by : {R : Type 0} → Form R → List (List ℕ) → Result R LineFault
read_by form fs = cond (length fs + 1 == length form.sorts + 1) (read_all form.sorts fs 1 form.make) (Err (FieldCount (length fs + 1)))

abbrev pub by_form : {R : Type 0} → Option (Form R) → List (List ℕ) → Result R LineFault
by_form None fs = Err NoCall
by_form (Some form) fs = read_by form fs

-- the kind is one byte, with a tab or the end of the line after it
abbrev pub by_kind : {R : Type 0} → (ℕ → Option (Form R)) → List ℕ → Result R LineFault
by_kind forms [] = Err NoCall
by_kind forms (k ∷ []) = by_form (forms k) []
by_kind forms (k ∷ t ∷ rest) = cond (t == 9) (by_form (forms k) (fields rest)) (Err NoCall)

abbrev pub read_line : {R : Type 0} → (ℕ → Option (Form R)) → List ℕ → Result R LineFault
read_line forms bs = cond (nat_le (length bs) 80) (by_kind forms bs) (Err NoCall)

-- G open · A away quote · O order · X cancel · R route reply
abbrev pub kind_of : ℕ → Option CallKind
kind_of c = cond (c == 71) (Some Open) (cond (c == 65) (Some Away) (cond (c == 79) (Some Order) (cond (c == 88) (Some Cancel) (cond (c == 82) (Some Reply) None))))

abbrev pub form_of : CallKind → Form Call
form_of k = record { sorts = sorts_of k; make = call_of k }

abbrev pub form_for : Option CallKind → Option (Form Call)
form_for None = None
form_for (Some k) = Some (form_of k)

abbrev pub call_form : ℕ → Option (Form Call)
call_form c = form_for (kind_of c)

abbrev pub the_header : Form Header
the_header = record { sorts = header_sorts; make = header_of }

-- H header
abbrev pub header_form : ℕ → Option (Form Header)
header_form c = cond (c == 72) (Some the_header) None

abbrev pub read_header_of : List ℕ → Result Header LineFault
read_header_of bs = read_line header_form bs

abbrev pub read_call_of : List ℕ → Result Call LineFault
read_call_of bs = read_line call_form bs
