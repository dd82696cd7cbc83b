-- What an accepted line says, field by field. Assumes nothing.
--     Digits f n          the field f is a number, and n is the value of its digits
--     Capital f l         the field f is one capital, and l is that letter
--     SaysHeader h fs     the fields fs of a line are an H and the fields of h
--     SaysCall c fs       the fields fs of a line are a kind's letter and the fields of c
use Rattle.std.specs.Prelude.{◌≡◌, ℕ, true, List, [], ◌∷◌, Ok, slice_index}
use Rattle.values.specs.declared.terms.Letter.{Letter}
use Rattle.values.specs.declared.calls.Header.{Header}
use Rattle.values.specs.declared.calls.OrderFields.{OrderFields}
use Rattle.values.specs.declared.calls.Call.{Call}
use Rattle.values.specs.declared.calls.Call.TheVariants.{Open, Away, Order, Cancel, Reply}
use Rattle.lines.specs.Digits.{is_number, value_of}
use Rattle.lines.specs.Words.{is_letter, fields}
use Rattle.values.specs.Terms.{letter_of}
use Rattle.lines.specs.Calls.{read_header_of, read_call_of}

abbrev pub Digits : List ℕ → ℕ → Type 0
Digits f n = (is_number f ≡ true) × (n ≡ value_of f)

abbrev pub Capital : List ℕ → Letter → Type 0
Capital f l = (is_letter f ≡ true) × (l ≡ letter_of (slice_index f 0))

abbrev pub SaysHeader : Header → List (List ℕ) → Type 0
SaysHeader h fs = (a b : List ℕ) × (fs ≡ (72 ∷ []) ∷ a ∷ b ∷ []) × Capital a h.ladder × Digits b h.width

abbrev pub SaysOrder : OrderFields → List (List ℕ) → Type 0
SaysOrder o fs =
    (a b c d e f g h i : List ℕ) × (fs ≡ (79 ∷ []) ∷ a ∷ b ∷ c ∷ d ∷ e ∷ f ∷ g ∷ h ∷ i ∷ []) × Digits a o.id × Digits b o.firm × Capital c o.side × Capital d o.origin × Capital e o.kind × Capital f o.mark × Digits g o.limit × Digits h o.size × Digits i o.protection

abbrev pub SaysCall : Call → List (List ℕ) → Type 0
SaysCall Open fs = fs ≡ (71 ∷ []) ∷ []
SaysCall (Away exchange q) fs =
    (a b c d e : List ℕ) × (fs ≡ (65 ∷ []) ∷ a ∷ b ∷ c ∷ d ∷ e ∷ []) × Digits a exchange × Digits b q.bid × Digits c q.bid_size × Digits d q.offer × Digits e q.offer_size
SaysCall (Order o) fs = SaysOrder o fs
SaysCall (Cancel id) fs = (a : List ℕ) × (fs ≡ (88 ∷ []) ∷ a ∷ []) × Digits a id
SaysCall (Reply slip filled) fs = (a b : List ℕ) × (fs ≡ (82 ∷ []) ∷ a ∷ b ∷ []) × Digits a slip × Digits b filled

-- a header that is accepted has each field's value as its digits or its capital say
abbrev pub HeadersSay : Type 0
HeadersSay = (bs : List ℕ) (h : Header) → read_header_of bs ≡ Ok h → SaysHeader h (fields bs)

-- and so has a call
abbrev pub CallsSay : Type 0
CallsSay = (bs : List ℕ) (c : Call) → read_call_of bs ≡ Ok c → SaysCall c (fields bs)
