-- What the fields that are handed out stand for. Assumes nothing.
--     word_in f, bytes_in f      what a field says, and the bytes that it borrows
--     left_of rest               the fields that are still to be handed out
--     Pulled                     one field is handed out with its place, or none is left
--     Short rest                 at most eighty bytes are left
--     room rest                  how many fields the bytes that are left have room for
use Rattle.std.specs.Prelude.{◌≡◌, ℕ, ◌+◌, ◌≤◌, List, [], ◌∷◌, length, Some, None, Option}
use Rattle.std.specs.Borrow.{Bor}
use Rattle.lines.specs.Words.{Word, number, letter, unreadable, word_of, fields}
use Rattle.lines.specs.declared.fields.Field.{Field}
use Rattle.lines.specs.declared.fields.Field.TheVariants.{Number, Letter, Unreadable}

abbrev pub word_in : Field → Word
word_in (Number n w) = number n
word_in (Letter c w) = letter c
word_in (Unreadable w) = unreadable

abbrev pub bytes_in : Field → List ℕ
bytes_in (Number n w) = w.now
bytes_in (Letter c w) = w.now
bytes_in (Unreadable w) = w.now

abbrev pub left_of : Option (Bor (List ℕ)) → List (List ℕ)
left_of None = []
left_of (Some r) = fields r.now

abbrev pub Pulled : List (List ℕ) → ℕ → Option (Field × ℕ) → List (List ℕ) → ℕ → Type 0
Pulled before p None after q = (before ≡ []) × (after ≡ []) × (q ≡ p)
Pulled before p (Some (f, k)) after q = (before ≡ bytes_in f ∷ after) × (word_in f ≡ word_of (bytes_in f)) × (k ≡ p + 1) × (q ≡ p + 1)

abbrev pub Short : Option (Bor (List ℕ)) → Type 0
Short None = Unit {0}
Short (Some r) = length r.now ≤ 80

-- a tab is a byte, so that no more fields come than there are bytes, and one
abbrev pub room : Option (Bor (List ℕ)) → ℕ
room None = 0
room (Some r) = length r.now + 1
