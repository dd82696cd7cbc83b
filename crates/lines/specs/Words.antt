-- A line's fields, and what each says. Assumes nothing.
--     fields bs      the parts of a line between its tabs (byte 9)
--     word_of f      what a field says: a number, a letter, or nothing that can be read
use Rattle.std.specs.Prelude.{ℕ, Bool, cond, ◌&&◌, List, [], ◌∷◌, length, ◌==◌, nat_le, slice_index}
use Rattle.lines.specs.Digits.{is_number, value_of}

pub data Word : Type 0 where
  number : ℕ → Word
  letter : ℕ → Word
  unreadable : Word

-- one capital, A to Z
abbrev pub is_letter : List ℕ → Bool
is_letter bs = length bs == 1 && nat_le 65 (slice_index bs 0) && nat_le (slice_index bs 0) 90

abbrev pub word_of : List ℕ → Word
word_of bs = cond (is_letter bs) (letter (slice_index bs 0)) (cond (is_number bs) (number (value_of bs)) unreadable)

-- a byte more in front of the first part
abbrev pub grown : ℕ → List (List ℕ) → List (List ℕ)
grown b [] = (b ∷ []) ∷ []
grown b (f ∷ fs) = (b ∷ f) ∷ fs

-- the parts between tabs; a line has one more than it has tabs
abbrev pub fields : List ℕ → List (List ℕ)
fields [] = [] ∷ []
fields (b ∷ bs) = cond (b == 9) ([] ∷ fields bs) (grown b (fields bs))

-- a tab, as a number
abbrev pub tab_of : ℕ → ℕ
tab_of b = cond (b == 9) 1 0
