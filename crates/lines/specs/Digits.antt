-- What a run of digits says. Assumes nothing.
--     value_of ds        ten times the value of the digits before the last, plus the last
--     all_digits bs      each byte is a digit, 48 to 57; AllDigits says it by places
--     is_number bs       one to eight digits, with no leading zero but 0 itself
--     numeral_of bs      the number that bs writes, if it writes one
use Rattle.std.specs.Prelude.{ℕ, ◌+◌, ◌-◌, ◌*◌, ◌<◌, ◌≤◌, Bool, true, cond, not, ◌&&◌, ◌||◌, List, [], ◌∷◌, reverse, length, Some, None, Option, ◌==◌, nat_le, slice_index}

-- the value of digits that stand last first
abbrev pub from_last : List ℕ → ℕ
from_last [] = 0
from_last (d ∷ ds) = 10 * from_last ds + (d - 48)

-- ten times the value of the digits before the last, plus the last
abbrev pub value_of : List ℕ → ℕ
value_of ds = from_last (reverse ds)

abbrev pub AllDigits : List ℕ → Type 0
AllDigits ds = (k : ℕ) → k < length ds → (48 ≤ slice_index ds k) × (slice_index ds k ≤ 57)

abbrev pub is_digit : ℕ → Bool
is_digit b = nat_le 48 b && nat_le b 57

abbrev pub all_digits : List ℕ → Bool
all_digits [] = true
all_digits (b ∷ bs) = is_digit b && all_digits bs

-- one to eight digits, with no leading zero but 0 itself
abbrev pub is_number : List ℕ → Bool
is_number bs = nat_le 1 (length bs) && nat_le (length bs) 8 && (length bs == 1 || not (slice_index bs 0 == 48)) && all_digits bs

abbrev pub numeral_of : List ℕ → Option ℕ
numeral_of bs = cond (is_number bs) (Some (value_of bs)) None
