-- What a caller from another language finds. Assumes nothing.
--     number_of r             the number that tells what became of a day's text
--     Placed r bs m m'        the bytes bs stand at the front of the memory m', and the rest is that of m; or they do not fit, and all is as it was
--     Hands r input m m' n    r is what became of a day's text, m' what the memory m holds then, and n the length that is told
use Rattle.std.specs.Prelude.{◌≡◌, ℕ, ◌<◌, ◌≤◌, List, ◌++◌, length, drop, Ok, Err, Result}
use Rattle.boundary.specs.declared.Refusal.{Refusal}
use Rattle.boundary.specs.declared.Refusal.TheVariants.{InputTooLong, BufferTooSmall, OutOfMemory}
use Rattle.day.specs.Days.{Writes}

abbrev pub number_of : Result Unit Refusal → ℕ
number_of (Ok t) = 0
number_of (Err InputTooLong) = 1
number_of (Err BufferTooSmall) = 2
number_of (Err OutOfMemory) = 3

abbrev pub Placed : Result Unit Refusal → List ℕ → List ℕ → List ℕ → Type 0
Placed (Ok t) bs m m' = (length bs ≤ length m) × (m' ≡ bs ++ drop (length bs) m)
Placed (Err r) bs m m' = (r ≡ BufferTooSmall) × (length m < length bs) × (m' ≡ m)

-- 0 done · 1 the input is over 65,536 bytes · 2 the answer does not fit, and n is its length · 3 no memory to work in
pub record Hands (r : ℕ) (input m m' : List ℕ) (n : ℕ) : Type 0 where
  pub known : r ≤ 3
  pub done : r ≡ 0 → (b : List ℕ) × Writes input b × (n ≡ length b) × (n ≤ length m) × (m' ≡ b ++ drop n m)
  pub over : 65536 < length input → r ≡ 1
  pub long : r ≡ 1 → (65536 < length input) × (n ≡ 0) × (m' ≡ m)
  pub small : r ≡ 2 → (b : List ℕ) × Writes input b × (n ≡ length b) × (length m < n) × (m' ≡ m)
  pub spent : r ≡ 3 → (n ≡ 0) × (m' ≡ m)
