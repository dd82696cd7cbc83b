-- Bytes before and after the first of a kind. Assumes nothing.
--     Lacks b bs              no byte of bs is b
--     joined b front rest     front, and behind the byte b the rest, if there is one
use Rattle.std.specs.Prelude.{ℕ, ◌<◌, List, ◌∷◌, ◌++◌, length, Some, None, Option, ◌≢◌, slice_index}
use Rattle.std.specs.Borrow.{Bor}

abbrev pub Lacks : ℕ → List ℕ → Type 0
Lacks b bs = (k : ℕ) → k < length bs → slice_index bs k ≢ b

abbrev pub joined : ℕ → List ℕ → Option (Bor (List ℕ)) → List ℕ
joined b front None = front
joined b front (Some rest) = front ++ b ∷ rest.now
