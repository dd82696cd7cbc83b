-- The fields of a line after the first are those of its rest. Assumes nothing.
use Rattle.std.proofs.Common.{◌≡◌, ℕ, zero, suc, ◌-◌, ◌<◌, List, [], ◌∷◌, get_or, ap, arith}

pub field_later : (tabs : ℕ) (f : List ℕ) (fs : List (List ℕ)) → 0 < tabs → get_or fs (tabs - 1) [] ≡ get_or (f ∷ fs) tabs []
field_later zero f fs some = absurd (omega (arith, some))
field_later (suc k) f fs some = let less : suc k - 1 ≡ k = omega arith in ap (λ j. get_or fs j []) less
