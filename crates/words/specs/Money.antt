-- Pieces of a sentence, and prices in words. Assumes nothing.
--     say ws          the pieces, one after the other
--     dollars c       c cents as dollars and two digits of cents
use Rattle.std.specs.Prelude.{ℕ, ◌/◌, ◌%◌, List, [], ◌∷◌, ◌++◌, codes, decimal}

abbrev pub say : List (List ℕ) → List ℕ
say [] = []
say (w ∷ []) = w
say (w ∷ v ∷ ws) = w ++ say (v ∷ ws)

unfoldable pub dollars : ℕ → List ℕ
dollars c = say (codes "$" ∷ decimal (c / 100) ∷ codes "." ∷ decimal (c / 10 % 10) ∷ decimal (c % 10) ∷ [])
