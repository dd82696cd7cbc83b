-- The lines of an input. Assumes nothing.
--     lines_of bs       the lines, each ended by byte 10, which the last may lack
use Rattle.std.specs.Prelude.{ℕ, cond, List, [], ◌∷◌, ◌==◌}
use Rattle.lines.specs.Words.{grown}

abbrev pub lines_of : List ℕ → List (List ℕ)
lines_of [] = []
lines_of (b ∷ bs) = cond (b == 10) ([] ∷ lines_of bs) (grown b (lines_of bs))
