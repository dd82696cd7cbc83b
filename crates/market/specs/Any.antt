-- Which ladder a letter names, and the rungs of each. Assumes nothing.
use Rattle.std.specs.Prelude.{ℕ, Bool, cond, Some, None, Option, ◌==◌}
use Rattle.market.specs.declared.any.AnyLadder.{AnyLadder}
use Rattle.market.specs.declared.any.AnyLadder.TheVariants.{Cents, CentsThenFives, FivesThenTens}
use Rattle.market.specs.Rungs.{cents, cents_then_fives, fives_then_tens}

abbrev pub rungs_of : AnyLadder → ℕ → Bool
rungs_of Cents = cents
rungs_of CentsThenFives = cents_then_fives
rungs_of FivesThenTens = fives_then_tens

-- P, M and N, by their codes
abbrev pub by_letter : ℕ → Option AnyLadder
by_letter c = cond (c == 80) (Some Cents) (cond (c == 77) (Some CentsThenFives) (cond (c == 78) (Some FivesThenTens) None))
