-- The rungs behind the away best. Assumes nothing.
use Rattle.std.proofs.Common.{◌≡◌, ℕ, Bool}
use Rattle.values.specs.declared.terms.Side.TheVariants.{Buy, Sell}
use Rattle.rules.specs.Ladders.{beneath, above}
use Rattle.table.specs.declared.sides.Away.{Away}
use Rattle.table.specs.Away.{On}

-- the rungs behind the away best, side by side
pub on_both : (R : ℕ → Bool) (a : Away) → a.under ≡ beneath R a.best.offer → a.over ≡ above R a.best.bid → On R a
on_both R a under over Buy = under
on_both R a under over Sell = over
