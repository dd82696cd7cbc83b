-- A ladder by its set of rungs alone, a test R on prices. Assumes nothing.
--     Rungs R             the law of a ladder: 100,000 is a rung, 0 is not, and none is above 100,000
--     beneath R p         the greatest rung smaller than p, 0 if there is none
--     above R p           the least rung greater than p, 0 if there is none
--     behind R s p        one rung less aggressive than p for side s, 0 if there is none
--     reach R s n p       n rungs more aggressive than p, staying at 100,000 or at the lowest rung once there
use Rattle.std.specs.Prelude.{◌≡◌, ℕ, zero, suc, ◌-◌, ◌≤◌, Bool, true, false, cond}
use Rattle.market.specs.Rungs.{climbed, descended}
use Rattle.values.specs.declared.terms.Side.{Side}
use Rattle.values.specs.declared.terms.Side.TheVariants.{Buy, Sell}

pub record Rungs (R : ℕ → Bool) : Type 0 where
  pub top : R 100000 ≡ true
  pub none : R 0 ≡ false
  pub most : (p : ℕ) → R p ≡ true → p ≤ 100000

unfoldable pub beneath : (ℕ → Bool) → ℕ → ℕ
beneath R zero = 0
beneath R (suc k) = cond (R k) k (beneath R k)

-- the first rung from k on, among f prices; 0 where there is none
unfoldable pub seek : (ℕ → Bool) → ℕ → ℕ → ℕ
seek R zero k = 0
seek R (suc f) k = cond (R k) k (seek R f (suc k))

unfoldable pub above : (ℕ → Bool) → ℕ → ℕ
above R p = seek R (100000 - p) (suc p)

abbrev pub behind : (ℕ → Bool) → Side → ℕ → ℕ
behind R Buy p = beneath R p
behind R Sell p = above R p

abbrev pub reach : (ℕ → Bool) → Side → ℕ → ℕ → ℕ
reach R Buy n p = climbed R n p
reach R Sell n p = descended R n p
