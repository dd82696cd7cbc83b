-- A ladder is the set of its rungs, as a test on prices in cents. Assumes nothing.
--     Lowest R r          r is the lowest rung
--     Above R p o         o is the least rung that is greater than p, or none
--     Beneath R p o       o is the greatest rung that is smaller than p, or none
--     cents, cents_then_fives, fives_then_tens     the three sets of rungs
--     climbed R n p       n rungs up from p, staying at 100,000 once there
--     descended R n p     n rungs down from p, staying at the lowest rung once there
use Rattle.std.specs.Prelude.{◌≡◌, ℕ, zero, suc, ◌-◌, ◌%◌, ◌<◌, Bool, true, false, cond, ◌&&◌, Some, None, Option, ◌==◌, nat_le, nat_lt}

abbrev pub Lowest : (ℕ → Bool) → ℕ → Type 0
Lowest R r = (R r ≡ true) × ((k : ℕ) → k < r → R k ≡ false)

-- the least rung that is greater than p, or none
abbrev pub Above : (ℕ → Bool) → ℕ → Option ℕ → Type 0
Above R p None = (k : ℕ) → p < k → R k ≡ false
Above R p (Some q) = (R q ≡ true) × (p < q) × ((k : ℕ) → p < k → k < q → R k ≡ false)

-- the greatest rung that is smaller than p, or none
abbrev pub Beneath : (ℕ → Bool) → ℕ → Option ℕ → Type 0
Beneath R p None = (k : ℕ) → k < p → R k ≡ false
Beneath R p (Some q) = (R q ≡ true) × (q < p) × ((k : ℕ) → q < k → k < p → R k ≡ false)

-- every cent
abbrev pub cents : ℕ → Bool
cents p = nat_lt 0 p && nat_le p 100000

-- every cent below 300, multiples of 5 from 300
abbrev pub cents_then_fives : ℕ → Bool
cents_then_fives p = nat_lt 0 p && nat_le p 100000 && cond (nat_lt p 300) true (p % 5 == 0)

-- multiples of 5 below 300, multiples of 10 from 300
abbrev pub fives_then_tens : ℕ → Bool
fives_then_tens p = nat_lt 0 p && nat_le p 100000 && cond (nat_lt p 300) (p % 5 == 0) (p % 10 == 0)

-- the first rung from k on, among f prices; 100,000 where there is none
unfoldable pub first_from : (ℕ → Bool) → ℕ → ℕ → ℕ
first_from R zero k = 100000
first_from R (suc f) k = cond (R k) k (first_from R f (suc k))

-- one rung up from p, staying at 100,000
unfoldable pub step_up : (ℕ → Bool) → ℕ → ℕ
step_up R p = first_from R (100000 - p) (suc p)

-- n rungs up from p
abbrev pub climbed : (ℕ → Bool) → ℕ → ℕ → ℕ
climbed R zero p = p
climbed R (suc n) p = step_up R (climbed R n p)

-- the lowest rung
unfoldable pub bottom : (ℕ → Bool) → ℕ
bottom R = first_from R 100000 1

-- the last rung below p; the lowest where there is none
unfoldable pub last_below : (ℕ → Bool) → ℕ → ℕ
last_below R zero = bottom R
last_below R (suc k) = cond (R k) k (last_below R k)

-- n rungs down from p
abbrev pub descended : (ℕ → Bool) → ℕ → ℕ → ℕ
descended R zero p = p
descended R (suc n) p = last_below R (descended R n p)
