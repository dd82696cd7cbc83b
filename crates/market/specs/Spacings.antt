-- Ladders whose rungs are the multiples of one spacing below 300 and of another from 300 on. Assumes nothing.
--     spaced near far     those rungs
--     IsSpaced R near far     R is that set, and rungs stand at 300 and at the top
use Rattle.std.specs.Prelude.{◌≡◌, ℕ, ◌%◌, ◌<◌, ◌≤◌, Bool, true, false, cond, ◌&&◌, ◌==◌, nat_le, nat_lt, refl}
use Rattle.std.proofs.Common.{◌∙◌, inl, inr, arith}
use Rattle.std.proofs.lemmas.Bool.Decides.{nat_tests}
use Rattle.std.proofs.lemmas.Bool.{cases_lt, both_ways}
use Rattle.market.specs.Rungs.{cents, cents_then_fives, fives_then_tens}

abbrev pub spaced : ℕ → ℕ → ℕ → Bool
spaced near far p = nat_lt 0 p && nat_le p 100000 && cond (nat_lt p 300) (p % near == 0) (p % far == 0)

pub record IsSpaced (R : ℕ → Bool) (near far : ℕ) : Type 0 where
  pub same : (p : ℕ) → R p ≡ spaced near far p
  pub some_near : 0 < near
  pub some_far : 0 < far
  pub near_meets : 300 % near ≡ 0
  pub far_meets : 300 % far ≡ 0
  pub far_tops : 100000 % far ≡ 0

-- the laws of a ladder, of any such set; they are proved here, since a law of a trait may not cite its crate's proofs
pub top_rung : (R : ℕ → Bool) (near far : ℕ) → IsSpaced R near far → R 100000 ≡ true
top_rung R near far is = let t = is.far_tops in is.same 100000 ∙ grind (arith, nat_tests)

pub no_rung : (R : ℕ → Bool) (near far : ℕ) → IsSpaced R near far → R 0 ≡ false
no_rung R near far is = is.same 0

pub over_none : (R : ℕ → Bool) (near far : ℕ) → IsSpaced R near far → (p : ℕ) → 100000 < p → R p ≡ false
over_none R near far is p l = is.same p ∙ grind (arith, nat_tests)

pub most_rungs : (R : ℕ → Bool) (near far : ℕ) → IsSpaced R near far → (p : ℕ) → R p ≡ true → p ≤ 100000
most_rungs R near far is p e = elim (cases_lt 100000 p) [ inl a ↦ absurd (both_ways _ (over_none R near far is p a) e) | inr b ↦ b ]

pub cents_spaced : IsSpaced cents 1 1
cents_spaced = record { same = λ p. grind (arith, nat_tests); some_near = omega arith; some_far = omega arith; near_meets = refl; far_meets = refl; far_tops = refl }

pub cents_then_fives_spaced : IsSpaced cents_then_fives 1 5
cents_then_fives_spaced = record { same = λ p. grind (arith, nat_tests); some_near = omega arith; some_far = omega arith; near_meets = refl; far_meets = refl; far_tops = refl }

pub fives_then_tens_spaced : IsSpaced fives_then_tens 5 10
fives_then_tens_spaced = record { same = λ p. refl; some_near = omega arith; some_far = omega arith; near_meets = refl; far_meets = refl; far_tops = refl }
