-- One rung less aggressive: where it stands, and that a ladder's own answers give it. Assumes nothing.
use Rattle.std.proofs.Common.{◌≡◌, ℕ, zero, suc, ◌+◌, ◌-◌, ◌<◌, ◌≤◌, Bool, true, false, ◌⊎◌, Some, None, Option, unwrap_or, refl, ap, ◌∙◌, inl, inr, arith}
use Rattle.std.proofs.lemmas.Bool.{cond_both, cond-true, cond-false, cases_eq}
use Rattle.market.specs.Rungs.{Above, Beneath}
use Rattle.values.specs.declared.terms.Side.{Side}
use Rattle.values.specs.declared.terms.Side.TheVariants.{Buy, Sell}
use Rattle.rules.specs.Sides.{Unlocked}
use Rattle.rules.specs.Ladders.{beneath, seek, above, behind}

-- ---- where it stands
pub beneath_less : (R : ℕ → Bool) (p : ℕ) → (p ≡ 0) ⊎ (beneath R p < p)
unfolding beneath
beneath_less R zero = inl refl
beneath_less R (suc k) = inr (cond_both (R k) k (beneath R k) (λ n. n < suc k) (λ _. omega arith) (λ _. elim (beneath_less R k) [ inl e ↦ under k e | inr h ↦ omega (arith, h) ]))
  where
    under : (k : ℕ) → k ≡ 0 → beneath R k < suc k
    under zero e = omega arith
    under (suc k) e = absurd (omega (arith, e))

seek_from : (R : ℕ → Bool) (f k : ℕ) → (seek R f k ≡ 0) ⊎ (k ≤ seek R f k)
unfolding seek
seek_from R zero k = inl refl
seek_from R (suc f) k = cond_both (R k) k (seek R f (suc k)) (λ n. (n ≡ 0) ⊎ (k ≤ n)) (λ _. inr (omega arith)) (λ _. elim (seek_from R f (suc k)) [ inl e ↦ inl e | inr h ↦ inr (omega (arith, h)) ])

pub above_more : (R : ℕ → Bool) (p : ℕ) → (above R p ≡ 0) ⊎ (p < above R p)
unfolding above
above_more R p = elim (seek_from R (100000 - p) (suc p)) [ inl e ↦ inl e | inr h ↦ inr (omega (arith, h)) ]

pub behind_unlocked : (R : ℕ → Bool) (s : Side) (w : ℕ) → Unlocked s w (behind R s w)
behind_unlocked R Buy w = beneath_less R w
behind_unlocked R Sell w = above_more R w

-- ---- what a ladder answers is it
beneath_none : (R : ℕ → Bool) (p : ℕ) → ((k : ℕ) → k < p → R k ≡ false) → beneath R p ≡ 0
unfolding beneath
beneath_none R zero none = refl
beneath_none R (suc k) none = cond-false (R k) k (beneath R k) (none k (omega arith)) ∙ beneath_none R k (λ j l. none j (omega arith))

beneath_some : (R : ℕ → Bool) (p q : ℕ) → R q ≡ true → q < p → ((k : ℕ) → q < k → k < p → R k ≡ false) → beneath R p ≡ q
unfolding beneath
beneath_some R zero q hit low gap = absurd (omega arith)
beneath_some R (suc k) q hit low gap =
    elim (cases_eq k q) [
      | inl e ↦ cond-true (R k) k (beneath R k) (ap R e ∙ hit) ∙ e
      | inr ne ↦ cond-false (R k) k (beneath R k) (gap k (omega arith) (omega arith)) ∙ beneath_some R k q hit (omega arith) (λ j a b. gap j a (omega arith))
    ]

pub beneath_answer : (R : ℕ → Bool) (p : ℕ) (o : Option ℕ) → Beneath R p o → beneath R p ≡ unwrap_or o 0
beneath_answer R p None h = beneath_none R p h
beneath_answer R p (Some q) h = beneath_some R p q h.0 h.1 h.2

seek_none : (R : ℕ → Bool) (f k : ℕ) → ((j : ℕ) → k ≤ j → R j ≡ false) → seek R f k ≡ 0
unfolding seek
seek_none R zero k none = refl
seek_none R (suc f) k none = cond-false (R k) k (seek R f (suc k)) (none k (omega arith)) ∙ seek_none R f (suc k) (λ j l. none j (omega arith))

seek_some : (R : ℕ → Bool) (f k q : ℕ) → R q ≡ true → k ≤ q → q < k + f → ((j : ℕ) → k ≤ j → j < q → R j ≡ false) → seek R f k ≡ q
unfolding seek
seek_some R zero k q hit low high gap = absurd (omega arith)
seek_some R (suc f) k q hit low high gap =
    elim (cases_eq k q) [
      | inl e ↦ cond-true (R k) k (seek R f (suc k)) (ap R e ∙ hit) ∙ e
      | inr ne ↦
          let lt : k < q = omega arith in
          cond-false (R k) k (seek R f (suc k)) (gap k (omega arith) lt) ∙ seek_some R f (suc k) q hit (omega arith) (omega arith) (λ j a b. gap j (omega arith) b)
    ]

pub above_answer : (R : ℕ → Bool) (p : ℕ) (o : Option ℕ) → ((k : ℕ) → R k ≡ true → k ≤ 100000) → Above R p o → above R p ≡ unwrap_or o 0
unfolding above
above_answer R p None most h = seek_none R (100000 - p) (suc p) (λ j l. h j (omega arith))
above_answer R p (Some q) most h =
    let m : q ≤ 100000 = most q h.0 in
    seek_some R (100000 - p) (suc p) q h.0 (omega arith) (omega arith) (λ j a b. h.2 j (omega arith) b)
