-- The best of a row of prices. Assumes nothing.
--     tops_is         what `tops` is
--     tops_same       two rows with the same prices have the same best
use Rattle.std.proofs.Common.{◌≡◌, ℕ, zero, suc, ◌<◌, true, false, cond, eqb, ◌⊎◌, sym, refl, ◌∙◌, subst, inl, inr, arith}
use Rattle.std.proofs.lemmas.Bool.Decides.{nat_tests}
use Rattle.std.proofs.lemmas.Bool.{cond_both, cases_lt, eqb-true, eqb-false}
use Rattle.values.specs.declared.terms.Side.{Side}
use Rattle.values.specs.declared.terms.Side.TheVariants.{Buy, Sell}
use Rattle.rules.specs.Sides.{Past, past, top, tops}

past_true : (s : Side) (x y : ℕ) → past s x y ≡ true → Past s x y
past_true Buy x y h = grind (arith, nat_tests)
past_true Sell x y h = grind (arith, nat_tests)

past_false : (s : Side) (x y : ℕ) → past s x y ≡ false → Past s x y → ⊥
past_false Buy x y h k = grind (arith, nat_tests)
past_false Sell x y h k = grind (arith, nat_tests)

past_not : (s : Side) (x : ℕ) → Past s x x → ⊥
past_not Buy x h = omega arith
past_not Sell x h = omega arith

past_chain : (s : Side) (x y z : ℕ) → (Past s x y → ⊥) → (Past s y z → ⊥) → Past s x z → ⊥
past_chain Buy x y z h k m = grind arith
past_chain Sell x y z h k m = grind arith

past_under : (s : Side) (x y : ℕ) → Past s x y → Past s y x → ⊥
past_under Buy x y h k = omega arith
past_under Sell x y h k = omega arith

past_same : (s : Side) (x y : ℕ) → (Past s x y → ⊥) → (Past s y x → ⊥) → x ≡ y
past_same Buy x y h k = grind arith
past_same Sell x y h k = grind arith

-- p is the best of f below k
pub record Top (s : Side) (f : ℕ → ℕ) (k p : ℕ) : Type 0 where
  pub there : 0 < p → (j : ℕ) × (j < k) × (f j ≡ p)
  pub best : (j : ℕ) → j < k → 0 < f j → (0 < p) × (Past s p (f j) → ⊥)

step_last : (k j : ℕ) → j < suc k → (j < k) ⊎ (j ≡ k)
step_last k j h = grind arith

top_more : (s : Side) (f : ℕ → ℕ) (k p : ℕ) → Top s f k p → Top s f (suc k) (top s (f k) p)
top_more s f k p h =
    cond_both (eqb (f k) 0) p (cond (eqb p 0) (f k) (cond (past s (f k) p) p (f k))) (Top s f (suc k))
    (λ z. old (λ m. absurd (omega (arith, m, eqb-true (f k) 0 z))))
    (λ z.
    cond_both (eqb p 0) (f k) (cond (past s (f k) p) p (f k)) (Top s f (suc k))
    (λ y. new (pos (f k) (eqb-false (f k) 0 z)) (λ m. absurd (omega (arith, m, eqb-true p 0 y))))
    (λ y. cond_both (past s (f k) p) p (f k) (Top s f (suc k))
    (λ w. old (λ m. (pos p (eqb-false p 0 y), past_under s (f k) p (past_true s (f k) p w))))
    (λ w. new (pos (f k) (eqb-false (f k) 0 z)) (λ _. past_false s (f k) p w))))
  where
    pos : (n : ℕ) → (n ≡ 0 → ⊥) → 0 < n
    pos n g = omega arith

    old : (0 < f k → (0 < p) × (Past s p (f k) → ⊥)) → Top s f (suc k) p
    old g = record {
      there = λ m. let t = h.there m in (t.0, omega (arith, t.1), t.2);
      best = λ j m. elim (step_last k j m) [ inl y ↦ h.best j y | inr y ↦ subst (λ i. 0 < f i → (0 < p) × (Past s p (f i) → ⊥)) (sym y) g ];
    }

    new : 0 < f k → (0 < p → Past s (f k) p → ⊥) → Top s f (suc k) (f k)
    new some g = record {
      there = λ m. (k, omega arith, refl);
      best = λ j m. elim (step_last k j m) [
        | inl y ↦ λ q. let b = h.best j y q in (some, past_chain s (f k) p (f j) (g b.0) b.1)
        | inr y ↦ subst (λ i. 0 < f i → (0 < f k) × (Past s (f k) (f i) → ⊥)) (sym y) (λ q. (q, past_not s (f k)))
      ];
    }

pub tops_is : (s : Side) (f : ℕ → ℕ) (k : ℕ) → Top s f k (tops s f k)
unfolding tops
tops_is s f zero = record { there = λ m. absurd (omega arith); best = λ j m. absurd (omega arith) }
tops_is s f (suc k) = top_more s f k (tops s f k) (tops_is s f k)

abbrev Among : (ℕ → ℕ) → ℕ → (ℕ → ℕ) → ℕ → Type 0
Among f k g m = (j : ℕ) → j < k → 0 < f j → (i : ℕ) × (i < m) × (g i ≡ f j)

half : (s : Side) (f g : ℕ → ℕ) (k m p q : ℕ) → Top s f k p → Top s g m q → Among f k g m → 0 < p → (0 < q) × (Past s q p → ⊥)
half s f g k m p q tf tg to pos =
    let j = tf.there pos in
    let i = to j.0 j.1 (omega (arith, pos, j.2)) in
    let e : g i.0 ≡ p = i.2 ∙ j.2 in
    let b = tg.best i.0 i.1 (omega (arith, pos, e)) in
    (b.0, subst (λ x. Past s q x → ⊥) e b.1)

-- two rows with the same prices have the same best
pub tops_same : (s : Side) (f g : ℕ → ℕ) (k m : ℕ) → ((j : ℕ) → j < k → 0 < f j → (i : ℕ) × (i < m) × (g i ≡ f j)) → ((i : ℕ) → i < m → 0 < g i → (j : ℕ) × (j < k) × (f j ≡ g i)) → tops s f k ≡ tops s g m
tops_same s f g k m to from = go (tops s f k) (tops s g m) (tops_is s f k) (tops_is s g m)
  where
    go : (p q : ℕ) → Top s f k p → Top s g m q → p ≡ q
    go p q tf tg = elim (cases_lt 0 p) [
      | inl pos ↦
          let a = half s f g k m p q tf tg to pos in
          let b = half s g f m k q p tg tf from a.0 in
          past_same s p q b.1 a.1
      | inr none ↦ elim (cases_lt 0 q) [ inl pos ↦ let b = half s g f m k q p tg tf from pos in absurd (omega (arith, none, b.0)) | inr nil ↦ omega (arith, none, nil) ]
    ]
