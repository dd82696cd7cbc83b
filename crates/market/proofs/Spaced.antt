-- What a ladder of two spacings answers, from the spacings alone.
use Rattle.std.proofs.Common.{◌≡◌, ℕ, suc, ◌+◌, ◌-◌, ◌*◌, ◌/◌, ◌%◌, ◌<◌, ◌≤◌, Bool, true, false, Some, ap, ◌∙◌, inl, inr, arith}
use Rattle.std.proofs.lemmas.Bool.Decides.{nat_tests}
use Rattle.std.proofs.lemmas.Bool.{cases_lt, cases_eq}
use Rattle.std.proofs.lemmas.Nat.{div-add-mod', mod-mul-add}
use Rattle.market.specs.Rungs.{Above, Beneath}
use Rattle.market.specs.Spacings.{IsSpaced}

multiple : (m s : ℕ) → 0 < s → (m * s) % s ≡ 0
multiple m s l = let e : m * s ≡ m * s + 0 = omega arith in ap (λ n. n % s) e ∙ mod-mul-add m s 0 l

-- no multiple stands between two that follow each other
between : (m s k : ℕ) → m * s < k → k < m * s + s → k % s ≡ 0 → ⊥
between m s k l u z =
    let e : k ≡ m * s + (k - m * s) = omega arith in
    let r : k % s ≡ k - m * s = ap (λ n. n % s) e ∙ mod-mul-add m s (k - m * s) (omega arith) in
    omega arith

-- a multiple that a price lies below is at or above the next multiple
next_within : (m s t p : ℕ) → t % s ≡ 0 → m * s ≤ p → p < t → m * s + s ≤ t
next_within m s t p z l u = elim (cases_lt t (m * s + s)) [ inl a ↦ absurd (between m s t (omega arith) a z) | inr b ↦ b ]

-- a multiple that a price is not below is at or below the last one
last_within : (m s t p : ℕ) → t % s ≡ 0 → t ≤ p → p < m * s + s → t ≤ m * s
last_within m s t p z l u = elim (cases_lt (m * s) t) [ inl a ↦ absurd (between m s t a (omega arith) z) | inr b ↦ b ]

module _ (R : ℕ → Bool) (near far : ℕ) (is : IsSpaced R near far) where
  near_rung : (p : ℕ) → 0 < p → p < 300 → p % near ≡ 0 → R p ≡ true
  near_rung p l u z = is.same p ∙ grind (arith, nat_tests)

  far_rung : (p : ℕ) → 300 ≤ p → p ≤ 100000 → p % far ≡ 0 → R p ≡ true
  far_rung p l u z = is.same p ∙ grind (arith, nat_tests)

  near_none : (p : ℕ) → p < 300 → (p % near ≡ 0 → ⊥) → R p ≡ false
  near_none p u z = is.same p ∙ grind (arith, nat_tests)

  far_none : (p : ℕ) → 300 ≤ p → (p % far ≡ 0 → ⊥) → R p ≡ false
  far_none p l z = is.same p ∙ grind (arith, nat_tests)

  at_300 : R 300 ≡ true
  at_300 = far_rung 300 (omega arith) (omega arith) is.far_meets

  near_itself : near % near ≡ 0
  near_itself = let e : near ≡ 1 * near = omega arith in ap (λ n. n % near) e ∙ multiple 1 near is.some_near

  pub above_near : (p q : ℕ) → p < 300 → q ≡ p - p % near + near → Above R p (Some q)
  above_near p q u at =
      let l = is.some_near in
      let m = p / near in
      let split : m * near + p % near ≡ p = div-add-mod' p near in
      let rest : p % near < near = omega arith in
      let here : q ≡ m * near + near = omega arith in
      let within : m * near + near ≤ 300 = next_within m near 300 p is.near_meets (omega arith) u in
      let next : m * near + near ≡ suc m * near = omega arith in (
        elim (cases_eq q 300) [
          | inl e ↦ ap R e ∙ at_300
          | inr ne ↦ near_rung q (omega arith) (omega arith) (ap (λ n. n % near) (here ∙ next) ∙ multiple (suc m) near l)
        ],
        omega arith,
        λ k a b. near_none k (omega arith) (between m near k (omega arith) (omega arith)),
      )

  pub above_far : (p q : ℕ) → 300 ≤ p → p < 100000 → q ≡ p - p % far + far → Above R p (Some q)
  above_far p q l u at =
      let s = is.some_far in
      let m = p / far in
      let split : m * far + p % far ≡ p = div-add-mod' p far in
      let rest : p % far < far = omega arith in
      let here : q ≡ m * far + far = omega arith in
      let within : m * far + far ≤ 100000 = next_within m far 100000 p is.far_tops (omega arith) u in
      let next : m * far + far ≡ suc m * far = omega arith in
      (far_rung q (omega arith) (omega arith) (ap (λ n. n % far) (here ∙ next) ∙ multiple (suc m) far s), omega arith, λ k a b. far_none k (omega arith) (between m far k (omega arith) (omega arith)))

  pub below_far : (p q : ℕ) → 300 < p → p ≤ 100000 → q ≡ p - 1 - (p - 1) % far → Beneath R p (Some q)
  below_far p q l u at =
      let s = is.some_far in
      let m = (p - 1) / far in
      let split : m * far + (p - 1) % far ≡ p - 1 = div-add-mod' (p - 1) far in
      let rest : (p - 1) % far < far = omega arith in
      let here : q ≡ m * far = omega arith in
      let within : 300 ≤ m * far = last_within m far 300 (p - 1) is.far_meets (omega arith) (omega arith) in
      (far_rung q (omega arith) (omega arith) (ap (λ n. n % far) here ∙ multiple m far s), omega arith, λ k a b. far_none k (omega arith) (between m far k (omega arith) (omega arith)))

  pub below_near : (p q : ℕ) → near < p → p ≤ 300 → q ≡ p - 1 - (p - 1) % near → Beneath R p (Some q)
  below_near p q l u at =
      let s = is.some_near in
      let m = (p - 1) / near in
      let split : m * near + (p - 1) % near ≡ p - 1 = div-add-mod' (p - 1) near in
      let rest : (p - 1) % near < near = omega arith in
      let here : q ≡ m * near = omega arith in
      let within : near ≤ m * near = last_within m near near (p - 1) near_itself (omega arith) (omega arith) in
      (near_rung q (omega arith) (omega arith) (ap (λ n. n % near) here ∙ multiple m near s), omega arith, λ k a b. near_none k (omega arith) (between m near k (omega arith) (omega arith)))
