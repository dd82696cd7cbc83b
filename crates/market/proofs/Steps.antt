-- What `above` and `below` answer is one step of the recursive definitions. Assumes the law of a ladder where it says so.
use Rattle.std.proofs.Common.{◌≡◌, ℕ, zero, suc, ◌+◌, ◌-◌, ◌<◌, ◌≤◌, Bool, true, false, Some, None, Option, unwrap_or, List, [], ◌∷◌, ◌++◌, length, length-append, sym, refl, ap, ◌∙◌, inl, inr, arith}
use Rattle.std.proofs.lemmas.Bool.{cond-true, cond-false, cases_eq, cases_lt, both_ways}
use Rattle.std.proofs.iter.Yields.{nat_range_steps}
use Rattle.std.proofs.lemmas.Fn.{fold_over}
use Rattle.std.proofs.lemmas.Iterator.{YieldsList-from_range}
use Rattle.std.proofs.lemmas.List.FromFn.{length-range_with_len}
use Rattle.std.specs.Fn.{Called}
use Rattle.std.specs.Iterator.{Drains}
use Rattle.std.specs.List.{FoldsTo, range_with_len}
use Rattle.std.specs.declared.ops.Range.{Range}
use denote.Param.Members.{Mut}
use Rattle.market.specs.Rungs.{Lowest, Above, Beneath, first_from, step_up, bottom, last_below}

pub first_found : (R : ℕ → Bool) (f k q : ℕ) → R q ≡ true → k ≤ q → q < k + f → ((j : ℕ) → k ≤ j → j < q → R j ≡ false) → first_from R f k ≡ q
unfolding first_from
first_found R zero k q hit low high gap = absurd (omega arith)
first_found R (suc f) k q hit low high gap =
    elim (cases_eq k q) [
      | inl e ↦ cond-true (R k) k (first_from R f (suc k)) (ap R e ∙ hit) ∙ e
      | inr ne ↦
          let lt : k < q = omega arith in
          cond-false (R k) k (first_from R f (suc k)) (gap k (omega arith) lt) ∙ first_found R f (suc k) q hit (omega arith) (omega arith) (λ j a b. gap j (omega arith) b)
    ]

pub step_above : (R : ℕ → Bool) (p : ℕ) (o : Option ℕ) → R 100000 ≡ true → ((k : ℕ) → R k ≡ true → k ≤ 100000) → Above R p o → step_up R p ≡ unwrap_or o 100000
unfolding step_up first_from
step_above R p None top most none =
    elim (cases_lt p 100000) [
      | inl lt ↦ absurd (both_ways _ (none 100000 lt) top)
      | inr le ↦ let z : 100000 - p ≡ 0 = omega arith in ap (λ f. first_from R f (suc p)) z
    ]
step_above R p (Some q) top most some =
    let m : q ≤ 100000 = most q some.0 in
    first_found R (100000 - p) (suc p) q some.0 (omega arith) (omega arith) (λ j a b. some.2 j (omega arith) b)

pub bottom_lowest : (R : ℕ → Bool) (r : ℕ) → R 0 ≡ false → ((k : ℕ) → R k ≡ true → k ≤ 100000) → Lowest R r → bottom R ≡ r
unfolding bottom
bottom_lowest R r none most low =
    let m : r ≤ 100000 = most r low.0 in
    elim (cases_eq r 0) [
      | inl e ↦ absurd (both_ways _ none (sym (ap R e) ∙ low.0))
      | inr ne ↦ first_found R 100000 1 r low.0 (omega arith) (omega arith) (λ j a b. low.1 j b)
    ]

last_none : (R : ℕ → Bool) (p : ℕ) → ((k : ℕ) → k < p → R k ≡ false) → last_below R p ≡ bottom R
unfolding last_below
last_none R zero none = refl
last_none R (suc k) none = cond-false (R k) k (last_below R k) (none k (omega arith)) ∙ last_none R k (λ j l. none j (omega arith))

last_found : (R : ℕ → Bool) (p q : ℕ) → R q ≡ true → q < p → ((k : ℕ) → q < k → k < p → R k ≡ false) → last_below R p ≡ q
unfolding last_below
last_found R zero q hit low gap = absurd (omega arith)
last_found R (suc k) q hit low gap =
    elim (cases_eq k q) [
      | inl e ↦ cond-true (R k) k (last_below R k) (ap R e ∙ hit) ∙ e
      | inr ne ↦ cond-false (R k) k (last_below R k) (gap k (omega arith) (omega arith)) ∙ last_found R k q hit (omega arith) (λ j a b. gap j a (omega arith))
    ]

pub step_below : (R : ℕ → Bool) (p low : ℕ) (o : Option ℕ) → bottom R ≡ low → Beneath R p o → last_below R p ≡ unwrap_or o low
step_below R p low None at none = last_none R p none ∙ at
step_below R p low (Some q) at some = last_found R p q some.0 some.1 some.2

-- a fold over 0 to n whose closure takes one step and keeps what it holds takes n steps
pub walked : {F : Type 0} (g : Mut F (ℕ × (ℕ × Unit {0})) ℕ) (f : F) (step at : ℕ → ℕ) → ((k : ℕ) → at (suc k) ≡ step (at k)) → ((a x b : ℕ) (q : F) → Called g f (a, (x, tt)) b q → (b ≡ step a) × (q ≡ f)) → (s : Range ℕ) (n r : ℕ) → s ≡ record { start = 0; end = n } → (xs : List ℕ) × (q : F) × Drains nat_range_steps s xs × FoldsTo {P = F × ℕ} (λ p x q. Called g p.0 (p.1, (x, tt)) q.1 q.0) (f, at 0) xs (q, r) → r ≡ at n
walked g f step at next call s n r is ran =
    let more : (ys : List ℕ) (a x b : ℕ) (q : _) → a ≡ at (length ys) → Called g f (a, (x, tt)) b q → (b ≡ at (length (ys ++ (x ∷ [])))) × (q ≡ f) = λ ys a x b q was k.
    let longer : length (ys ++ (x ∷ [])) ≡ suc (length ys) = omega (arith, length-append ys (x ∷ [])) in
    let now = call a x b q k in
    (now.0 ∙ ap step was ∙ sym (next (length ys)) ∙ ap at (sym longer), now.1) in
    fold_over nat_range_steps (λ (x : ℕ). x) g (λ (ys : List ℕ) (a : ℕ). a ≡ at (length ys)) f more s (range_with_len 0 n) (at 0) r (YieldsList-from_range 0 n n is (omega arith)).runs refl ran
    ∙ ap at (length-range_with_len 0 n)
