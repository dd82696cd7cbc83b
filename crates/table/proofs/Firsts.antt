-- What the library's chains give over the first places of a list. Assumes nothing.
use Rattle.std.proofs.Common.{◌≡◌, ℕ, zero, suc, ◌+◌, ◌<◌, ◌≤◌, Bool, true, false, cond, not, ltb, List, length, get_or, take, replicate, Some, None, ⊎_elim, refl, ap, ◌∙◌, add-one, arith}
use Rattle.std.proofs.lemmas.Bool.{ltb-false, cases_lt}
use Rattle.std.proofs.lemmas.List.{get_or-replicate, get_or_past, length-replicate}
use Rattle.std.proofs.lemmas.List.Sums.{prefix_len_passes, fold_more}
use Rattle.std.specs.List.{position, position_or_len, fold}

module _ {X : Type 0} (p : X → Bool) (xs : List X) where
  short : (x : Bool) → ltb (position_or_len p xs) (length xs) ≡ x → cond x (Some (position_or_len p xs)) None ≡ None → length xs ≤ position_or_len p xs
  short true e h = cc
  short false e h = ltb-false (position_or_len p xs) (length xs) e

  fails : (x : Bool) → not x ≡ true → x ≡ false
  fails true h = cc
  fails false h = refl

  pub position-None : (k : ℕ) (d : X) → position p xs ≡ None → k < length xs → p (get_or xs k d) ≡ false
  position-None k d e l =
      let all = short (ltb (position_or_len p xs) (length xs)) refl e in
      fails (p (get_or xs k d)) (prefix_len_passes (λ x. not (p x)) xs k d (omega (arith, all)))

-- a fold over the first n is what its steps make, one after another
pub folded : {A X : Type 0} (f : A → X → A) (a : A) (xs : List X) (d : X) (g : ℕ → A) → g 0 ≡ a → ((k : ℕ) → g (k + 1) ≡ f (g k) (get_or xs k d)) → (n : ℕ) → n ≤ length xs → fold f a (take n xs) ≡ g n
folded f a xs d g z s zero h = cc
folded f a xs d g z s (suc n) h =
    let e = fold_more f a xs n d (omega arith) in
    let i = folded f a xs d g z s n (omega arith) in
    rw (← add-one) (e ∙ ap (λ b. f b (get_or xs n d)) i ∙ (let t = s n in cc))

-- a list of one value holds it at every place, and past its end
pub replicated : {X : Type 0} (x y : X) (n k : ℕ) → x ≡ y → get_or (replicate n x) k y ≡ y
replicated x y n k e =
    ⊎_elim
    (λ (l : k < n). get_or-replicate n k x y l ∙ e)
    (λ (l : n ≤ k). get_or_past (replicate n x) k y (rw length-replicate l))
    (cases_lt k n)
