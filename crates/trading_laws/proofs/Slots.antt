-- The places of the book, and which one is chosen. Assumes nothing.
--     at_same, at_other, at_set       what a place holds after one is set
--     picked                          what `pick` picks
--     hits                            what trading goes on with, and what it stops at
use Rattle.std.proofs.Common.{◌≡◌, ℕ, zero, suc, ◌<◌, ◌≤◌, Bool, true, false, cond, not, ltb, ◌≢◌, ◌⊎◌, List, length, set, Some, None, Option, sym, refl, ap, ◌∙◌, subst, inl, inr, arith, get_or-set_other, get_or-set_same}
use Rattle.std.proofs.lemmas.List.{get_or_past, set_past}
use Rattle.std.proofs.lemmas.Bool.{ltb-true, ltb-false, and_parts, cases_lt, cases_eq, cond_both, both_ways, lt-ltb}
use Rattle.std.specs.Cmp.{IsStrictWeakOrder}
use Rattle.values.specs.declared.terms.Side.{Side}
use Rattle.values.specs.declared.terms.Side.TheVariants.{Buy, Sell}
use Rattle.rules.specs.declared.Order.{Order}
use Rattle.rules.specs.declared.Bests.{Bests}
use Rattle.rules.specs.Sides.{flip, same_side, Ok}
use Rattle.rules.specs.Book.{free, at, Live, branch, pick, side_of}
use Rattle.rules.specs.Trading.{hit, fits, contra, prefer}
use Rattle.trading_laws.specs.Books.{Fits}
use Rattle.trading_laws.proofs.Bounds.{fits_true, true_fits, prefer_ranks, not_preferred}

pub branch_both : {A X : Type 0} (o : Option A) (x : X) (f : A → X) (P : X → Type 0) → (o ≡ None → P x) → ((a : A) → o ≡ Some a → P (f a)) → P (branch o x f)
branch_both None x f P h k = h refl
branch_both (Some a) x f P h k = k a refl

pub at_same : (b : List Order) (i : ℕ) (v : Order) → i < length b → at (set b i v) i ≡ v
at_same b i v h = get_or-set_same b i v free h

pub at_other : (b : List Order) (i : ℕ) (v : Order) (j : ℕ) → j ≢ i → at (set b i v) j ≡ at b j
at_other b i v j h = get_or-set_other b i j v free h

-- a place after one is set
pub at_cases : (b : List Order) (i : ℕ) (v : Order) (j : ℕ) → ((j ≡ i) × (at (set b i v) j ≡ v)) ⊎ (at (set b i v) j ≡ at b j)
at_cases b i v j = go (cases_eq j i) (cases_lt i (length b))
  where
    go : (j ≡ i) ⊎ (j ≡ i → ⊥) → (i < length b) ⊎ (length b ≤ i) → ((j ≡ i) × (at (set b i v) j ≡ v)) ⊎ (at (set b i v) j ≡ at b j)
    go (inl e) (inl h) = inl (e, ap (at (set b i v)) e ∙ at_same b i v h)
    go (inl e) (inr h) = inr (ap (λ l. at l j) (set_past b i v h))
    go (inr e) h = inr (at_other b i v j e)

pub at_set : (P : Order → Type 0) (b : List Order) (i : ℕ) (v : Order) (j : ℕ) → P v → P (at b j) → P (at (set b i v) j)
at_set P b i v j new old = go (at_cases b i v j)
  where
    go : ((j ≡ i) × (at (set b i v) j ≡ v)) ⊎ (at (set b i v) j ≡ at b j) → P (at (set b i v) j)
    go (inl e) = subst P (sym e.1) new
    go (inr e) = subst P (sym e) old

pub live_within : (b : List Order) (i : ℕ) → Live (at b i) → i < length b
live_within b i h = go (cases_lt i (length b))
  where
    go : (i < length b) ⊎ (length b ≤ i) → i < length b
    go (inl k) = k
    go (inr k) = let z : 0 < 0 = subst Live (get_or_past b i free k) h in omega arith

-- ---- choosing
abbrev pub Picked : (Order → Bool) → (Order → Order → Bool) → List Order → ℕ → Option ℕ → Type 0
Picked c lt b k None = (j : ℕ) → j < k → c (at b j) ≡ false
Picked c lt b k (Some i) = (c (at b i) ≡ true) × ((j : ℕ) → j < k → c (at b j) ≡ true → lt (at b j) (at b i) ≡ false)

module _ (c : Order → Bool) (lt : Order → Order → Bool) (o : IsStrictWeakOrder lt) (b : List Order) where
  same : (x : Order) → lt x x ≡ false
  same x = go (lt x x) refl
    where
      go : (t : Bool) → lt x x ≡ t → lt x x ≡ false
      go true e = o.one_way x x e
      go false e = e

  step_last : (k j : ℕ) → j < suc k → (j < k) ⊎ (j ≡ k)
  step_last k j h = grind arith

  abbrev chosen : ℕ → Option ℕ → Option ℕ
  chosen k r = cond (c (at b k)) (branch r (Some k) (λ i. cond (lt (at b k) (at b i)) (Some k) (Some i))) r

  -- one place more
  one_more : (k : ℕ) (r : Option ℕ) → Picked c lt b k r → Picked c lt b (suc k) (chosen k r)
  one_more k None h =
      cond_both (c (at b k)) (Some k) None (Picked c lt b (suc k))
      (λ e. (e, λ j l t. elim (step_last k j l) [ inl m ↦ absurd (both_ways _ (h j m) t) | inr m ↦ rw m (same (at b k)) ]))
      (λ e j l. elim (step_last k j l) [ inl m ↦ h j m | inr m ↦ rw m e ])
  one_more k (Some i) h =
      cond_both (c (at b k)) (cond (lt (at b k) (at b i)) (Some k) (Some i)) (Some i) (Picked c lt b (suc k))
      (λ e. cond_both (lt (at b k) (at b i)) (Some k) (Some i) (Picked c lt b (suc k))
      (λ f. (e, λ j l t. elim (step_last k j l) [ inl m ↦ o.chain _ _ _ (h.1 j m t) (o.one_way _ _ f) | inr m ↦ rw m (same (at b k)) ]))
      (λ f. (h.0, λ j l t. elim (step_last k j l) [ inl m ↦ h.1 j m t | inr m ↦ rw m f ])))
      (λ e. (h.0, λ j l t. elim (step_last k j l) [ inl m ↦ h.1 j m t | inr m ↦ absurd (both_ways _ (rw m e) t) ]))

  pub picked : (k : ℕ) → Picked c lt b k (pick c lt b k)
  unfolding pick
  picked zero = λ j h. absurd (omega arith)
  picked (suc k) = one_more k (pick c lt b k) (picked k)

-- a contra order rests, and on the other side
pub contra_parts : (s : Side) (x : Order) → contra s x ≡ true → Live x × (side_of x ≡ flip s)
contra_parts s x h =
    let p = and_parts _ _ h in
    (ltb-true 0 x.remaining p.0, other s (side_of x) p.1)
  where
    other : (s t : Side) → not (same_side s t) ≡ true → t ≡ flip s
    other Buy Buy e = absurd (both_ways false refl e)
    other Buy Sell e = refl
    other Sell Buy e = refl
    other Sell Sell e = absurd (both_ways false refl e)

pub contra_from : (s : Side) (x : Order) → Live x → side_of x ≡ flip s → contra s x ≡ true
contra_from s x l e = rw (e, lt-ltb 0 x.remaining l) (other s)
  where
    other : (s : Side) → not (same_side s (flip s)) ≡ true
    other Buy = refl
    other Sell = refl

-- ---- what trading stops at, and what it goes on with
module _ (e : Bests) (t : Order) (b : List Order) where
  abbrev pub chosen_contra : Option ℕ
  chosen_contra = pick (contra (side_of t)) (prefer (side_of t)) b (length b)

  abbrev pub Hit : Option ℕ → Type 0
  Hit None = Live t → (j : ℕ) → Live (at b j) → side_of (at b j) ≡ flip (side_of t) → Fits e t (at b j).booked → ⊥
  Hit (Some i) = Live t × Live (at b i) × (side_of (at b i) ≡ flip (side_of t)) × Fits e t (at b i).booked

  from_pick : (o : Option ℕ) → Picked (contra (side_of t)) (prefer (side_of t)) b (length b) o → Live t → Hit (branch o None (λ i. cond (fits e t (at b i).booked) (Some i) None))
  from_pick None h l = λ _ j m s f. both_ways _ (h j (live_within b j m)) (contra_from _ (at b j) m s)
  from_pick (Some i) h l =
      cond_both (fits e t (at b i).booked) (Some i) None Hit
      (λ f. let p = contra_parts _ (at b i) h.0 in (l, p.0, p.1, fits_true e t _ f))
      (λ f _ j m s g.
      let n = h.1 j (live_within b j m) (contra_from _ (at b j) m s) in
      let k : (c : ℕ) → Ok (side_of t) c (at b j).booked → Ok (side_of t) c (at b i).booked = λ c u. not_preferred (side_of t) (at b j) (at b i) c n u in
      both_ways _ f (true_fits e t _ (k _ g.0, k _ g.1, k _ g.2)))

  pub hits : Hit (hit e t b)
  unfolding hit
  hits =
      cond_both (ltb 0 t.remaining) (branch chosen_contra None (λ i. cond (fits e t (at b i).booked) (Some i) None)) None Hit
      (λ l. from_pick chosen_contra (picked _ _ (prefer_ranks (side_of t)) b (length b)) (ltb-true 0 t.remaining l))
      (λ l m. absurd (omega (arith, ltb-false 0 t.remaining l)))
