-- One place more of a search through the table. Assumes nothing.
use Rattle.std.proofs.Common.{◌≡◌, ℕ, zero, suc, ◌+◌, ◌<◌, ◌≤◌, Bool, true, false, cond, ◌≢◌, List, length, take, set, Some, None, Option, sym, refl, ap, ◌∙◌, ⊎_elim, add-one, arith, get_or-set_other}
use Rattle.std.proofs.lemmas.Bool.{cases_lt, and_left, and_right}
use Rattle.std.proofs.lemmas.List.{get_or-take, length-take-le}
use Rattle.std.proofs.lemmas.List.Quantifiers.{position-Some}
use Rattle.std.specs.List.{position, fold}
use Rattle.values.specs.declared.terms.Side.{Side}
use Rattle.values.specs.declared.terms.Side.TheVariants.{Buy, Sell}
use Rattle.rules.specs.declared.Order.{Order}
use Rattle.rules.specs.declared.Bests.{Bests}
use Rattle.rules.specs.Sides.{top, tops}
use Rattle.rules.specs.Book.{free, at, branch, pick, shown}
use Rattle.table.specs.Places.{ahead, FreeFrom}
use Rattle.table.specs.Reach.{beside, widened, reach}
use Rattle.table.proofs.Firsts.{position-None, folded}

module _ (c : Order → Bool) (lt : Order → Order → Bool) (b : List Order) where
  pub pick_none : pick c lt b 0 ≡ None
  unfolding pick
  pick_none = refl

  join : (k : ℕ) (r : Option ℕ) (x : Bool) → c (at b k) ≡ x → cond (c (at b k)) (branch r (Some k) (λ i. cond (lt (at b k) (at b i)) (Some k) (Some i))) r ≡ cond (ahead c lt b k r) (Some k) r
  join k None x e = refl
  join k (Some i) true e = rw e refl
  join k (Some i) false e = rw e refl

  pub pick_more : (k : ℕ) → pick c lt b (k + 1) ≡ cond (ahead c lt b k (pick c lt b k)) (Some k) (pick c lt b k)
  unfolding pick
  pick_more k = rw add-one (join k (pick c lt b k) (c (at b k)) refl)

-- a search need not go on where every place is free
module _ (c : Order → Bool) (lt : Order → Order → Bool) (b : List Order) (none : c free ≡ false) where
  passed : (k : ℕ) (r : Option ℕ) → c (at b k) ≡ false → cond (ahead c lt b k r) (Some k) r ≡ r
  passed k None e = rw e refl
  passed k (Some i) e = rw e refl

  pub pick_all : (n m : ℕ) → n ≤ m → FreeFrom n b → pick c lt b m ≡ pick c lt b n
  pick_all n zero h f = ap (pick c lt b) (omega arith)
  pick_all n (suc m) h f =
      ⊎_elim
      (λ (l : m < n). ap (pick c lt b) (omega arith))
      (λ (l : n ≤ m). rw (← add-one) (pick_more c lt b m ∙ passed m (pick c lt b m) (ap c (f m l) ∙ none) ∙ pick_all n m l f))
      (cases_lt m n)

-- the first place that a test takes stays the first
module _ (c : Order → Bool) (b : List Order) where
  abbrev pub first : ℕ → Option ℕ
  first k = pick c (λ x y. false) b k

  pub first_passed : (k : ℕ) → first k ≡ None → c (at b k) ≡ false → first (k + 1) ≡ None
  first_passed k e f = rw (pick_more c (λ x y. false) b k, e, f) refl

  stays : (k n : ℕ) (x : Bool) → c (at b n) ≡ x → first n ≡ Some k → first (n + 1) ≡ Some k
  stays k n true f e = rw (pick_more c (λ x y. false) b n, e, f) refl
  stays k n false f e = rw (pick_more c (λ x y. false) b n, e, f) refl

  pub first_found : (k n : ℕ) → first k ≡ None → c (at b k) ≡ true → k < n → first n ≡ Some k
  first_found k zero e f l = absurd (omega arith)
  first_found k (suc n) e f l =
      ⊎_elim
      (λ (m : k < n). rw add-one at (stays k n (c (at b n)) refl (first_found k n e f m)))
      (λ (m : n ≤ k).
      let same : n ≡ k = omega arith in
      rw (same, ← add-one) (rw (pick_more c (λ x y. false) b k, e, f) refl))
      (cases_lt k n)

  -- the library's search of the first n places
  pub first_before : (k : ℕ) → ((j : ℕ) → j < k → c (at b j) ≡ false) → first k ≡ None
  first_before zero f = pick_none c (λ x y. false) b
  first_before (suc k) f = rw (← add-one) (first_passed k (first_before k (λ j l. f j (omega arith))) (f k (omega arith)))

  pub first_position : (n : ℕ) → n ≤ length b → position c (take n b) ≡ first n
  first_position n h = go (position c (take n b)) refl
    where
      long : length (take n b) ≡ n
      long = length-take-le n b h

      go : (r : Option ℕ) → position c (take n b) ≡ r → r ≡ first n
      go None e = sym (first_before n (λ j l. ap c (sym (get_or-take n b j free l)) ∙ position-None c (take n b) j free e (omega (arith, long, l))))
      go (Some i) e =
          let f = position-Some c (take n b) i free e in
          let l : i < n = omega (arith, f.0, long) in
          sym (first_found i n (first_before i (λ j m. ap c (sym (get_or-take n b j free (omega (arith, m, l)))) ∙ f.2 j m)) (ap c (sym (get_or-take n b i free l)) ∙ f.1) l)

-- an order that none goes before stays the one that is held
module _ (c : Order → Bool) (lt : Order → Order → Bool) (b : List Order) (k : ℕ) (last : (y : Order) → c y ≡ true → lt y (at b k) ≡ false) where
  none_ahead : (n : ℕ) → ahead c lt b n (Some k) ≡ false
  none_ahead n = go (c (at b n)) refl
    where
      go : (x : Bool) → c (at b n) ≡ x → ahead c lt b n (Some k) ≡ false
      go false e = and_left _ _ e
      go true e = and_right _ _ (last (at b n) e)

  pub pick_last : (n : ℕ) → ahead c lt b k (pick c lt b k) ≡ true → k < n → pick c lt b n ≡ Some k
  pick_last zero h l = absurd (omega arith)
  pick_last (suc n) h l =
      ⊎_elim
      (λ (m : k < n). rw (← add-one) (rw (pick_more c lt b n, pick_last n h m, none_ahead n) refl))
      (λ (m : n ≤ k).
      let same : n ≡ k = omega arith in
      rw (same, ← add-one) (rw (pick_more c lt b k, h) refl))
      (cases_lt k n)

pub tops_none : (s : Side) (f : ℕ → ℕ) → tops s f 0 ≡ 0
unfolding tops
tops_none s f = refl

pub tops_more : (s : Side) (f : ℕ → ℕ) (k : ℕ) → tops s f (k + 1) ≡ top s (f k) (tops s f k)
unfolding tops
tops_more s f k = rw add-one refl

pub tops_all : (s : Side) (f : ℕ → ℕ) (n m : ℕ) → n ≤ m → ((k : ℕ) → n ≤ k → f k ≡ 0) → tops s f m ≡ tops s f n
tops_all s f n zero h e = ap (tops s f) (omega arith)
tops_all s f n (suc m) h e =
    ⊎_elim
    (λ (l : m < n). ap (tops s f) (omega arith))
    (λ (l : n ≤ m). rw (← add-one) (tops_more s f m ∙ ap (λ x. top s x (tops s f m)) (e m l) ∙ tops_all s f n m l e))
    (cases_lt m n)

-- the best displayed prices of the first k places
abbrev pub shown_in : List Order → ℕ → Bests
shown_in b k = record { bid = tops Buy (λ j. shown Buy (at b j)) k; offer = tops Sell (λ j. shown Sell (at b j)) k }

pub shown_none : (b : List Order) → shown_in b 0 ≡ record { bid = 0; offer = 0 }
unfolding tops
shown_none b = refl

pub shown_more : (b : List Order) (k : ℕ) → shown_in b (k + 1) ≡ beside (at b k) (shown_in b k)
shown_more b k = rw (tops_more Buy (λ j. shown Buy (at b j)) k, tops_more Sell (λ j. shown Sell (at b j)) k) refl

-- the best of the first n places, as a fold
pub shown_fold : (b : List Order) (n : ℕ) → n ≤ length b → fold (λ r o. beside o r) (record { bid = 0; offer = 0 }) (take n b) ≡ shown_in b n
shown_fold b n h = folded (λ r o. beside o r) (record { bid = 0; offer = 0 }) b free (shown_in b) (shown_none b) (shown_more b) n h

pub tops_fold : (s : Side) (b : List Order) (n : ℕ) → n ≤ length b → fold (λ x o. top s (shown s o) x) 0 (take n b) ≡ tops s (λ j. shown s (at b j)) n
tops_fold s b n h = folded (λ x o. top s (shown s o) x) 0 b free (tops s (λ j. shown s (at b j))) (tops_none s _) (tops_more s _) n h

pub shown_all : (b : List Order) (n m : ℕ) → n ≤ m → FreeFrom n b → shown_in b m ≡ shown_in b n
shown_all b n m h f = rw (tops_all Buy (λ j. shown Buy (at b j)) n m h (λ k l. ap (shown Buy) (f k l)), tops_all Sell (λ j. shown Sell (at b j)) n m h (λ k l. ap (shown Sell) (f k l))) refl

pub reach_none : (b : List Order) → reach b 0 ≡ record { bid = 0; offer = 4294967295 }
unfolding reach
reach_none b = refl

pub reach_more : (b : List Order) (k : ℕ) → reach b (k + 1) ≡ widened (at b k) (reach b k)
unfolding reach
reach_more b k = rw add-one refl

-- a place past the first k does not count
pub reach_set : (b : List Order) (i : ℕ) (o : Order) (k : ℕ) → k ≤ i → reach (set b i o) k ≡ reach b k
reach_set b i o zero h = reach_none (set b i o) ∙ sym (reach_none b)
reach_set b i o (suc k) h =
    let ne : k ≢ i = omega arith in
    rw (← add-one) (reach_more (set b i o) k ∙ ap (λ x. widened x (reach (set b i o) k)) (get_or-set_other b i k o free ne) ∙ ap (widened (at b k)) (reach_set b i o k (omega arith)) ∙ sym (reach_more b k))

-- one place changed, and counted
pub reach_next : (b c : List Order) (i : ℕ) (o : Order) (r : Bests) → i < length b → c ≡ set b i o → r ≡ reach b i → widened (at c i) r ≡ reach c (i + 1)
reach_next b c i o r h e f = ap (widened (at c i)) (f ∙ sym (reach_set b i o i (omega arith)) ∙ ap (λ x. reach x i) (sym e)) ∙ sym (reach_more c i)

pub reach_all : (b : List Order) (n m : ℕ) → n ≤ m → FreeFrom n b → reach b m ≡ reach b n
reach_all b n zero h f = ap (reach b) (omega arith)
reach_all b n (suc m) h f =
    ⊎_elim
    (λ (l : m < n). ap (reach b) (omega arith))
    (λ (l : n ≤ m). rw (← add-one) (reach_more b m ∙ ap (λ o. widened o (reach b m)) (f m l) ∙ reach_all b n m l f))
    (cases_lt m n)
