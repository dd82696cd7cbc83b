-- How many places of the table hold an order. Assumes nothing.
use Rattle.std.proofs.Common.{◌≡◌, ℕ, zero, suc, ◌+◌, ◌<◌, ◌≤◌, Bool, true, false, cond, not, List, length, take, set, Some, None, Option, refl, ap, sym, ◌∙◌, add-one, subst, arith, length-set}
use Rattle.std.proofs.lemmas.List.{take_all}
use Rattle.std.proofs.lemmas.List.Quantifiers.{position-Some}
use Rattle.std.specs.List.{position}
use Rattle.std.proofs.lemmas.List.Sums.{sum_by-set, count_by-le-length, count_by_more_yes}
use Rattle.rules.specs.declared.Order.{Order}
use Rattle.rules.specs.Book.{free, at, live, taken, with_rem}
use Rattle.table.specs.Places.{Clean, Vacant}
use Rattle.table.proofs.Firsts.{position-None}

one : Order → ℕ
one o = cond (live o) 1 0

-- a place that holds none leaves room in the table
pub taken_less : (b : List Order) (i : ℕ) → i < length b → live (at b i) ≡ false → taken b < length b
unfolding one
taken_less b i h d =
    let o = with_rem free 1 in
    let z : one (at b i) ≡ 0 = rw d refl in
    omega (arith, sum_by-set one b i o free h, count_by-le-length live (set b i o), length-set b i o, z)

-- all places are taken where each holds an order
count_all : (b : List Order) → ((k : ℕ) → k < length b → live (at b k) ≡ true) → (n : ℕ) → n ≤ length b → taken (take n b) ≡ n
count_all b f zero h = refl
count_all b f (suc n) h = subst (λ m. taken (take m b) ≡ m) (add-one n) (count_by_more_yes live b n free (omega arith) (f n (omega arith)) ∙ ap (λ m. m + 1) (count_all b f n (omega arith)))

vacant_none : (b : List Order) → position (λ o. not (live o)) b ≡ None → taken b ≡ length b
vacant_none b e = ap taken (sym (take_all (length b) b (omega arith))) ∙ count_all b (λ k l. flips (live (at b k)) (position-None (λ o. not (live o)) b k free e l)) (length b) (omega arith)
  where
    flips : (x : Bool) → not x ≡ false → x ≡ true
    flips true h = refl
    flips false h = cc

-- the first place that holds none
pub vacant_position : (b : List Order) (r : Option ℕ) → r ≡ position (λ o. not (live o)) b → length b ≡ 64 → Clean b → Vacant b r
vacant_position b None e full clean = vacant_none b (sym e) ∙ full
vacant_position b (Some i) e full clean =
    let f = position-Some (λ o. not (live o)) b i free (sym e) in
    let none = flips (live (at b i)) f.1 in
    (omega (arith, f.0, full), clean i none, subst (λ n. taken b < n) full (taken_less b i f.0 none))
  where
    flips : (x : Bool) → not x ≡ true → x ≡ false
    flips true h = cc
    flips false h = refl
