-- A loop that goes over the whole table, one order a turn. Assumes nothing.
use Rattle.std.proofs.Common.{◌≡◌, ℕ, zero, suc, ◌+◌, ◌<◌, Bool, cond, eqb, leb, List, [], ◌∷◌, ◌++◌, map, length, take, drop, set, sym, refl, ap, ◌∙◌, arith}
use Rattle.std.proofs.lemmas.List.{get_or_default}
use Rattle.std.proofs.lemmas.Bool.{cond-true, or_right, le-leb}
use Rattle.values.specs.declared.terms.Side.TheVariants.{Buy}
use Rattle.std.proofs.lemmas.List.Edits.{map_over_more}
use Rattle.rules.specs.declared.Order.{Order}
use Rattle.rules.specs.Sides.{ok, facing}
use Rattle.rules.specs.Book.{at, free, side_of, priced}
use Rattle.rules.specs.Quoting.{clamp}
use Rattle.table.specs.declared.sides.Away.{Away}
use Rattle.table.specs.Away.{On, clamped}
use Rattle.table.specs.Places.{FreeFrom}

abbrev pub Over : (Order → Order) → List Order → ℕ → List Order
Over f xs i = map f (take i xs) ++ drop i xs

pub over_more : (f : Order → Order) (xs ys : List Order) (i : ℕ) → i < length xs → i < length ys → ys ≡ Over f xs i → set ys i (f (at ys i)) ≡ Over f xs (i + 1)
over_more f xs ys i h k e = map_over_more f xs ys i (at ys i) h e (get_or_default ys i free (at ys i) k)

-- free places stay as they are
pub over_all : (f : Order → Order) → f free ≡ free → (xs : List Order) (n : ℕ) → FreeFrom n xs → Over f xs n ≡ map f xs
over_all f e [] zero h = refl
over_all f e [] (suc n) h = refl
over_all f e (x ∷ xs) zero h =
    let is : x ≡ free = h 0 (omega arith) in
    ap (λ y. y ∷ xs) (is ∙ sym (ap f is ∙ e)) ∙ ap (λ ys. f x ∷ ys) (over_all f e xs 0 (λ k l. h (suc k) (omega arith)))
over_all f e (x ∷ xs) (suc n) h = ap (λ ys. f x ∷ ys) (over_all f e xs n (λ k l. h (suc k) (omega arith)))

-- on a ladder, the numbers are its rungs
clamp_on : (R : ℕ → Bool) (a : Away) (o : Order) → On R a → clamped a o ≡ clamp a.best R o
clamp_on R a o on = ap (λ d. cond (ok (side_of o) (facing a.best (side_of o)) o.booked) o (priced o (facing a.best (side_of o)) d)) (on (side_of o))

pub clamps_on : (R : ℕ → Bool) (a : Away) (b : List Order) → On R a → map (clamped a) b ≡ map (clamp a.best R) b
clamps_on R a [] on = refl
clamps_on R a (o ∷ b) on = ap (λ x. x ∷ map (clamped a) b) (clamp_on R a o on) ∙ ap (λ b'. clamp a.best R o ∷ b') (clamps_on R a b on)

pub clamped_free : (a : Away) → clamped a free ≡ free
clamped_free a = cond-true (ok Buy a.best.offer 0) free _ (or_right (eqb a.best.offer 0) (leb 0 a.best.offer) (le-leb 0 a.best.offer (omega arith)))
