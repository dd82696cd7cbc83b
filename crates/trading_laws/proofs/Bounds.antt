-- Bounds on either side, and which of two orders is preferred. Assumes nothing.
use Rattle.std.proofs.Common.{◌≡◌, ℕ, ◌<◌, true, false, ◌⊎◌, refl, inr, arith}
use Rattle.std.proofs.lemmas.Bool.Decides.{nat_tests}
use Rattle.std.proofs.lemmas.Bool.{and_parts}
use Rattle.std.specs.Cmp.{IsStrictWeakOrder}
use Rattle.values.specs.declared.terms.Side.{Side}
use Rattle.values.specs.declared.terms.Side.TheVariants.{Buy, Sell}
use Rattle.rules.specs.declared.Order.{Order}
use Rattle.rules.specs.declared.Bests.{Bests}
use Rattle.rules.specs.Sides.{flip, ok, Ok, Past}
use Rattle.rules.specs.Trading.{fits, prefer}
use Rattle.trading_laws.specs.Books.{Fits}

pub ok_true : (s : Side) (b p : ℕ) → ok s b p ≡ true → Ok s b p
ok_true Buy b p h = grind (arith, nat_tests)
ok_true Sell b p h = grind (arith, nat_tests)

pub true_ok : (s : Side) (b p : ℕ) → Ok s b p → ok s b p ≡ true
true_ok Buy b p h = grind (arith, nat_tests)
true_ok Sell b p h = grind (arith, nat_tests)

pub ok_false : (s : Side) (b p : ℕ) → ok s b p ≡ false → (0 < b) × Past s b p
ok_false Buy b p h = grind (arith, nat_tests)
ok_false Sell b p h = grind (arith, nat_tests)

pub ok_self : (s : Side) (b : ℕ) → Ok s b b
ok_self Buy b = inr (omega arith)
ok_self Sell b = omega arith

pub ok_trans : (s : Side) (b x p : ℕ) → 0 < x → Ok s b x → Ok s x p → Ok s b p
ok_trans Buy b x p pos h k = grind arith
ok_trans Sell b x p pos h k = grind arith

-- what is past x is not within it
pub ok_not_past : (s : Side) (x q : ℕ) → 0 < x → Ok s x q → Past s x q → ⊥
ok_not_past Buy x q pos h k = grind arith
ok_not_past Sell x q pos h k = grind arith

pub past_or_ok : (s : Side) (x q : ℕ) → Past s x q ⊎ Ok s x q
past_or_ok Buy x q = grind arith
past_or_ok Sell x q = grind arith

pub past_flip : (s : Side) (x q : ℕ) → Past s x q → Past (flip s) q x
past_flip Buy x q h = h
past_flip Sell x q h = h

pub fits_true : (e : Bests) (t : Order) (p : ℕ) → fits e t p ≡ true → Fits e t p
fits_true e t p h =
    let a = and_parts _ _ h in
    let b = and_parts _ _ a.0 in
    (ok_true _ _ _ b.0, ok_true _ _ _ b.1, ok_true _ _ _ a.1)

pub true_fits : (e : Bests) (t : Order) (p : ℕ) → Fits e t p → fits e t p ≡ true
true_fits e t p h = rw (true_ok t.terms.side t.terms.limit p h.0, true_ok t.terms.side t.terms.protection p h.1, true_ok _ _ _ h.2) refl

pub prefer_ranks : (s : Side) → IsStrictWeakOrder (prefer s)
prefer_ranks Buy = record { one_way = λ x y h. grind (arith, nat_tests); chain = λ x y z h k. grind (arith, nat_tests) }
prefer_ranks Sell = record { one_way = λ x y h. grind (arith, nat_tests); chain = λ x y z h k. grind (arith, nat_tests) }

-- what y is not preferred to is no more aggressive for the other side
pub not_preferred : (s : Side) (y x : Order) (c : ℕ) → prefer s y x ≡ false → Ok s c y.booked → Ok s c x.booked
not_preferred Buy y x c h k = grind (arith, nat_tests)
not_preferred Sell y x c h k = grind (arith, nat_tests)
