-- What the tests of a field's bytes say of each byte. Assumes nothing.
use Rattle.std.proofs.Common.{◌≡◌, ℕ, zero, suc, true, not, ◌&&◌, ◌||◌, eqb, leb, List, [], ◌∷◌, length, get_or, arith}
use Rattle.std.proofs.lemmas.Bool.{leb-true, and_parts}
use Rattle.lines.specs.Digits.{AllDigits, all_digits, is_number}

pub digits_each : (bs : List ℕ) → all_digits bs ≡ true → AllDigits bs
digits_each [] all k h = absurd (omega arith)
digits_each (b ∷ bs) all zero h =
    let here = and_parts _ _ (and_parts _ _ all).0 in
    (leb-true _ _ here.0, leb-true _ _ here.1)
digits_each (b ∷ bs) all (suc k) h = digits_each bs (and_parts _ _ all).1 k (omega arith)

pub number_digits : (bs : List ℕ) → is_number bs ≡ true → AllDigits bs
number_digits bs is =
    digits_each bs (and_parts (leb 1 (length bs) && leb (length bs) 8 && (eqb (length bs) 1 || not (eqb (get_or bs 0 0) 48))) (all_digits bs) is).1
