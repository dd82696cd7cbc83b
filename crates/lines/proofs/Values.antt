-- One digit more. Assumes nothing.
use Rattle.std.proofs.Common.{◌≡◌, ℕ, zero, suc, ◌+◌, ◌-◌, ◌*◌, ◌^◌, ◌<◌, ◌≤◌, List, [], ◌∷◌, ◌++◌, length, get_or, take, sym, ap, ◌∙◌, pow-suc, arith, length-take-le, get_or-take}
use native.Mathlib.Nat.{pow-le-pow_right}
use Rattle.std.proofs.lemmas.List.{take_more, take_all, reverse-append, nil_from_length}
use Rattle.lines.specs.Digits.{from_last, value_of, AllDigits}

value_push : (ds : List ℕ) (d : ℕ) → value_of (ds ++ d ∷ []) ≡ 10 * value_of ds + (d - 48)
value_push ds d = ap from_last (reverse-append ds (d ∷ []))

-- the digits before the last, and the last
pub value_last : (ds : List ℕ) → 0 < length ds → value_of ds ≡ 10 * value_of (take (length ds - 1) ds) + (get_or ds (length ds - 1) 0 - 48)
value_last ds some =
    let h : length ds - 1 < length ds = omega arith in
    let back : length ds - 1 + 1 ≡ length ds = omega arith in
    let whole : ds ≡ take (length ds - 1) ds ++ get_or ds (length ds - 1) 0 ∷ [] = sym (take_all (length ds) ds (omega arith)) ∙ ap (λ n. take n ds) (sym back) ∙ take_more ds (length ds - 1) 0 h in
    ap value_of whole ∙ value_push (take (length ds - 1) ds) (get_or ds (length ds - 1) 0)

pub front_digits : (ds : List ℕ) → 0 < length ds → AllDigits ds → AllDigits (take (length ds - 1) ds)
front_digits ds some all k h =
    let long = length-take-le (length ds - 1) ds (omega arith) in
    let low : k < length ds - 1 = omega arith in
    rw get_or-take (all k (omega arith))

pub value_none : (ds : List ℕ) → length ds ≡ 0 → value_of ds ≡ 0
value_none ds none = ap value_of (nil_from_length ds none)

-- n digits say less than 10 ^ n
value_small : (n : ℕ) (ds : List ℕ) → length ds ≡ n → AllDigits ds → value_of ds < 10 ^ n
value_small zero ds e all = omega (arith, value_none ds e)
value_small (suc n) ds e all =
    let long = length-take-le (length ds - 1) ds (omega arith) in
    let front = value_small n (take (length ds - 1) ds) (omega arith) (front_digits ds (omega arith) all) in
    omega (arith, value_last ds (omega arith), all (length ds - 1) (omega arith), pow-suc 10 n)

pub value_front : (ds : List ℕ) → 0 < length ds → length ds ≤ 8 → AllDigits ds → value_of (take (length ds - 1) ds) < 10 ^ 7
value_front ds some few all =
    let long = length-take-le (length ds - 1) ds (omega arith) in
    let front = value_small (length ds - 1) (take (length ds - 1) ds) long (front_digits ds some all) in
    omega (arith, pow-le-pow_right {n = 10} (omega arith) {i = length ds - 1} {j = 7} (omega arith))
