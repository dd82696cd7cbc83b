-- A number and its digits, both ways; a capital and its letter. Assumes nothing.
use Rattle.std.proofs.Common.{◌≡◌, ℕ, zero, suc, ◌+◌, ◌-◌, ◌*◌, ◌^◌, ◌<◌, ◌≤◌, true, false, cond, not, ◌&&◌, ◌||◌, eqb, leb, List, [], ◌∷◌, ◌++◌, reverse, length, get_or, decimal, sym, refl, ap, ◌∙◌, inl, inr, mul_assoc, pow-suc, arith, rules}
use lib.Utf8.{encode}
use Rattle.std.specs.Int.{IsInRange}
use Rattle.std.proofs.lemmas.List.{reverse-append, length-reverse}
use Rattle.std.proofs.lemmas.Str.Ascii.{encode_ascii}
use Rattle.std.proofs.lemmas.Str.Parse.{IsNumeralModel, numerals_by_weight, digits_value_short}
use Rattle.std.proofs.lemmas.Fmt.{digits_decimal, digits_value-decimal, decimal-digits_value, decimal_digit, decimal_nonempty, first_decimal, length-decimal-le}
use Rattle.std.proofs.lemmas.Bool.{cases_eq, eq-eqb, ne_eqb, eqb-true, le-leb, lt-leb, leb-true, and_parts, and_from, and_left, and_right, or_left, or_right, or_cases, not-true, not_from_false, eqb-false, cond-true, cond-false}
use Rattle.values.specs.declared.terms.Letter.{Letter}
use Rattle.values.specs.declared.terms.Letter.TheVariants as letters
use Rattle.values.specs.Texts.{capital, letter_text}
use Rattle.lines.specs.Digits.{from_last, value_of, all_digits, is_number}
use Rattle.lines.specs.Words.{number, letter, unreadable, is_letter, word_of}
use Rattle.values.specs.Terms.{letter_of}
use Rattle.lines.proofs.Tests.{digits_each}
use Rattle.lines.proofs.Accepting.{digits_say, capital_is}

-- one digit more in front
front : (ds : List ℕ) (c : ℕ) → from_last (ds ++ (c ∷ [])) ≡ (c - 48) * 10 ^ length ds + from_last ds
front [] c = omega arith
front (d ∷ ds) c =
    let rest = front ds c in
    let tens : (c - 48) * 10 ^ suc (length ds) ≡ (c - 48) * 10 ^ length ds * 10 = ap (λ n. (c - 48) * n) (pow-suc 10 (length ds)) ∙ sym (mul_assoc (c - 48) (10 ^ length ds) 10) in
    omega arith

weighs : (c : ℕ) (cs : List ℕ) → IsInRange 48 57 c → value_of (c ∷ cs) ≡ (c - 48) * 10 ^ length cs + value_of cs
weighs c cs is = ap from_last (reverse-append (c ∷ []) cs) ∙ front (reverse cs) c ∙ ap (λ n. (c - 48) * 10 ^ n + value_of cs) (length-reverse cs)

own : IsNumeralModel (λ ds. all_digits ds ≡ true) value_of
own = numerals_by_weight (λ ds. all_digits ds ≡ true) (search rules) value_of (record { empty = refl; more = weighs })

low : (n : ℕ) → n ≤ 99999999 → n < 2 ^ 64
low n h = omega arith

-- the first byte that is written is a digit
pub decimal_digits : (n : ℕ) → n ≤ 99999999 → (k : ℕ) → k < length (decimal n) → (48 ≤ get_or (decimal n) k 0) × (get_or (decimal n) k 0 ≤ 57)
decimal_digits n h = digits_each (decimal n) (digits_decimal own n (low n h))

no_letter : (n : ℕ) → n ≤ 99999999 → is_letter (decimal n) ≡ false
no_letter n h =
    let first = decimal_digits n h 0 (decimal_nonempty n (low n h)) in
    and_left (eqb (length (decimal n)) 1 && leb 65 (get_or (decimal n) 0 0)) (leb (get_or (decimal n) 0 0) 90) (and_right (eqb (length (decimal n)) 1) (leb 65 (get_or (decimal n) 0 0)) (lt-leb 65 (get_or (decimal n) 0 0) (omega arith)))

no_zero : (n : ℕ) → n ≤ 99999999 → (eqb (length (decimal n)) 1 || not (eqb (get_or (decimal n) 0 0) 48)) ≡ true
no_zero zero h = or_left (eqb (length (decimal 0)) 1) _ (eq-eqb (length (decimal 0)) 1 (ap length (decimal_digit 0 (omega arith))))
no_zero (suc n) h =
    let first = first_decimal (suc n) (omega arith) (low (suc n) h) in
    or_right (eqb (length (decimal (suc n))) 1) (not (eqb (get_or (decimal (suc n)) 0 0) 48)) (not_from_false _ (ne_eqb (get_or (decimal (suc n)) 0 0) 48 (λ is. absurd (omega arith))))

pub decimal_number : (n : ℕ) → n ≤ 99999999 → is_number (decimal n) ≡ true
decimal_number n h =
    let long = length-decimal-le 8 n (omega arith) (omega arith) (low n h) in
    let some = decimal_nonempty n (low n h) in
    and_from _ _ (and_from _ _ (and_from _ _ (le-leb 1 (length (decimal n)) (omega arith)) (le-leb (length (decimal n)) 8 long)) (no_zero n h)) (digits_decimal own n (low n h))

pub decimal_word : (n : ℕ) → n ≤ 99999999 → word_of (decimal n) ≡ number n
decimal_word n h =
    cond-false (is_letter (decimal n)) (letter (get_or (decimal n) 0 0)) _ (no_letter n h)
    ∙ cond-true (is_number (decimal n)) (number (value_of (decimal n))) unreadable (decimal_number n h)
    ∙ ap number (digits_value-decimal own n (low n h))

-- what a number field says is written as it stood
pub decimal_back : (f : List ℕ) (n : ℕ) → word_of f ≡ number n → decimal n ≡ f
decimal_back f n e =
    let said = digits_say f n e in
    let outer = and_parts (leb 1 (length f) && leb (length f) 8 && (eqb (length f) 1 || not (eqb (get_or f 0 0) 48))) (all_digits f) said.0 in
    let inner = and_parts (leb 1 (length f) && leb (length f) 8) (eqb (length f) 1 || not (eqb (get_or f 0 0) 48)) outer.0 in
    let ends = and_parts (leb 1 (length f)) (leb (length f) 8) inner.0 in
    let some = leb-true 1 (length f) ends.0 in
    let small = digits_value_short own f 8 outer.1 (leb-true (length f) 8 ends.1) in
    let zero-alone : get_or f 0 0 ≡ 48 → length f ≡ 1 = λ is. elim (or_cases (eqb (length f) 1) (not (eqb (get_or f 0 0) 48)) inner.1) [ inl one ↦ eqb-true (length f) 1 one | inr other ↦ absurd (eqb-false (get_or f 0 0) 48 (not-true _ other) is) ] in
    ap decimal said.1 ∙ decimal-digits_value own f outer.1 (omega arith) zero-alone (omega arith)

alone : (f : List ℕ) → eqb (length f) 1 ≡ true → get_or f 0 0 ∷ [] ≡ f
alone [] e = absurd (omega (arith, eqb-true 0 1 e))
alone (b ∷ []) e = refl
alone (b ∷ d ∷ f) e = absurd (omega (arith, eqb-true (length (b ∷ d ∷ f)) 1 e))

-- what a letter field says is the byte that stood there, a capital
pub capital_back : (f : List ℕ) (c : ℕ) → word_of f ≡ letter c → (c ∷ [] ≡ f) × (65 ≤ c) × (c ≤ 90)
capital_back f c e =
    let said = capital_is f c e in
    let outer = and_parts (eqb (length f) 1 && leb 65 (get_or f 0 0)) (leb (get_or f 0 0) 90) said.0 in
    let inner = and_parts (eqb (length f) 1) (leb 65 (get_or f 0 0)) outer.0 in
    let below = leb-true 65 (get_or f 0 0) inner.1 in
    let above = leb-true (get_or f 0 0) 90 outer.1 in
    (ap (λ x. x ∷ []) said.1 ∙ alone f inner.0, omega arith, omega arith)

pub capital_word : (c : ℕ) → 65 ≤ c → c ≤ 90 → word_of (c ∷ []) ≡ letter c
capital_word c low high = cond-true (is_letter (c ∷ [])) (letter c) _ (and_from (leb 65 c) (leb c 90) (le-leb 65 c low) (le-leb c 90 high))

kept : (c n : ℕ) (l o : Letter) → capital l ≡ n → capital o ≡ c → capital (cond (eqb c n) l o) ≡ c
kept c n l o is rest =
    elim (cases_eq c n) [
      | inl same ↦ ap capital (cond-true (eqb c n) l o (eq-eqb c n same)) ∙ is ∙ sym same
      | inr other ↦ ap capital (cond-false (eqb c n) l o (ne_eqb c n other)) ∙ rest
    ]

capital_of : (c : ℕ) → capital (letter_of c) ≡ c
capital_of c =
    kept c 80 letters.P _ refl (kept c 77 letters.M _ refl (kept c 78 letters.N _ refl (kept c 66 letters.B _ refl (kept c 83 letters.S _ refl (kept c 67 letters.C _ refl (kept c 76 letters.L _ refl (kept c 73 letters.I _ refl (kept c 75 letters.K _ refl (kept c 82 letters.R _ refl (kept c 68 letters.D (letters.Unlisted c) refl refl))))))))))

-- a capital that is read as a letter is written as it stood
pub letter_back : (c : ℕ) → c ≤ 90 → letter_text (letter_of c) ≡ c ∷ []
letter_back c h = ap encode (capital_of c) ∙ encode_ascii c (omega arith)
