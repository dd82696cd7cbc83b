-- A line is gathered from its end. Assumes nothing.
use Rattle.std.proofs.Common.{◌≡◌, ℕ, ◌+◌, ◌-◌, ◌/◌, ◌%◌, ◌^◌, ◌<◌, ◌≤◌, List, [], ◌∷◌, ◌++◌, length, take, drop, set, decimal, refl, sym, ap, ◌∙◌, subst, append_assoc, suc-add, zero-add, arith, length-append, length-set}
use Rattle.std.proofs.lemmas.List.{drop-set, drop-take, length-take-le, set-append_left, take-append-drop, take_at, take-take}
use Rattle.values.specs.Texts.{numbered, text_from}
use Rattle.std.proofs.lemmas.Fmt.{decimal_digit, decimal_step}

-- a byte before those from i on
pub put_before : (xs : List ℕ) (i y : ℕ) → 0 < i → i ≤ 64 → 64 ≤ length xs → text_from (i - 1) (set xs (i - 1) y) ≡ y ∷ text_from i xs
put_before xs i y some in-it long =
    let front = take 64 xs in
    let e : i - 1 + 1 ≡ i = omega arith in
    let l : length front ≡ 64 = length-take-le 64 xs long in
    let s : take 64 (set xs (i - 1) y) ≡ set front (i - 1) y =
    ap (λ l. take 64 (set l (i - 1) y)) (sym (take-append-drop 64 xs)) ∙ ap (take 64) (set-append_left front (drop 64 xs) (i - 1) y (omega arith)) ∙ take_at (set front (i - 1) y) (drop 64 xs) 64 (length-set front (i - 1) y ∙ l) in
    ap (drop (i - 1)) s ∙ drop-set front (i - 1) y (omega arith) ∙ ap (λ k. y ∷ drop k front) e

-- the last digit of a number goes before what follows it, and its front is left
pub put_last : (n i : ℕ) (all xs : List ℕ) → 10 ≤ n → n < 2 ^ 64 → 0 < i → i ≤ 64 → 64 ≤ length xs → all ≡ decimal n ++ text_from i xs → all ≡ decimal (n / 10) ++ text_from (i - 1) (set xs (i - 1) (48 + n % 10))
put_last n i all xs h k some in-it long so_far =
    so_far ∙ ap (λ ds. ds ++ text_from i xs) (decimal_step n h k) ∙ append_assoc (decimal (n / 10)) ((48 + n % 10) ∷ []) (text_from i xs) ∙ ap (λ ds. decimal (n / 10) ++ ds) (sym (put_before xs i (48 + n % 10) some in-it long))

pub length_front : (n : ℕ) → 10 ≤ n → n < 2 ^ 64 → length (decimal n) ≡ length (decimal (n / 10)) + 1
length_front n h k = ap length (decimal_step n h k) ∙ length-append (decimal (n / 10)) ((48 + n % 10) ∷ [])

-- the first digit and a tab
pub put_first : (n i : ℕ) (all xs : List ℕ) → n < 10 → 1 < i → i ≤ 64 → 64 ≤ length xs → all ≡ decimal n ++ text_from i xs → text_from (i - 2) (set (set xs (i - 1) (48 + n)) (i - 2) 9) ≡ 9 ∷ all
put_first n i all xs h some in-it long so_far =
    let ys : List ℕ = set xs (i - 1) (48 + n) in
    let e : i - 1 - 1 ≡ i - 2 = omega arith in
    let one = put_before xs i (48 + n) (omega arith) in-it long in
    let tab = put_before ys (i - 1) 9 (omega arith) (omega arith) (omega (arith, length-set xs (i - 1) (48 + n))) in
    subst (λ k. text_from k (set ys k 9) ≡ 9 ∷ text_from (i - 1) ys) e tab ∙ ap (λ l. 9 ∷ l) (one ∙ ap (λ ds. ds ++ text_from i xs) (sym (decimal_digit n h)) ∙ sym so_far)

-- the text itself is copied
pub sliced : (line : List ℕ) (i : ℕ) → i ≤ 64 → take (64 - i) (drop i line) ≡ text_from i line
sliced line i in-it =
    let e : i + (64 - i) ≡ 64 = omega arith in
    sym (drop-take i (64 - i) line) ∙ ap (λ k. drop i (take k line)) e

take_past : (xs ys : List ℕ) (n : ℕ) → take (length xs + n) (xs ++ ys) ≡ xs ++ take n ys
take_past [] ys n = ap (λ k. take k ys) (zero-add n)
take_past (x ∷ xs) ys n = ap (λ k. take k (x ∷ (xs ++ ys))) (suc-add (length xs) n) ∙ ap (λ l. x ∷ l) (take_past xs ys n)

-- 64 bytes from a place on are appended, and all but the text is cut off
pub cut : (was line : List ℕ) (i m n : ℕ) → i ≤ 64 → m ≡ 64 → n ≡ length was + (64 - i) → take n (was ++ take m (drop i line)) ≡ was ++ text_from i line
cut was line i m n in-it all is =
    ap (λ k. take k (was ++ take m (drop i line))) is ∙ take_past was (take m (drop i line)) (64 - i) ∙ ap (λ l. was ++ l) (take-take (64 - i) m (drop i line) (omega arith) ∙ sliced line i in-it)

-- what follows a list of numbers may be written before or after
pub numbered-append : (ns rest end : List ℕ) → numbered ns rest ++ end ≡ numbered ns (rest ++ end)
numbered-append [] rest end = refl
numbered-append (n ∷ ns) rest end = ap (λ l. 9 ∷ l) (append_assoc (decimal n) (numbered ns rest) end ∙ ap (λ l. decimal n ++ l) (numbered-append ns rest end))
