-- What stands in the 240 bytes after a write, byte for byte.
use Rattle.std.proofs.Common.{◌≡◌, ℕ, zero, suc, ◌+◌, ◌-◌, ◌*◌, ◌<◌, ◌≤◌, cond, List, [], ◌∷◌, ◌++◌, length, take, drop, set, sym, refl, ap, ◌∙◌, append_assoc, arith, length-append}
use lib.Seq.{paste, sets, sets-eq}
use Rattle.std.proofs.lemmas.List.Edits.{paste_all, paste-paste}
use Rattle.std.proofs.lemmas.List.{drop_at, drop-drop}
use Rattle.market.specs.declared.board.Quote.{Quote}
use Rattle.market.specs.Quotes.{told}
use Rattle.market.specs.Packing.{word_bytes, record_bytes, packed, overwritten}
use Rattle.market.proofs.Packs.{here_in}

pub four_sets : (bs : List ℕ) (i a b c d : ℕ) → i + 4 ≤ length bs → set (set (set (set bs i a) (i + 1) b) (i + 2) c) (i + 3) d ≡ overwritten bs i (a ∷ b ∷ c ∷ d ∷ [])
unfolding overwritten
four_sets bs i a b c d l =
    let one : i + 1 ≡ suc i = omega arith in
    let two : i + 2 ≡ suc (suc i) = omega arith in
    let three : i + 3 ≡ suc (suc (suc i)) = omega arith in
    let same : set (set (set (set bs i a) (i + 1) b) (i + 2) c) (i + 3) d ≡ sets bs i (a ∷ b ∷ c ∷ d ∷ []) = cc in
    let xs = a ∷ b ∷ c ∷ d ∷ [] in
    same ∙ sets-eq xs bs i l ∙ paste_all bs i xs 4 refl

as_paste : (bs : List ℕ) (i n : ℕ) (xs : List ℕ) → n ≡ length xs → overwritten bs i xs ≡ paste bs i xs n
unfolding overwritten
as_paste bs i n xs e = ap (λ m. take i bs ++ (xs ++ drop (i + m) bs)) (sym e) ∙ sym (paste_all bs i xs n e)

-- a write that begins where another ended
twice : (bs : List ℕ) (i n m : ℕ) (xs ys : List ℕ) → n ≡ length xs → m ≡ length ys → i ≤ length bs → overwritten (overwritten bs i xs) (i + n) ys ≡ overwritten bs i (xs ++ ys)
twice bs i n m xs ys en em l =
    let both : n + m ≡ length (xs ++ ys) = omega (arith, length-append xs ys) in
    ap (λ w. overwritten w (i + n) ys) (as_paste bs i n xs en) ∙ as_paste (paste bs i xs n) (i + n) m ys em ∙ paste-paste bs i xs ys n m en em l ∙ sym (as_paste bs i (n + m) (xs ++ ys) both)

pub four_words : (bs b1 b2 b3 b4 : List ℕ) (i : ℕ) (q : Quote) → i + 16 ≤ length bs → b1 ≡ overwritten bs i (word_bytes q.bid) → b2 ≡ overwritten b1 (i + 4) (word_bytes q.bid_size) → b3 ≡ overwritten b2 (i + 8) (word_bytes q.offer) → b4 ≡ overwritten b3 (i + 12) (word_bytes q.offer_size) → b4 ≡ overwritten bs i (record_bytes q)
unfolding record_bytes
four_words bs b1 b2 b3 b4 i q l e1 e2 e3 e4 =
    let w1 = word_bytes q.bid in
    let w2 = word_bytes q.bid_size in
    let w3 = word_bytes q.offer in
    let w4 = word_bytes q.offer_size in
    let two : b2 ≡ overwritten bs i (w1 ++ w2) = e2 ∙ ap (λ w. overwritten w (i + 4) w2) e1 ∙ twice bs i 4 4 w1 w2 refl refl (omega arith) in
    let three : b3 ≡ overwritten bs i ((w1 ++ w2) ++ w3) = e3 ∙ ap (λ w. overwritten w (i + 8) w3) two ∙ twice bs i 8 4 (w1 ++ w2) w3 refl refl (omega arith) in
    e4 ∙ ap (λ w. overwritten w (i + 12) w4) three ∙ twice bs i 12 4 ((w1 ++ w2) ++ w3) w4 refl refl (omega arith)

take_past : (xs ys : List ℕ) (i : ℕ) → take (length xs + i) (xs ++ ys) ≡ xs ++ take i ys
take_past [] ys i = let e : 0 + i ≡ i = omega arith in ap (λ n. take n ys) e
take_past (x ∷ xs) ys i =
    let e : suc (length xs) + i ≡ suc (length xs + i) = omega arith in
    ap (λ n. take n (x ∷ (xs ++ ys))) e ∙ ap (λ r. x ∷ r) (take_past xs ys i)

-- a write past the first part leaves that part
past : (xs ys zs : List ℕ) (n i j : ℕ) → length xs ≡ n → j ≡ n + i → overwritten (xs ++ ys) j zs ≡ xs ++ overwritten ys i zs
unfolding overwritten
past xs ys zs n i j en ej =
    let front : take j (xs ++ ys) ≡ xs ++ take i ys = ap (λ k. take k (xs ++ ys)) (ej ∙ ap (λ m. m + i) (sym en)) ∙ take_past xs ys i in
    let sum : j + length zs ≡ n + (i + length zs) = omega arith in
    let back : drop (j + length zs) (xs ++ ys) ≡ drop (i + length zs) ys = ap (λ k. drop k (xs ++ ys)) sum ∙ sym (drop-drop (i + length zs) n (xs ++ ys)) ∙ ap (drop (i + length zs)) (drop_at xs ys n en) in
    ap (λ f. f ++ (zs ++ drop (j + length zs) (xs ++ ys))) front ∙ ap (λ b. (xs ++ take i ys) ++ (zs ++ b)) back ∙ append_assoc xs (take i ys) (zs ++ drop (i + length zs) ys)

record_length : (q : Quote) → length (record_bytes q) ≡ 16
unfolding record_bytes
record_length q = refl

first_record : (q x : Quote) (rest : List ℕ) → overwritten (record_bytes x ++ rest) 0 (record_bytes q) ≡ record_bytes q ++ rest
unfolding overwritten
first_record q x rest =
    ap (λ b. record_bytes q ++ b) (drop_at (record_bytes x) rest (0 + length (record_bytes q)) (record_length x ∙ sym (let n : 0 + length (record_bytes q) ≡ length (record_bytes q) = omega arith in n ∙ record_length q)))

-- one record is replaced, and the others stay
packed_set : (qs : List Quote) (k : ℕ) (q : Quote) → k < length qs → overwritten (packed qs) (16 * k) (record_bytes q) ≡ packed (set qs k q)
packed_set [] k q l = absurd (omega arith)
packed_set (x ∷ xs) zero q l = first_record q x (packed xs)
packed_set (x ∷ xs) (suc k) q l =
    past (record_bytes x) (packed xs) (record_bytes q) 16 (16 * k) (16 * suc k) (record_length x) (omega arith) ∙ ap (λ r. record_bytes x ++ r) (packed_set xs k q (omega arith))

pub told_packed : (bs cs : List ℕ) (e i : ℕ) (q : Quote) → i < 15 → e ≡ i + 1 → cs ≡ overwritten bs (16 * i) (record_bytes q) → (qs : List Quote) → length qs ≡ 15 → bs ≡ packed qs → cs ≡ packed (told qs e q)
told_packed bs cs e i q l m at qs n was =
    let k : e - 1 ≡ i = omega arith in
    at ∙ ap (λ w. overwritten w (16 * i) (record_bytes q)) was ∙ packed_set qs i q (omega arith) ∙ sym (ap (λ b. packed (cond b (set qs (e - 1) q) qs)) (here_in e (omega arith) (omega arith)) ∙ ap (λ j. packed (set qs j q)) k)
