-- The best of a side is what its name says, at either side.
use Rattle.std.proofs.Common.{◌≡◌, ℕ, zero, suc, ◌+◌, ◌<◌, Bool, true, false, cond, eqb, ◌⊎◌, List, [], ◌∷◌, length, get_or, fold, sum_by, sym, refl, ap, ◌∙◌, inl, inr, arith}
use Rattle.std.proofs.lemmas.List.Sums.{sum_by-cons}
use Rattle.std.proofs.lemmas.Bool.Decides.{nat_tests}
use Rattle.std.proofs.lemmas.Bool.{cases_Bool}
use Rattle.market.specs.declared.board.Quote.{Quote}
use Rattle.market.specs.Quotes.{absent, better, best_price, counted, size_at, higher, lower, bid_of, bid_size_of, offer_of, offer_size_of, Best, BestsAreBest}

-- what the laws of `beats` have to be
record Order (beats : ℕ → ℕ → Bool) : Type 0 where
  self : (p : ℕ) → beats p p ≡ false
  further : (p b c : ℕ) → beats p b ≡ false → beats c b ≡ true → beats p c ≡ false

higher_order : Order higher
higher_order = record { self = λ p. grind (arith, nat_tests); further = λ p b c m n. grind (arith, nat_tests) }

lower_order : Order lower
lower_order = record { self = λ p. grind (arith, nat_tests); further = λ p b c m n. grind (arith, nat_tests) }

better_zero : (beats : ℕ → ℕ → Bool) (b p : ℕ) → better beats b p ≡ 0 → (b ≡ 0) × (p ≡ 0)
better_zero beats b p e = elim (cases_Bool (beats p b)) [ inl t ↦ grind (arith, nat_tests) | inr f ↦ grind (arith, nat_tests) ]

better_either : (beats : ℕ → ℕ → Bool) (b p : ℕ) → (better beats b p ≡ b) ⊎ (better beats b p ≡ p)
better_either beats b p = elim (cases_Bool (beats p b)) [ inl t ↦ grind (arith, nat_tests) | inr f ↦ grind (arith, nat_tests) ]

-- p does not beat b, and b is a price
abbrev Under : (ℕ → ℕ → Bool) → ℕ → ℕ → Type 0
Under beats p b = (0 < b) × (beats p b ≡ false)

under_more : (beats : ℕ → ℕ → Bool) → Order beats → (p b x : ℕ) → Under beats p b → Under beats p (better beats b x)
under_more beats o p b x u =
    elim (cases_Bool (beats x b)) [
      | inl t ↦ let h = o.further p b x u.1 t in (grind (arith, nat_tests), grind (arith, nat_tests))
      | inr f ↦ (grind (arith, nat_tests), grind (arith, nat_tests))
    ]

under_self : (beats : ℕ → ℕ → Bool) → Order beats → (b p : ℕ) → 0 < p → Under beats p (better beats b p)
under_self beats o b p l =
    let h = o.self p in
    elim (cases_Bool (beats p b)) [
      | inl t ↦ (grind (arith, nat_tests), grind (arith, nat_tests))
      | inr f ↦ (grind (arith, nat_tests), grind (arith, nat_tests))
    ]

-- the best of quotes on top of a price b
abbrev top : (ℕ → ℕ → Bool) → (Quote → ℕ) → ℕ → List Quote → ℕ
top beats price b qs = fold (λ b q. better beats b (price q)) b qs

at_each : (price : Quote → ℕ) (q : Quote) (qs : List Quote) → price q ≡ 0 → ((k : ℕ) → price (get_or qs k absent) ≡ 0) → (k : ℕ) → price (get_or (q ∷ qs) k absent) ≡ 0
at_each price q qs first rest zero = first
at_each price q qs first rest (suc k) = rest k

top_none : (beats : ℕ → ℕ → Bool) (price : Quote → ℕ) → price absent ≡ 0 → (qs : List Quote) (b : ℕ) → top beats price b qs ≡ 0 → (b ≡ 0) × ((k : ℕ) → price (get_or qs k absent) ≡ 0)
top_none beats price empty [] b e = (e, λ k. empty)
top_none beats price empty (q ∷ qs) b e =
    let rest = top_none beats price empty qs (better beats b (price q)) e in
    let z = better_zero beats b (price q) rest.0 in
    (z.0, at_each price q qs z.1 rest.1)

top_some : (beats : ℕ → ℕ → Bool) (price : Quote → ℕ) (qs : List Quote) (b : ℕ) → (top beats price b qs ≡ b) ⊎ ((k : ℕ) × (k < length qs) × (price (get_or qs k absent) ≡ top beats price b qs))
top_some beats price [] b = inl refl
top_some beats price (q ∷ qs) b =
    elim (top_some beats price qs (better beats b (price q))) [
      | inl e ↦ elim (better_either beats b (price q)) [
        | inl old ↦ inl (e ∙ old)
        | inr new ↦ inr (0, omega arith, sym (e ∙ new))
      ]
      | inr found ↦ inr (suc found.0, omega (arith, found.1), found.2)
    ]

top_under : (beats : ℕ → ℕ → Bool) → Order beats → (price : Quote → ℕ) (qs : List Quote) (p b : ℕ) → Under beats p b → Under beats p (top beats price b qs)
top_under beats o price [] p b u = u
top_under beats o price (q ∷ qs) p b u = top_under beats o price qs p (better beats b (price q)) (under_more beats o p b (price q) u)

top_unbeaten : (beats : ℕ → ℕ → Bool) → Order beats → (price : Quote → ℕ) → price absent ≡ 0 → (qs : List Quote) (b k : ℕ) → 0 < price (get_or qs k absent) → beats (price (get_or qs k absent)) (top beats price b qs) ≡ false
top_unbeaten beats o price empty [] b k l = absurd (omega (arith, empty))
top_unbeaten beats o price empty (q ∷ qs) b zero l = (top_under beats o price qs (price q) (better beats b (price q)) (under_self beats o b (price q) l)).1
top_unbeaten beats o price empty (q ∷ qs) b (suc k) l = top_unbeaten beats o price empty qs (better beats b (price q)) k l

counted_zero : (price size : Quote → ℕ) (qs : List Quote) → size_at 0 price size qs ≡ 0
counted_zero price size [] = refl
counted_zero price size (q ∷ qs) = counted_zero price size qs

counted_there : (p : ℕ) (price size : Quote → ℕ) (qs : List Quote) → 0 < p → size_at p price size qs ≡ sum_by (λ q. cond (eqb (price q) p) (size q) 0) qs
counted_there p price size [] l = refl
counted_there p price size (q ∷ qs) l =
    let here : counted p (price q) (size q) ≡ cond (eqb (price q) p) (size q) 0 = grind (arith, nat_tests) in
    let rest = counted_there p price size qs l in
    sum_by-cons (λ q. counted p (price q) (size q)) q qs ∙ ap (λ n. n + size_at p price size qs) here ∙ ap (λ n. cond (eqb (price q) p) (size q) 0 + n) rest ∙ sym (sum_by-cons (λ q. cond (eqb (price q) p) (size q) 0) q qs)

best_is_best : (beats : ℕ → ℕ → Bool) → Order beats → (price size : Quote → ℕ) → price absent ≡ 0 → (qs : List Quote) → Best beats price size qs (best_price beats price qs) (size_at (best_price beats price qs) price size qs)
best_is_best beats o price size empty qs =
    record {
      none = λ e. ((top_none beats price empty qs 0 e).1, ap (λ p. size_at p price size qs) e ∙ counted_zero price size qs);
      some = λ l. elim (top_some beats price qs 0) [ inl e ↦ absurd (omega arith) | inr found ↦ found ];
      unbeaten = λ k l. top_unbeaten beats o price empty qs 0 k l;
      total = λ l. counted_there (best_price beats price qs) price size qs l;
    }

pub bests_are_best : BestsAreBest
bests_are_best qs = (best_is_best higher higher_order bid_of bid_size_of refl qs, best_is_best lower lower_order offer_of offer_size_of refl qs)
