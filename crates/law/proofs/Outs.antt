-- Lists of slips: what they have, and that a number stands once. Assumes nothing.
--     has_cons, has_tail, has_cases       what a list with one more has
--     Unique ss                           no two have one number
--     unique_more                         slips numbered from k on, before others with lower numbers
--     has_kept, kept_has                  what is left when a number is answered
--     slipped_kept                        and by how much it is less
use Rattle.std.proofs.Common.{◌≡◌, ℕ, zero, suc, ◌+◌, ◌<◌, ◌≤◌, eqb, ◌≢◌, ◌⊎◌, List, [], ◌∷◌, ◌++◌, length, filter, sym, refl, ap, ◌∙◌, subst, inl, inr, arith}
use Rattle.std.proofs.lemmas.Bool.{cond_both, eqb-false, eq-eqb, ne_eqb, not-true}
use Rattle.std.proofs.ByRecursion.{All-append, All-weaker, all-has, all_kept_by}
use Rattle.std.proofs.lemmas.List.Sums.{sum_by-cons}
use Rattle.std.specs.List.{ContainsAt as Has, AllByRecursion}
use Rattle.values.specs.declared.reports.Slip.{Slip}
use Rattle.rules.specs.Sizes.{slip_part, slipped}
use Rattle.rules.specs.Histories.{unanswered}
use Rattle.rules.specs.Law.{Consecutive}

-- ---- one more
pub has_cons : (s : Slip) (ss : List Slip) → Has (s ∷ ss) s
has_cons s ss = (0, omega arith, λ d. refl)

pub has_tail : (s : Slip) (ss : List Slip) (x : Slip) → Has ss x → Has (s ∷ ss) x
has_tail s ss x h = (suc h.0, omega (arith, h.1), h.2)

pub has_cases : (s : Slip) (ss : List Slip) (x : Slip) → Has (s ∷ ss) x → (s ≡ x) ⊎ Has ss x
has_cases s ss x (zero, m, h) = inl (h s)
has_cases s ss x (suc k, m, h) = inr (k, omega arith, h)

pub has_none : (x : Slip) → Has [] x → ⊥
has_none x h = omega (arith, h.1)

pub has_append_cases : (ss ts : List Slip) (x : Slip) → Has (ss ++ ts) x → Has ss x ⊎ Has ts x
has_append_cases [] ts x h = inr h
has_append_cases (s ∷ ss) ts x h = elim (has_cases s (ss ++ ts) x h) [
  | inl e ↦ inl (subst (Has (s ∷ ss)) e (has_cons s ss))
  | inr k ↦ elim (has_append_cases ss ts x k) [ inl m ↦ inl (has_tail s ss x m) | inr m ↦ inr m ]
]

-- ---- numbers
abbrev pub Unique : List Slip → Type 0
Unique [] = Unit {0}
Unique (s ∷ ss) = AllByRecursion (λ x. x.number ≢ s.number) ss × Unique ss

pub consecutive_from : (k : ℕ) (ss : List Slip) → Consecutive k ss → AllByRecursion (λ x. (k ≤ x.number) × (x.number < k + length ss)) ss
consecutive_from k [] h = tt
consecutive_from k (s ∷ ss) h = ((omega (arith, h.0), omega (arith, h.0)), All-weaker (λ x. (suc k ≤ x.number) × (x.number < suc k + length ss)) (λ x. (k ≤ x.number) × (x.number < k + length (s ∷ ss))) (λ x m. (omega (arith, m.0), omega (arith, m.1))) ss (consecutive_from (suc k) ss h.1))

pub unique_more : (k : ℕ) (ss ts : List Slip) → Consecutive k ss → AllByRecursion (λ x. x.number < k) ts → Unique ts → Unique (ss ++ ts)
unique_more k [] ts h low u = u
unique_more k (s ∷ ss) ts h low u = (
  All-append (λ x. x.number ≢ s.number) ss ts
      (All-weaker (λ x. (suc k ≤ x.number) × (x.number < suc k + length ss)) (λ x. x.number ≢ s.number) (λ x m e. omega (arith, m.0, e, h.0)) ss (consecutive_from (suc k) ss h.1))
      (All-weaker (λ x. x.number < k) (λ x. x.number ≢ s.number) (λ x m e. omega (arith, m, e, h.0)) ts low),
  unique_more (suc k) ss ts h.1 (All-weaker (λ x. x.number < k) (λ x. x.number < suc k) (λ x m. omega (arith, m)) ts low) u,
)

-- ---- a number is answered
pub has_kept : (n : ℕ) (ss : List Slip) (x : Slip) → Has ss x → x.number ≢ n → Has (filter (unanswered n) ss) x
has_kept n [] x h ne = absurd (has_none x h)
has_kept n (s ∷ ss) x h ne = elim (has_cases s ss x h) [
  | inl e ↦ subst (λ y. Has (filter (unanswered n) (y ∷ ss)) x) (sym e) (rw (ne_eqb x.number n ne) (has_cons x (filter (unanswered n) ss)))
  | inr k ↦ cond_both (unanswered n s) (s ∷ filter (unanswered n) ss) (filter (unanswered n) ss) (λ l. Has l x) (λ _. has_tail s (filter (unanswered n) ss) x (has_kept n ss x k ne)) (λ _. has_kept n ss x k ne)
]

pub kept_has : (n : ℕ) (ss : List Slip) (x : Slip) → Has (filter (unanswered n) ss) x → Has ss x × (x.number ≢ n)
kept_has n [] x = λ h. absurd (has_none x h)
kept_has n (s ∷ ss) x = cond_both (unanswered n s) (s ∷ filter (unanswered n) ss) (filter (unanswered n) ss) (λ l. Has l x → Has (s ∷ ss) x × (x.number ≢ n))
    (λ y h. elim (has_cases s (filter (unanswered n) ss) x h) [
      | inl e ↦ (subst (Has (s ∷ ss)) e (has_cons s ss), λ z. eqb-false s.number n (not-true (eqb s.number n) y) (ap (λ w. w.number) e ∙ z))
      | inr k ↦ let r = kept_has n ss x k in (has_tail s ss x r.0, r.1)
    ])
    (λ _ h. let r = kept_has n ss x h in (has_tail s ss x r.0, r.1))

pub unique_kept : (n : ℕ) (ss : List Slip) → Unique ss → Unique (filter (unanswered n) ss)
unique_kept n [] u = tt
unique_kept n (s ∷ ss) u = cond_both (unanswered n s) (s ∷ filter (unanswered n) ss) (filter (unanswered n) ss) Unique
    (λ _. (all_kept_by (unanswered n) (λ x. x.number ≢ s.number) ss u.0, unique_kept n ss u.1))
    (λ _. unique_kept n ss u.1)

none_answered : (a n : ℕ) (ss : List Slip) → AllByRecursion (λ x. x.number ≢ n) ss → slipped a (filter (unanswered n) ss) ≡ slipped a ss
none_answered a n [] h = refl
none_answered a n (s ∷ ss) h = rw (ne_eqb s.number n h.0) (omega (arith, sum_by-cons (slip_part a) s (filter (unanswered n) ss), sum_by-cons (slip_part a) s ss, none_answered a n ss h.1))

pub slipped_kept : (a n : ℕ) (ss : List Slip) (x : Slip) → Unique ss → Has ss x → x.number ≡ n → slipped a (filter (unanswered n) ss) + slip_part a x ≡ slipped a ss
slipped_kept a n [] x u h e = absurd (has_none x h)
slipped_kept a n (s ∷ ss) x u h e = elim (has_cases s ss x h) [
  | inl y ↦ subst (λ z. slipped a (filter (unanswered n) (s ∷ ss)) + slip_part a z ≡ slipped a (s ∷ ss)) y (first (ap (λ w. w.number) y ∙ e))
  | inr k ↦ rw (ne_eqb s.number n (λ z. all-has (λ w. w.number ≢ s.number) ss x u.0 k (e ∙ sym z)))
      (omega (arith, sum_by-cons (slip_part a) s (filter (unanswered n) ss), sum_by-cons (slip_part a) s ss, slipped_kept a n ss x u.1 k e))
]
  where
    first : s.number ≡ n → slipped a (filter (unanswered n) (s ∷ ss)) + slip_part a s ≡ slipped a (s ∷ ss)
    first z = rw (eq-eqb s.number n z) (omega (arith, sum_by-cons (slip_part a) s ss, none_answered a n ss (All-weaker (λ w. w.number ≢ s.number) (λ w. w.number ≢ n) (λ w f g. f (g ∙ sym z)) ss u.0)))
