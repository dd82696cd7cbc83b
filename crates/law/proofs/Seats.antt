-- The places of the slips that are out. Assumes nothing.
--     sent_cases         a place after one is set
--     out_within         a slip that is out stands within the table
--     seat_is            what `seat` finds
--     file_is            a slip is filed in a free place, if there is one
--     fewer_vacant       and then one place fewer is free
use Rattle.std.proofs.Common.{◌≡◌, ℕ, zero, suc, ◌+◌, ◌<◌, ◌≤◌, Bool, true, false, cond, ◌⊎◌, List, [], ◌∷◌, length, set, Some, None, Option, refl, ap, ◌∙◌, subst, inl, inr, arith, get_or-set_other, get_or-set_same}
use Rattle.std.proofs.lemmas.List.{get_or_past, set_past}
use Rattle.std.proofs.lemmas.Bool.{cases_lt, cases_eq, not-true, ltb-true, ltb-false, lt-ltb}
use Rattle.std.proofs.lemmas.List.Sums.{sum_by-cons, sum_by-set}
use Rattle.values.specs.declared.reports.Slip.{Slip}
use Rattle.rules.specs.declared.Sent.{Sent}
use Rattle.rules.specs.Book.{branch}
use Rattle.rules.specs.Slips.{no_sent, sent_at, out, OutThere, vacant, seat, vacancies, file}

-- ---- reading the table
pub sent_cases : (b : List Sent) (i : ℕ) (v : Sent) (j : ℕ) → ((j ≡ i) × (sent_at (set b i v) j ≡ v)) ⊎ (sent_at (set b i v) j ≡ sent_at b j)
sent_cases b i v j = go (cases_eq j i) (cases_lt i (length b))
  where
    go : (j ≡ i) ⊎ (j ≡ i → ⊥) → (i < length b) ⊎ (length b ≤ i) → ((j ≡ i) × (sent_at (set b i v) j ≡ v)) ⊎ (sent_at (set b i v) j ≡ sent_at b j)
    go (inl e) (inl h) = inl (e, ap (sent_at (set b i v)) e ∙ get_or-set_same b i v no_sent h)
    go (inl e) (inr h) = inr (ap (λ l. sent_at l j) (set_past b i v h))
    go (inr e) h = inr (get_or-set_other b i j v no_sent e)

pub out_within : (b : List Sent) (j : ℕ) → OutThere (sent_at b j) → j < length b
out_within b j h = elim (cases_lt j (length b)) [ inl k ↦ k | inr k ↦ let z : 0 < 0 = subst OutThere (get_or_past b j no_sent k) h in absurd (omega arith) ]

pub out_true : (x : Sent) → out x ≡ true → OutThere x
out_true x h = ltb-true 0 x.slip.size h

-- ---- choosing a place
abbrev pub Seated : (Sent → Bool) → List Sent → ℕ → Option ℕ → Type 0
Seated c b k None = (j : ℕ) → j < k → c (sent_at b j) ≡ false
Seated c b k (Some i) = (i < k) × (c (sent_at b i) ≡ true)

pub seat_is : (c : Sent → Bool) (b : List Sent) (k : ℕ) → Seated c b k (seat c b k)
unfolding seat
seat_is c b zero = λ j h. absurd (omega arith)
seat_is c b (suc k) = more (seat c b k) (seat_is c b k) (c (sent_at b k)) refl
  where
    last : (j : ℕ) → j < suc k → (j < k) ⊎ (j ≡ k)
    last j h = grind arith

    more : (o : Option ℕ) → Seated c b k o → (t : Bool) → c (sent_at b k) ≡ t → Seated c b (suc k) (branch o (cond (c (sent_at b k)) (Some k) None) (λ i. Some i))
    more None h true e = rw e (omega arith, e)
    more None h false e = rw e (λ j l. elim (last j l) [ inl m ↦ h j m | inr m ↦ rw m e ])
    more (Some i) h t e = (omega arith, h.1)

-- ---- filing one slip
none_vacant : (b : List Sent) → ((j : ℕ) → j < length b → vacant (sent_at b j) ≡ false) → vacancies b ≡ 0
none_vacant [] h = refl
none_vacant (x ∷ b) h =
    let x' : ◌≡◌ {A = ℕ} (cond (vacant x) 1 0) 0 = rw (h 0 (omega arith)) refl in
    omega (arith, sum_by-cons (λ y. cond (vacant y) 1 0) x b, x', none_vacant b (λ j l. h (suc j) (omega arith)))

abbrev pub as_sent : ℕ → Slip → Sent
as_sent id s = record { slip = s; id = id }

pub record Place (id : ℕ) (s : Slip) (b c : List Sent) : Type 0 where
  pub place : ℕ
  pub within : place < length b
  pub was : (sent_at b place).slip.size ≡ 0
  pub is : c ≡ set b place (as_sent id s)

pub file_is : (id : ℕ) (s : Slip) (b : List Sent) → 0 < vacancies b → Place id s b (file id s b)
unfolding file
file_is id s b some = go (seat vacant b (length b)) (seat_is vacant b (length b))
  where
    go : (o : Option ℕ) → Seated vacant b (length b) o → Place id s b (branch o b (λ i. set b i (as_sent id s)))
    go None h = absurd (omega (arith, some, none_vacant b h))
    go (Some i) h = record { place = i; within = h.0; was = omega (arith, ltb-false 0 (sent_at b i).slip.size (not-true (out (sent_at b i)) h.1)); is = refl }

-- a slip with a size takes a free place
pub fewer_vacant : (id : ℕ) (s : Slip) (b : List Sent) (i : ℕ) → i < length b → (sent_at b i).slip.size ≡ 0 → 0 < s.size → vacancies (set b i (as_sent id s)) + 1 ≡ vacancies b
fewer_vacant id s b i m was pos =
    let one : ◌≡◌ {A = ℕ} (cond (vacant (sent_at b i)) 1 0) 1 = rw was refl in
    let nil : ◌≡◌ {A = ℕ} (cond (vacant (as_sent id s)) 1 0) 0 = rw (lt-ltb 0 s.size pos) refl in
    omega (arith, sum_by-set (λ y. cond (vacant y) 1 0) b i (as_sent id s) no_sent m, one, nil)
