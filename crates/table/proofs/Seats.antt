-- One place more of a search through the slips. Assumes nothing.
use Rattle.std.proofs.Common.{◌≡◌, ℕ, zero, suc, ◌+◌, ◌<◌, ◌≤◌, Bool, true, false, cond, ◌||◌, List, length, get_or, take, drop, Some, None, Option, sym, refl, ap, ◌∙◌, ⊎_elim, add-one, arith}
use Rattle.std.proofs.lemmas.List.{get_or-take, length-take-le, drop_more, drop_all}
use Rattle.std.proofs.lemmas.Bool.{cases_lt}
use Rattle.std.proofs.lemmas.List.Folds.{list_any_more}
use Rattle.std.proofs.lemmas.List.Quantifiers.{position-Some}
use Rattle.std.specs.List.{position, list_any}
use Rattle.values.specs.declared.reports.Slip.{Slip}
use Rattle.rules.specs.declared.Sent.{Sent}
use Rattle.rules.specs.Book.{branch, found}
use Rattle.rules.specs.Slips.{no_sent, sent_at, out, seat, file, filed}
use Rattle.table.specs.Places.{NoneOutFrom}
use Rattle.table.proofs.Firsts.{position-None}

module _ (c : Sent → Bool) (b : List Sent) where
  pub seat_none : seat c b 0 ≡ None
  unfolding seat
  seat_none = refl

  more : (k : ℕ) → seat c b (k + 1) ≡ branch (seat c b k) (cond (c (sent_at b k)) (Some k) None) (λ i. Some i)
  unfolding seat
  more k = rw add-one refl

  pub seat_passed : (k : ℕ) → seat c b k ≡ None → c (sent_at b k) ≡ false → seat c b (k + 1) ≡ None
  seat_passed k e f = rw (more k, e, f) refl

  pub seat_found : (k n : ℕ) → seat c b k ≡ None → c (sent_at b k) ≡ true → k < n → seat c b n ≡ Some k
  seat_found k zero e f l = absurd (omega arith)
  seat_found k (suc n) e f l =
      ⊎_elim
      (λ (m : k < n). rw (← add-one) (rw (more n, seat_found k n e f m) refl))
      (λ (m : n ≤ k).
      let same : n ≡ k = omega arith in
      rw (same, ← add-one) (rw (more k, e, f) refl))
      (cases_lt k n)

  pub seat_before : (k : ℕ) → ((j : ℕ) → j < k → c (sent_at b j) ≡ false) → seat c b k ≡ None
  seat_before zero f = seat_none
  seat_before (suc k) f = rw (← add-one) (seat_passed k (seat_before k (λ j l. f j (omega arith))) (f k (omega arith)))

  -- the library's search of the first n places
  pub seat_position : (n : ℕ) → n ≤ length b → position c (take n b) ≡ seat c b n
  seat_position n h = go (position c (take n b)) refl
    where
      long : length (take n b) ≡ n
      long = length-take-le n b h

      go : (r : Option ℕ) → position c (take n b) ≡ r → r ≡ seat c b n
      go None e = sym (seat_before n (λ j l. ap c (sym (get_or-take n b j no_sent l)) ∙ position-None c (take n b) j no_sent e (omega (arith, long, l))))
      go (Some i) e =
          let f = position-Some c (take n b) i no_sent e in
          let l : i < n = omega (arith, f.0, long) in
          sym (seat_found i n (seat_before i (λ j m. ap c (sym (get_or-take n b j no_sent (omega (arith, m, l)))) ∙ f.2 j m)) (ap c (sym (get_or-take n b i no_sent l)) ∙ f.1) l)

  pub seat_any : (n : ℕ) → n ≤ length b → list_any c (take n b) ≡ found (seat c b n)
  seat_any zero h = ap found (sym seat_none)
  seat_any (suc n) h = rw (← add-one) (list_any_more c b n no_sent (omega arith) ∙ ap (λ x. x || c (sent_at b n)) (seat_any n (omega arith)) ∙ there (seat c b n) (c (sent_at b n)) ∙ ap found (sym (more n)))
    where
      there : (r : Option ℕ) (x : Bool) → (found r || x) ≡ found (branch r (cond x (Some n) None) (λ i. Some i))
      there None true = refl
      there None false = refl
      there (Some i) x = refl

-- a search for slips that are out need not go on where none is out
module _ (c : Sent → Bool) (b : List Sent) (only : (s : Sent) → out s ≡ false → c s ≡ false) where
  unfound : (k : ℕ) (r : Option ℕ) → c (sent_at b k) ≡ false → branch r (cond (c (sent_at b k)) (Some k) None) (λ i. Some i) ≡ r
  unfound k None e = rw e refl
  unfound k (Some i) e = refl

  pub seat_all : (n m : ℕ) → n ≤ m → NoneOutFrom n b → seat c b m ≡ seat c b n
  seat_all n zero h f = ap (seat c b) (omega arith)
  seat_all n (suc m) h f =
      ⊎_elim
      (λ (l : m < n). ap (seat c b) (omega arith))
      (λ (l : n ≤ m). rw (← add-one) (more c b m ∙ unfound m (seat c b m) (only (sent_at b m) (f m l)) ∙ seat_all n m l f))
      (cases_lt m n)

-- ---- filing slip after slip
pub filed_on : (id : ℕ) (ss : List Slip) (i : ℕ) (d : Slip) (b b' : List Sent) (end : List Sent) → i < length ss → b' ≡ file id (get_or ss i d) b → filed id (drop i ss) b ≡ end → filed id (drop (i + 1) ss) b' ≡ end
unfolding filed
filed_on id ss i d b b' end h e f = ap (filed id (drop (i + 1) ss)) e ∙ sym (ap (λ xs. filed id xs b) (drop_more ss i d h)) ∙ f

pub filed_all : (id : ℕ) (ss : List Slip) (i : ℕ) (b end : List Sent) → length ss ≤ i → filed id (drop i ss) b ≡ end → b ≡ end
unfolding filed
filed_all id ss i b end h f = sym (ap (λ xs. filed id xs b) (drop_all i ss h)) ∙ f
