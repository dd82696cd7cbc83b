-- The table of slips against the slips that are out. Assumes nothing.
--     Table M k look b       b has the slips of M and no others, numbered below k, each with the id that `look` has for its order
--     filing                 filing slips numbered from k on
--     settling               freeing the place of one
--     table_low              the slips are numbered below k
use Rattle.std.proofs.Common.{◌≡◌, ℕ, suc, ◌+◌, ◌<◌, ◌≤◌, ◌≢◌, ◌⊎◌, List, [], ◌∷◌, length, set, sym, refl, ap, ◌∙◌, subst, inl, inr, arith, length-set, get_or-set_other, get_or-set_same}
use Rattle.std.specs.List.{ContainsAt as Has, AllByRecursion}
use Rattle.values.specs.declared.reports.Slip.{Slip}
use Rattle.rules.specs.declared.Sent.{Sent}
use Rattle.rules.specs.Slips.{no_sent, sent_at, OutThere, vacancies, file, filed}
use Rattle.rules.specs.Law.{Consecutive}
use Rattle.law.proofs.Seats.{sent_cases, out_within, as_sent, file_is, fewer_vacant}
use Rattle.law.proofs.Outs.{has_cons, has_tail, has_cases, has_none}

pub record Table (M : Slip → Type 0) (k : ℕ) (look : ℕ → ℕ) (b : List Sent) : Type 0 where
  pub sent : (j : ℕ) → OutThere (sent_at b j) → M (sent_at b j).slip
  pub filed : (x : Slip) → M x → (0 < x.size) × ((j : ℕ) × ((sent_at b j).slip ≡ x))
  pub ids : (j : ℕ) → OutThere (sent_at b j) → (sent_at b j).id ≡ look (sent_at b j).slip.arrival
  pub apart : (i j : ℕ) → OutThere (sent_at b i) → OutThere (sent_at b j) → (sent_at b i).slip.number ≡ (sent_at b j).slip.number → i ≡ j
  pub vacant : (j : ℕ) → (sent_at b j).slip.size ≡ 0 → sent_at b j ≡ no_sent
  pub below : (j : ℕ) → OutThere (sent_at b j) → (sent_at b j).slip.number < k

pub table_same : (M N : Slip → Type 0) (k : ℕ) (look : ℕ → ℕ) (b : List Sent) → ((x : Slip) → M x → N x) → ((x : Slip) → N x → M x) → Table M k look b → Table N k look b
table_same M N k look b f g t = record {
  sent = λ j m. f _ (t.sent j m);
  filed = λ x m. t.filed x (g x m);
  ids = t.ids;
  apart = t.apart;
  vacant = t.vacant;
  below = t.below;
}

-- ---- one slip more
module _ (M : Slip → Type 0) (look : ℕ → ℕ) (b : List Sent) (id : ℕ) (s : Slip) (i : ℕ) (in' : i < length b) (was : (sent_at b i).slip.size ≡ 0) (pos : 0 < s.size) (t : Table M s.number look b) (named : id ≡ look s.arrival) where
  abbrev c : List Sent
  c = set b i (as_sent id s)

  at_i : sent_at c i ≡ as_sent id s
  at_i = get_or-set_same b i (as_sent id s) no_sent in'

  not_i : (j : ℕ) → OutThere (sent_at b j) → j ≢ i
  not_i j m e = omega (arith, m, was, ap (λ k. (sent_at b k).slip.size) e)

  abbrev Whence : ℕ → Type 0
  Whence j = ((j ≡ i) × (sent_at c j ≡ as_sent id s)) ⊎ (sent_at c j ≡ sent_at b j)

  whence : (j : ℕ) → Whence j
  whence = sent_cases b i (as_sent id s)

  old_low : (j : ℕ) → OutThere (sent_at c j) → sent_at c j ≡ sent_at b j → (sent_at c j).slip.number < s.number
  old_low j m e = subst (λ x. x.slip.number < s.number) (sym e) (t.below j (subst OutThere e m))

  pub table_more : Table (λ x. M x ⊎ (s ≡ x)) (suc s.number) look c
  table_more = record {
    sent = λ j m. elim (whence j) [ inl y ↦ inr (sym (ap (λ x. x.slip) y.1)) | inr y ↦ inl (subst (λ x. M x.slip) (sym y) (t.sent j (subst OutThere y m))) ];
    filed = λ x m. elim m [
      | inl y ↦
          let f = t.filed x y in
          let n : f.1.0 ≢ i = not_i f.1.0 (subst (λ z. 0 < z.size) (sym f.1.1) f.0) in
          (f.0, (f.1.0, ap (λ z. z.slip) (get_or-set_other b i f.1.0 (as_sent id s) no_sent n) ∙ f.1.1))
      | inr y ↦ (subst (λ z. 0 < z.size) y pos, (i, ap (λ z. z.slip) at_i ∙ y))
    ];
    ids = λ j m. elim (whence j) [ inl y ↦ subst (λ x. x.id ≡ look x.slip.arrival) (sym y.1) named | inr y ↦ subst (λ x. x.id ≡ look x.slip.arrival) (sym y) (t.ids j (subst OutThere y m)) ];
    apart = λ j k m n e. apart j k m n e (whence j) (whence k);
    vacant = λ j m. elim (whence j) [
      | inl y ↦ absurd (omega (arith, m, pos, ap (λ x. x.slip.size) y.1))
      | inr y ↦ y ∙ t.vacant j (ap (λ x. x.slip.size) (sym y) ∙ m)
    ];
    below = λ j m. elim (whence j) [ inl y ↦ omega (arith, ap (λ x. x.slip.number) y.1) | inr y ↦ omega (arith, old_low j m y) ];
  }
    where
      apart : (j k : ℕ) → OutThere (sent_at c j) → OutThere (sent_at c k) → (sent_at c j).slip.number ≡ (sent_at c k).slip.number → Whence j → Whence k → j ≡ k
      apart j k m n e (inl x) (inl y) = x.0 ∙ sym y.0
      apart j k m n e (inl x) (inr y) = absurd (omega (arith, e, old_low k n y, ap (λ z. z.slip.number) x.1))
      apart j k m n e (inr x) (inl y) = absurd (omega (arith, e, old_low j m x, ap (λ z. z.slip.number) y.1))
      apart j k m n e (inr x) (inr y) = t.apart j k (subst OutThere x m) (subst OutThere y n) (ap (λ z. z.slip.number) (sym x) ∙ e ∙ ap (λ z. z.slip.number) y)

-- ---- all the slips of an order
pub length_filed : (id : ℕ) (ss : List Slip) (b : List Sent) → length ss ≤ vacancies b → AllByRecursion (λ x. 0 < x.size) ss → length (filed id ss b) ≡ length b
unfolding filed
length_filed id [] b room pos = refl
length_filed id (s ∷ ss) b room pos =
    let p = file_is id s b (omega arith) in
    length_filed id ss (file id s b) (omega (arith, room, fewer_vacant id s b p.place p.within p.was pos.0, ap vacancies p.is)) pos.1 ∙ ap length p.is ∙ length-set b p.place (as_sent id s)

pub filing : (M : Slip → Type 0) (k : ℕ) (look : ℕ → ℕ) (id : ℕ) (ss : List Slip) (b : List Sent) → Consecutive k ss → AllByRecursion (λ x. (0 < x.size) × (id ≡ look x.arrival)) ss → length ss ≤ vacancies b → Table M k look b → Table (λ x. M x ⊎ Has ss x) (k + length ss) look (filed id ss b)
unfolding filed
filing M k look id [] b order each room t =
    subst (λ n. Table (λ x. M x ⊎ Has [] x) n look b) (omega arith) (table_same M (λ x. M x ⊎ Has [] x) k look b (λ x m. inl m) (λ x m. elim m [ inl y ↦ y | inr y ↦ absurd (has_none x y) ]) t)
filing M k look id (s ∷ ss) b order each room t =
    let p = file_is id s b (omega arith) in
    let more : Table (λ x. M x ⊎ (s ≡ x)) (suc s.number) look (set b p.place (as_sent id s)) =
    table_more M look b id s p.place p.within p.was each.0.0 (subst (λ n. Table M n look b) (sym order.0) t) each.0.1
    in
    let next : Table (λ x. M x ⊎ (s ≡ x)) (suc k) look (file id s b) = rw (p.is, ← order.0) more in
    let rest = filing (λ x. M x ⊎ (s ≡ x)) (suc k) look id ss (file id s b) order.1 each.1 (omega (arith, room, fewer_vacant id s b p.place p.within p.was each.0.0, ap vacancies p.is)) next in
    subst (λ n. Table (λ x. M x ⊎ Has (s ∷ ss) x) n look (filed id ss (file id s b))) (omega arith)
    (table_same (λ x. (M x ⊎ (s ≡ x)) ⊎ Has ss x) (λ x. M x ⊎ Has (s ∷ ss) x) (suc k + length ss) look (filed id ss (file id s b)) to from rest)
  where
    to : (x : Slip) → (M x ⊎ (s ≡ x)) ⊎ Has ss x → M x ⊎ Has (s ∷ ss) x
    to x (inl (inl m)) = inl m
    to x (inl (inr e)) = inr (subst (Has (s ∷ ss)) e (has_cons s ss))
    to x (inr h) = inr (has_tail s ss x h)

    from : (x : Slip) → M x ⊎ Has (s ∷ ss) x → (M x ⊎ (s ≡ x)) ⊎ Has ss x
    from x (inl m) = inl (inl m)
    from x (inr h) = elim (has_cases s ss x h) [ inl e ↦ inl (inr e) | inr k ↦ inr k ]

-- ---- one slip less
pub settling : (M : Slip → Type 0) (k : ℕ) (look : ℕ → ℕ) (b : List Sent) (i : ℕ) → OutThere (sent_at b i) → Table M k look b → Table (λ x. M x × (x.number ≢ (sent_at b i).slip.number)) k look (set b i no_sent)
settling M k look b i live t = record {
  sent = λ j m. let y = kept j m in
      subst (λ x. M x.slip × (x.slip.number ≢ n)) (sym y.1) (t.sent j y.2, λ z. y.0 (t.apart j i y.2 live z));
  filed = λ x m.
      let f = t.filed x m.0 in
      let ne : f.1.0 ≢ i = λ z. m.1 (ap (λ y. y.number) (sym f.1.1) ∙ ap (λ j. (sent_at b j).slip.number) z) in
      (f.0, (f.1.0, ap (λ z. z.slip) (get_or-set_other b i f.1.0 no_sent no_sent ne) ∙ f.1.1));
  ids = λ j m. let y = kept j m in subst (λ x. x.id ≡ look x.slip.arrival) (sym y.1) (t.ids j y.2);
  apart = λ j l m o e. let y = kept j m in let z = kept l o in
      t.apart j l y.2 z.2 (ap (λ w. w.slip.number) (sym y.1) ∙ e ∙ ap (λ w. w.slip.number) z.1);
  vacant = λ j m. elim (sent_cases b i no_sent j) [ inl y ↦ y.1 | inr y ↦ y ∙ t.vacant j (ap (λ x. x.slip.size) (sym y) ∙ m) ];
  below = λ j m. let y = kept j m in subst (λ x. x.slip.number < k) (sym y.1) (t.below j y.2);
}
  where
    n : ℕ
    n = (sent_at b i).slip.number

    kept : (j : ℕ) → OutThere (sent_at (set b i no_sent) j) → (j ≢ i) × (sent_at (set b i no_sent) j ≡ sent_at b j) × OutThere (sent_at b j)
    kept j m = elim (sent_cases b i no_sent j) [
      | inl y ↦ let z : 0 < 0 = subst OutThere y.1 m in absurd (omega arith)
      | inr y ↦ (
        λ e. let z : 0 < 0 = subst OutThere (ap (sent_at (set b i no_sent)) e ∙ get_or-set_same b i no_sent no_sent (out_within b i live)) m in omega arith,
        y,
        subst OutThere y m,
      )
    ]

-- ---- other words for the same table
pub table_relook : (M : Slip → Type 0) (k : ℕ) (look other : ℕ → ℕ) (b : List Sent) → ((x : Slip) → M x → look x.arrival ≡ other x.arrival) → Table M k look b → Table M k other b
table_relook M k look other b same t = record {
  sent = t.sent;
  filed = t.filed;
  ids = λ j m. t.ids j m ∙ same _ (t.sent j m);
  apart = t.apart;
  vacant = t.vacant;
  below = t.below;
}

pub table_low : (M : Slip → Type 0) (k : ℕ) (look : ℕ → ℕ) (b : List Sent) → Table M k look b → (x : Slip) → M x → x.number < k
table_low M k look b t x m =
    let f = t.filed x m in
    subst (λ y. y.number < k) f.1.1 (t.below f.1.0 (subst (λ y. 0 < y.size) (sym f.1.1) f.0))
