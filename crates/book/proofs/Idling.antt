-- An idle order's turn changes nothing. Assumes nothing.
--     Seen i d            of the first i places: those that arrived after last and before d are idle; or all, where there is no d
--     idle_turn           the turn of an idle order leaves the book as it is, and is not reported
use Rattle.std.proofs.Common.{◌≡◌, ℕ, zero, suc, ◌+◌, ◌-◌, ◌<◌, ◌≤◌, Bool, true, false, not, ◌&&◌, eqb, ltb, leb, ◌⊎◌, List, [], ◌∷◌, ◌++◌, length, set, Some, None, Option, sym, refl, ap, ◌∙◌, subst, ap₂, inl, inr, add-one, arith, length-append}
use Rattle.std.proofs.lemmas.Bool.Decides.{nat_tests}
use Rattle.std.proofs.lemmas.List.{set-set, set-get_or}
use Rattle.std.proofs.lemmas.Bool.{cases_eq, cases_lt, and_parts, and_cases, not-false, both_ways, cond_both, cond-true, eqb-true, ltb-true, lt-ltb, lt-leb, ne_eqb, or_from, and_left, and_right}
use Rattle.values.specs.declared.terms.Side.{Side}
use Rattle.values.specs.declared.terms.Side.TheVariants.{Buy, Sell}
use Rattle.rules.specs.declared.Order.{Order}
use Rattle.rules.specs.declared.Prices.{Prices}
use Rattle.rules.specs.declared.Bests.{Bests}
use Rattle.rules.specs.Sides.{ok, Ok, past, flip, facing}
use Rattle.rules.specs.Book.{free, at, Live, live, side_of, prices_of, priced, with_rem, branch, pick}
use Rattle.rules.specs.Trading.{contra, fits, hit, trade}
use Rattle.rules.specs.Routing.{total, nowhere}
use Rattle.values.specs.declared.reports.Report.TheVariants.{Cancelled}
use Rattle.rules.specs.Resting.{Out, cause_of, settle, turn}
use Rattle.rules.specs.Quoting.{later, earlier}
use Rattle.trading_laws.proofs.Bounds.{true_fits}
use Rattle.trading_laws.proofs.Slots.{Hit, hits, branch_both, at_same, at_set, live_within, contra_parts, contra_from}
use Rattle.trading_laws.proofs.Trade.{Lower, trade_lowers}
use Rattle.trading_laws.proofs.Telling.{later_parts, later_from, Next}
use Rattle.trading_laws.proofs.Skipping.{next_is, Idle}
use Rattle.table.specs.declared.sides.Away.{Away}
use Rattle.table.specs.Away.{On}
use Rattle.table.specs.Places.{FreeFrom}
use Rattle.table.specs.Reach.{stretched, widened, reach}
use Rattle.table.proofs.Picks.{reach_more}
use Rattle.book.specs.Rests.{rest_on, booked_at, settle_on}
use Rattle.book.specs.declared.book.trading.resting.turns.Market.{Market}
use Rattle.book.specs.Idle.{Nearer, Bounds, are_of, stays_as, idle_on, idle_in, sooner, Due, NextDue}
use Rattle.book.proofs.Turning.{settle_is, kept}

-- ---- the search for the first that is due
-- the last number before d, or of all
abbrev pub EndsAt : Option ℕ → ℕ → Type 0
EndsAt None e = e ≡ 4294967295
EndsAt (Some d) e = e + 1 ≡ d

by_end : (n : ℕ) (d : Option ℕ) (e : ℕ) → n ≤ 4294967295 → EndsAt d e → leb n e ≡ sooner n d
by_end n None e h a = grind (arith, nat_tests)
by_end n (Some d) e h a = grind (arith, nat_tests)

module _ (m : Market) (last : ℕ) (old b : List Order) where
  -- of the places that are in P, those that arrived after last and before d are idle
  abbrev pub Before : (ℕ → Type 0) → Option ℕ → Type 0
  Before P None = (k : ℕ) → P k → later last (at b k) ≡ true → idle_in m old b k ≡ true
  Before P (Some d) = (last < d) × ((k : ℕ) → P k → later last (at b k) ≡ true → (at b k).arrival < d → idle_in m old b k ≡ true)

  abbrev pub Seen : ℕ → Option ℕ → Type 0
  Seen i d = Before (λ k. k < i) d

  abbrev pub due_at : Option ℕ → ℕ → Bool
  due_at d i = sooner (at b i).arrival d && (later last (at b i) && not (idle_in m old b i))

  -- the test, as it is made
  pub due_is : (d : Option ℕ) (e i : ℕ) (x : Bool) (before o : Order) → x ≡ (leb o.arrival e && (later last o && not (idle_on m before o))) → before ≡ at old i → o ≡ at b i → o.arrival ≤ 4294967295 → EndsAt d e → due_at d i ≡ x
  due_is d e i x before o h f g r a = rw (f, g, by_end (at b i).arrival d e (subst (λ t. t.arrival ≤ 4294967295) g r) a) at (sym h)

  idle_or_later : (i : ℕ) → (later last (at b i) && not (idle_in m old b i)) ≡ false → later last (at b i) ≡ true → idle_in m old b i ≡ true
  idle_or_later i h l = elim (and_cases (later last (at b i)) (not (idle_in m old b i)) h) [ inl y ↦ absurd (both_ways _ y l) | inr y ↦ not-false _ y ]

  pub seen_idle : (i : ℕ) (d : Option ℕ) → due_at d i ≡ false → Seen i d → Seen (i + 1) d
  seen_idle i None h s =
      λ k n l. elim (cases_eq k i) [
        | inl y ↦ subst (λ j. later last (at b j) ≡ true → idle_in m old b j ≡ true) (sym y) (idle_or_later i h) l
        | inr y ↦ s k (omega arith) l
      ]
  seen_idle i (Some d) h s = (
    s.0,
    λ k n l near. elim (cases_eq k i) [
      | inl y ↦ subst (λ j. later last (at b j) ≡ true → (at b j).arrival < d → idle_in m old b j ≡ true) (sym y) (own d h) l near
      | inr y ↦ s.1 k (omega arith) l near
    ],
  )
    where
      own : (d : ℕ) → due_at (Some d) i ≡ false → later last (at b i) ≡ true → (at b i).arrival < d → idle_in m old b i ≡ true
      own d h l near = elim (and_cases (ltb (at b i).arrival d) _ h) [ inl y ↦ absurd (both_ways _ y (lt-ltb (at b i).arrival d near)) | inr z ↦ idle_or_later i z l ]

  pub seen_due : (i : ℕ) (d : Option ℕ) → due_at d i ≡ true → Seen i d → Seen (i + 1) (Some (at b i).arrival)
  seen_due i d h s =
      let x = (at b i).arrival in
      let soon = and_parts (sooner x d) (later last (at b i) && not (idle_in m old b i)) h in
      let up : last < x = (later_parts last (at b i) (and_parts (later last (at b i)) (not (idle_in m old b i)) soon.1).0).1 in (
        up,
        λ k n l near. elim (cases_eq k i) [
          | inl y ↦ absurd (omega (arith, subst (λ j. (at b j).arrival < x) y near))
          | inr y ↦ earlier_idle d soon.0 s k (omega arith) l near
        ],
      )
    where
      earlier_idle : (d : Option ℕ) → sooner (at b i).arrival d ≡ true → Seen i d → (k : ℕ) → k < i → later last (at b k) ≡ true → (at b k).arrival < (at b i).arrival → idle_in m old b k ≡ true
      earlier_idle None f s k n l near = s k n l
      earlier_idle (Some d) f s k n l near = s.1 k n l (omega (arith, near, ltb-true (at b i).arrival d f))

  pub seen_more : {X : Type 0} (xs : List X) (x : X) (d : Option ℕ) → Seen (length xs + 1) d → Seen (length (xs ++ x ∷ [])) d
  seen_more xs x d s = rw (length-append xs (x ∷ [])) s

  -- the places from n on are free
  pub seen_all : (n : ℕ) (d : Option ℕ) → FreeFrom n b → Seen n d → Due m last old b d
  seen_all n None free_from s = λ k l. elim (cases_lt k n) [ inl y ↦ s k y l | inr y ↦ absurd (both_ways _ (ap (later last) (free_from k y)) l) ]
  seen_all n (Some d) free_from s = (s.0, λ k l near. elim (cases_lt k n) [ inl y ↦ s.1 k y l near | inr y ↦ absurd (both_ways _ (ap (later last) (free_from k y)) l) ])

  -- from the first that is due to the place of the next
  pub next_due : (d : ℕ) (o : Option ℕ) → Due m last old b (Some d) → o ≡ pick (later (d - 1)) earlier b (length b) → NextDue m last old b o
  next_due d (Some i) h e = (d - 1, omega (arith, h.0), λ j l near. h.1 j l (omega (arith, h.0, near)), e)
  next_due d None h e =
      let none = subst (Next (d - 1) b) (sym e) (next_is (d - 1) b) in
      λ j l. elim (cases_lt (d - 1) (at b j).arrival) [
        | inl y ↦ let lives = (later_parts last (at b j) l).0 in absurd (both_ways _ (none j (live_within b j lives)) (later_from (d - 1) (at b j) lives y))
        | inr y ↦ h.1 j l (omega (arith, h.0, y))
      ]

-- ---- no price of the book is nearer than its reach
near_trans : (s : Side) (p q r : ℕ) → Nearer s p q → Nearer s q r → Nearer s p r
near_trans Buy p q r f g = omega arith
near_trans Sell p q r f g = omega arith

near_self : (s : Side) (p : ℕ) → Nearer s p p
near_self Buy p = omega arith
near_self Sell p = omega arith

-- one price more reaches as far as before, and as far as that price
stretches : (s x : Side) (p : ℕ) (r : Bests) → Nearer s (facing (stretched x p r) s) (facing r s)
stretches Buy Buy p r = omega arith
stretches Buy Sell p r = omega arith
stretches Sell Buy p r = omega arith
stretches Sell Sell p r = omega arith

stretches_to : (s : Side) (p : ℕ) (r : Bests) → Nearer s (facing (stretched (flip s) p r) s) p
stretches_to Buy p r = omega arith
stretches_to Sell p r = omega arith

wider : (s : Side) (o : Order) (r : Bests) → Nearer s (facing (widened o r) s) (facing r s)
wider s o r = cond_both (live o) (stretched (side_of o) o.booked r) r (λ x. Nearer s (facing x s) (facing r s)) (λ _. stretches s (side_of o) o.booked r) (λ _. near_self s (facing r s))

wider_to : (s : Side) (o : Order) (r : Bests) → contra s o ≡ true → Nearer s (facing (widened o r) s) o.booked
wider_to s o r h = let p = contra_parts s o h in rw (lt-ltb 0 o.remaining p.0, p.1) (stretches_to s o.booked r)

reaches : (s : Side) (b : List Order) (k j : ℕ) → j < k → contra s (at b j) ≡ true → Nearer s (facing (reach b k) s) (at b j).booked
reaches s b zero j h l = absurd (omega arith)
reaches s b (suc k) j h l =
    rw (← add-one) (rw reach_more (elim (cases_eq j k) [
      | inl y ↦ subst (λ i. Nearer s (facing (widened (at b k) (reach b k)) s) (at b i).booked) (sym y) (wider_to s (at b k) (reach b k) (subst (λ i. contra s (at b i) ≡ true) y l))
      | inr y ↦ near_trans s _ _ _ (wider s (at b k) (reach b k)) (reaches s b k j (omega arith) l)
    ]))

pub bounds_reach : (b : List Order) (r : Bests) → r ≡ reach b (length b) → Bounds r b
bounds_reach b r e s j h = rw e (reaches s b (length b) j (live_within b j (contra_parts s (at b j) h).0) h)

pub bounds_free : (r : Bests) (b c : List Order) (i : ℕ) → c ≡ set b i free → Bounds r b → Bounds r c
bounds_free r b c i e h = rw e (λ s j. at_set (λ o. contra s o ≡ true → Nearer s (facing r s) o.booked) b i free j (λ y. absurd (both_ways _ refl y)) (h s j))

-- an order that is lowered keeps its price
bounds_low : (r : Bests) (b c : List Order) → Lower b c → Bounds r b → Bounds r c
bounds_low r b c low h s j y =
    let p = contra_parts s (at c j) y in
    let same = (low j).same p.0 in
    let price : (at c j).booked ≡ (at b j).booked = ap (λ o. o.booked) same in
    rw price (h s j (contra_from s (at b j) ((low j).live p.0) (sym (ap side_of same) ∙ p.1)))

-- the order that comes to rest reaches as far as its price
settles : (a : Away) (i : ℕ) (old t : Order) (b : List Order) → ((settle_on a i old t b).book ≡ b) ⊎ ((v : Order) × ((settle_on a i old t b).book ≡ set b i v))
settles a i old t b =
    cond_both (live t) _ _ P (λ _. branch_both (rest_on a t) _ _ P (λ _. inl refl) (λ p _. inr (priced t p.booked p.displayed, refl))) (λ _. inl refl)
  where
    P : Out → Type 0
    P r = (r.book ≡ b) ⊎ ((v : Order) × (r.book ≡ set b i v))

bounds_wider : (r : Bests) (o : Order) (b : List Order) → Bounds r b → Bounds (widened o r) b
bounds_wider r o b h s j y = near_trans s _ _ _ (wider s o r) (h s j y)

pub bounds_turn : (a : Away) (r : Bests) (e : Bests) (n i : ℕ) (old t left : Order) (b c b₁ b₂ : List Order) → Bounds r b → c ≡ set b i free → b₁ ≡ (trade n e t c).book → b₂ ≡ (settle_on a i old left b₁).book → i < length b₁ → Bounds (widened (at b₂ i) r) b₂
bounds_turn a r e n i old t left b c b₁ b₂ h f g k within =
    let low : Bounds r b₁ = rw g (bounds_low r c (trade n e t c).book (trade_lowers e n t c) (bounds_free r b c i f h)) in
    elim (settles a i old left b₁) [
      | inl y ↦ bounds_wider r (at b₂ i) b₂ (rw (k ∙ y) low)
      | inr y ↦
          let v = y.0 in
          let is : b₂ ≡ set b₁ i v = k ∙ y.1 in
          let own : at b₂ i ≡ v = ap (λ x. at x i) is ∙ at_same b₁ i v within in
          rw own (rw is (λ s j. at_set (λ o. contra s o ≡ true → Nearer s (facing (widened v r) s) o.booked) b₁ i v j (wider_to s v r) (bounds_wider r v b₁ low s j)))
    ]

-- a nearer price suits as well
ok_near : (s : Side) (c p q : ℕ) → Nearer s p q → Ok s c q → Ok s c p
ok_near Buy c p q h (inl z) = inl z
ok_near Buy c p q h (inr z) = inr (omega arith)
ok_near Sell c p q h z = omega arith

-- ---- a taker that no price suits
no_hit : (e r : Bests) (t : Order) (b : List Order) → Bounds r b → fits e t (facing r (side_of t)) ≡ false → hit e t b ≡ None
no_hit e r t b bounds h = go (hit e t b) (hits e t b)
  where
    go : (o : Option ℕ) → Hit e t b o → o ≡ None
    go None f = refl
    go (Some m) f =
        let s = side_of t in
        let p = facing r s in
        let near : Nearer s p (at b m).booked = bounds s m (contra_from s (at b m) f.1 f.2) in
        absurd (both_ways _ h (true_fits e t p (ok_near s _ p _ near f.3.0, ok_near s _ p _ near f.3.1, ok_near s _ p _ near f.3.2)))

-- it does not trade
pub no_trade : (e r : Bests) (n : ℕ) (t : Order) (b : List Order) → Bounds r b → fits e t (facing r (side_of t)) ≡ false → trade n e t b ≡ record { taker = t; book = b; out = [] }
unfolding trade
no_trade e r zero t b bounds h = refl
no_trade e r (suc n) t b bounds h = rw (no_hit e r t b bounds h) refl

-- ---- the turn of an idle order
-- what is past a price that bounds an order does not suit it
not_past : (s : Side) (c p : ℕ) → 0 < c → past s c p ≡ true → ok s c p ≡ false
not_past Buy c p z h = or_from (eqb c 0) (leb p c) (ne_eqb c 0 (λ e. omega (arith, e, z))) (lt-leb p c (ltb-true c p h))
not_past Sell c p z h = lt-leb c p (ltb-true p c h)

-- where an order rests, a limit of it or the away best bounds it
abbrev Bounded : Away → Order → Option Prices → Type 0
Bounded a t None = Unit {0}
Bounded a t (Some q) = let w = facing a.best (side_of t) in ((0 < w) × (q.booked ≡ w)) ⊎ ((0 < t.terms.limit) × (q.booked ≡ t.terms.limit))

bounded : (a : Away) (t : Order) → Bounded a t (rest_on a t)
bounded a t =
    let s = side_of t in
    let w = facing a.best s in
    let limit = t.terms.limit in
    cond_both (ltb 0 w && (ok s limit w && ok s t.terms.protection w)) _ _ (Bounded a t) (λ y. inl (ltb-true 0 w (and_parts (ltb 0 w) _ y).0, refl))
    (λ _. cond_both (ltb 0 limit && ok s t.terms.protection limit) _ _ (Bounded a t) (λ y. inr (ltb-true 0 limit (and_parts (ltb 0 limit) _ y).0, refl)) (λ _. tt))

-- no price past that at which it rests suits it
too_far : (a : Away) (t : Order) (p : ℕ) (q : Prices) → rest_on a t ≡ Some q → past (side_of t) q.booked p ≡ true → fits a.best t p ≡ false
too_far a t p q e h =
    let s = side_of t in
    let w = facing a.best s in
    let limit = t.terms.limit in
    elim (subst (Bounded a t) e (bounded a t)) [
      | inl y ↦ and_right (ok s limit p && ok s t.terms.protection p) (ok s w p) (not_past s w p y.0 (subst (λ c. past s c p ≡ true) y.1 h))
      | inr y ↦ and_left (ok s limit p && ok s t.terms.protection p) (ok s w p) (and_left (ok s limit p) (ok s t.terms.protection p) (not_past s limit p y.0 (subst (λ c. past s c p ≡ true) y.1 h)))
    ]

rests_there : (o : Option Prices) (t : Order) → are_of o t ≡ true → o ≡ Some (prices_of t)
rests_there None t h = absurd (both_ways _ refl h)
rests_there (Some q) t h =
    let y = and_parts (eqb q.booked t.booked) (eqb q.displayed t.displayed) h in
    ap₂ (λ (x d : ℕ). let p : Prices = record { booked = x; displayed = d } in Some p) (eqb-true q.booked t.booked y.0) (eqb-true q.displayed t.displayed y.1)

module _ (R : ℕ → Bool) (m : Market) (on : On R m.away) (old b : List Order) (bounds : Bounds m.reach b) where
  -- it comes to rest where it was
  same_rest : (i : ℕ) (before t : Order) (c : List Order) → live t ≡ true → rest_on m.away t ≡ Some (prices_of t) → (eqb before.booked t.booked && eqb before.displayed t.displayed) ≡ true → settle_on m.away i before t c ≡ record { book = set c i t; out = [] }
  same_rest i before t c l e h = cond-true (live t) _ _ l ∙ ap (λ o. branch o (record { book = c; out = Cancelled t.arrival t.remaining (cause_of t.terms) ∷ [] }) (booked_at i before t c)) e ∙ rw h refl

  pub idle_turn : (i : ℕ) → Live (at b i) → idle_in m old b i ≡ true → Idle m.away.best R old b i
  unfolding turn
  idle_turn i l h =
      let a = m.away in
      let r = m.reach in
      let t = at b i in
      let s = side_of t in
      let c = set b i free in
      let e = a.best in
      let before = at old i in
      let parts = and_parts (eqb before.booked t.booked && eqb before.displayed t.displayed) (past s t.booked (facing r s) && stays_as s a t) h in
      let far = and_parts (past s t.booked (facing r s)) (stays_as s a t) parts.1 in
      let there = rests_there (rest_on a t) t far.1 in
      let none = no_trade e r (length c) t c (bounds_free r b c i refl bounds) (too_far a t (facing r s) (prices_of t) there far.0) in
      let d = trade (length c) e t c in
      let left : with_rem d.taker (d.taker.remaining - total (nowhere d.taker)) ≡ t = sym (kept d.taker) ∙ ap (λ x. x.taker) none in
      let came : settle e R i before (with_rem d.taker (d.taker.remaining - total (nowhere d.taker))) d.book ≡ record { book = set c i t; out = [] } =
      rw (left, ap (λ x. x.book) none) (sym (settle_is R a on i before t c) ∙ same_rest i before t c (lt-ltb 0 t.remaining l) there parts.0)
      in
      (ap (λ x. x.book) came ∙ set-set b i free t ∙ set-get_or b i free, rw (ap (λ x. x.out) none, ap (λ (x : Out). x.out) came) refl)
