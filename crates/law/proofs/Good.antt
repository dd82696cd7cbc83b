-- What every run keeps, as one invariant, and what it says. Assumes nothing.
--     SlipsGood look L n a b     the table b has the slips of L, numbered up to n, of orders up to a
--     BookGood e look n b        the book b is in order under the away best e, with orders up to n
--     Good R h s                  the state s is what the history h says
--     good_lawful, good_kept      what follows
--     here_same                   the best displayed prices, by the book and by the history
use Rattle.std.proofs.Common.{◌≡◌, ℕ, suc, ◌+◌, ◌<◌, ◌≤◌, Bool, true, false, cond, ◌&&◌, eqb, ltb, List, [], ◌∷◌, length, sym, refl, ap, ◌∙◌, subst, ap₂, subst₂, inl, inr, arith}
use Rattle.std.proofs.lemmas.Bool.{eqb-true, eq-eqb, cases_lt, ltb-true, cond_both, lt-ltb}
use Rattle.std.proofs.lemmas.List.Sums.{sum_by-cons, get_or-le-sum_by}
use Rattle.std.proofs.ByRecursion.{All-weaker, all_has_itself}
use Rattle.std.specs.List.{ContainsAt as Has, AllByRecursion}
use Rattle.values.specs.declared.terms.Side.{Side}
use Rattle.values.specs.declared.terms.Side.TheVariants.{Buy, Sell}
use Rattle.values.specs.declared.reports.Slip.{Slip}
use Rattle.rules.specs.declared.Terms.{Terms}
use Rattle.rules.specs.declared.Order.{Order}
use Rattle.rules.specs.declared.Bests.{Bests}
use Rattle.rules.specs.declared.Sent.{Sent}
use Rattle.rules.specs.Sides.{flip, same_side, Ok, Past, facing}
use Rattle.rules.specs.Book.{free, at, Live, side_of, prices_of, shown, touch, here}
use Rattle.rules.specs.Slips.{sent_at}
use Rattle.rules.specs.Sizes.{part, resting}
use Rattle.rules.specs.Routing.{bests}
use Rattle.rules.specs.States.{State}
use Rattle.rules.specs.Steps.{Event}
use Rattle.rules.specs.Histories.{opened_in, told_in, best, accepted, numbered_in, out_in, gone, price_in, shown_in, touch_in, here_in, entry}
use Rattle.rules.specs.Law.{Within, Fairly, Counted, Answered, Stated, Roomy, Rests, Lawful, Kept}
use Rattle.trading_laws.specs.Books.{Fits, Holds, Settled, Clear, Distinct, Numbered, Clean}
use Rattle.trading_laws.proofs.Slots.{live_within}
use Rattle.trading_laws.proofs.Touch.{tops_same}
use Rattle.law.proofs.Outs.{Unique}
use Rattle.law.proofs.Filing.{Table}

-- ---- the invariant
pub record SlipsGood (look : ℕ → Terms) (L : List Slip) (n a : ℕ) (b : List Sent) : Type 0 where
  pub table : Table (Has L) (suc n) (λ x. (look x).id) b
  pub seats : length b ≡ 64
  pub unique : Unique L
  pub arrived : AllByRecursion (λ x. x.arrival ≤ a) L

pub record BookGood (e : Bests) (look : ℕ → Terms) (n : ℕ) (b : List Order) : Type 0 where
  pub settled : Holds (Settled e look) b
  pub clear : Clear b
  pub distinct : Distinct b
  pub numbered : Numbered n b
  pub clean : Clean b
  pub places : length b ≡ 64

pub record Good (R : ℕ → Bool) (h : List Event) (s : State) : Type 0 where
  pub opened : s.opened ≡ opened_in h
  pub quotes : s.quotes ≡ told_in h
  pub fifteen : length s.quotes ≡ 15
  pub arrivals : s.arrivals ≡ accepted h
  pub numbers : s.numbered ≡ numbered_in h
  pub book : BookGood (bests s.quotes) (entry R h) s.arrivals s.orders
  pub seated : SlipsGood (entry R h) (out_in h) s.numbered s.arrivals s.sent
  pub sizes : (a : ℕ) → (entry R h a).size ≡ gone a h + resting a s.orders
  pub prices : (j : ℕ) → Live (at s.orders j) → price_in (at s.orders j).arrival h ≡ prices_of (at s.orders j)
  -- an order that is yet to come was not booked
  pub unheard : (a : ℕ) → s.arrivals < a → price_in a h ≡ prices_of free
  pub fills : Fairly R h
  pub stated : Stated R h
  pub room : AllByRecursion Roomy h
  pub counted : Counted h
  pub answered : Answered h

between : (s : Side) (x y p : ℕ) → 0 < x → 0 < y → Ok s x p → Ok (flip s) y p → Past s x y → ⊥
between Buy x y p i j f g h = grind arith
between Sell x y p i j f g h = grind arith

-- two settled orders that are apart have no price in common
no_price : (e : Bests) (look : ℕ → Terms) (x y : Order) (p : ℕ) → Settled e look x → Settled e look y → side_of y ≡ flip (side_of x) → Past (side_of x) x.booked y.booked → Fits e x p → Fits e y p → ⊥
no_price e look x y p sx sy o h f g =
    between (side_of x) x.booked y.booked p sx.held.some sy.held.some (sx.tight p f) (subst (λ d. Ok d y.booked p) o (sy.tight p g)) h

-- what rests of a number stands in some place
some_place : (a : ℕ) (b : List Order) → 0 < resting a b → (j : ℕ) × Live (at b j) × ((at b j).arrival ≡ a)
some_place a [] m = absurd (omega arith)
some_place a (x ∷ b) m = elim (cases_lt 0 (part a x)) [ inl y ↦ (0, (mine y).0, (mine y).1) | inr y ↦ let r = some_place a b (omega (arith, sum_by-cons (part a) x b, m, y)) in (suc r.0, r.1, r.2) ]
  where
    mine : 0 < part a x → Live x × (x.arrival ≡ a)
    mine = cond_both (eqb x.arrival a) x.remaining 0 (λ n. 0 < n → Live x × (x.arrival ≡ a)) (λ e k. (k, eqb-true x.arrival a e)) (λ _ k. absurd (omega arith))

module _ (R : ℕ → Bool) (h : List Event) (s : State) (g : Good R h s) where
  abbrev b : List Order
  b = s.orders

  env : bests s.quotes ≡ best h
  env = ap bests g.quotes

  there : (a : ℕ) → Rests R h a → (j : ℕ) × Live (at b j) × ((at b j).arrival ≡ a)
  there a m = some_place a b (omega (arith, m, g.sizes a))

  -- what is in a place rests by the history too
  here_rests : (j : ℕ) → Live (at b j) → (gone (at b j).arrival h + (at b j).remaining ≤ (entry R h (at b j).arrival).size)
  here_rests j m =
      let o = at b j in
      let mine : part o.arrival o ≡ o.remaining = rw (eq-eqb o.arrival o.arrival refl) refl in
      omega (arith, m, g.sizes o.arrival, mine, get_or-le-sum_by (part o.arrival) b j free (live_within b j m))

  -- the order of the place is the one that was entered
  is_entry : (a : ℕ) (m : Rests R h a) → entry R h a ≡ (at b (there a m).0).terms
  is_entry a m = let j = there a m in ap (entry R h) (sym j.2) ∙ (g.book.settled j.0 j.1).held.known

  is_priced : (a : ℕ) (m : Rests R h a) → price_in a h ≡ prices_of (at b (there a m).0)
  is_priced a m = let j = there a m in ap (λ x. price_in x h) (sym j.2) ∙ g.prices j.0 j.1

  pub good_lawful : Lawful R h
  good_lawful = record {
    fills = g.fills;
    unlocked = λ a m. let j = there a m in rw (is_entry a m, is_priced a m, ← env) (g.book.settled j.0 j.1).shown;
    uncrossed = λ u v p m n x y abo abb f i.
        let j = there u m in
        let k = there v n in
        let x' : side_of (at b j.0) ≡ Buy = ap (λ t. t.side) (sym (is_entry u m)) ∙ x in
        let y' : side_of (at b k.0) ≡ Sell = ap (λ t. t.side) (sym (is_entry v n)) ∙ y in
        let fx : Ok (side_of (at b j.0)) (facing (bests s.quotes) (side_of (at b j.0))) p = subst₂ (λ d w. Ok d (facing w d) p) (sym x') (sym env) abo in
        let fy : Ok (side_of (at b k.0)) (facing (bests s.quotes) (side_of (at b k.0))) p = subst₂ (λ d w. Ok d (facing w d) p) (sym y') (sym env) abb in
        let f' = subst (λ t. Within t p) (is_entry u m) f in
        let i' = subst (λ t. Within t p) (is_entry v n) i in
        let o = y' ∙ sym (ap flip x') in
        no_price (bests s.quotes) (entry R h) (at b j.0) (at b k.0) p (g.book.settled j.0 j.1) (g.book.settled k.0 k.1) o (g.book.clear j.0 k.0 j.1 k.1 o) (f'.0, f'.1, fx) (i'.0, i'.1, fy);
    bounded = λ a m. let j = there a m in let k = (g.book.settled j.0 j.1).held in rw (is_entry a m, is_priced a m, ← env) ((k.fits.0, k.fits.1), k.fits.2, k.some);
    within = λ a. omega (arith, g.sizes a);
    stated = g.stated;
    room = g.room;
    counted = g.counted;
    answered = g.answered;
  }

  pub good_kept : Kept R h s
  good_kept = record {
    sizes = g.sizes;
    there = there;
    rests = λ j m. omega (arith, m, here_rests j m);
    terms = λ j m. (g.book.settled j m).held.known;
    prices = g.prices;
    most = λ j m. omega (arith, here_rests j m, ap (λ t. t.size) (g.book.settled j m).held.known);
    behind = λ j m. (g.book.settled j m).behind;
    once = g.book.distinct;
    clean = g.book.clean;
    sent = g.seated.table.sent;
    filed = All-weaker (Has (out_in h)) (λ x. (j : ℕ) × ((sent_at s.sent j).slip ≡ x)) (λ x m. (g.seated.table.filed x m).1) (out_in h) (all_has_itself (out_in h));
    ids = g.seated.table.ids;
    apart = g.seated.table.apart;
    vacant = g.seated.table.vacant;
    places = (g.book.places, g.seated.seats);
    opened = g.opened;
    quotes = g.quotes;
    arrivals = g.arrivals;
    numbered = g.numbers;
  }

  -- ---- the best displayed prices
  -- a price displayed in the book, and in the history
  place_shown : (d : Side) (j : ℕ) → Live (at b j) → shown_in (entry R h) d h (at b j).arrival ≡ shown d (at b j)
  place_shown d j m =
      let o = at b j in
      let known = (g.book.settled j m).held.known in
      let more : gone o.arrival h < o.terms.size = omega (arith, m, here_rests j m, ap (λ t. t.size) known) in
      rw (known, g.prices j m, lt-ltb (gone o.arrival h) o.terms.size more, lt-ltb 0 o.remaining m) refl

  some_shown : (c k : Bool) (n : ℕ) → 0 < cond (c && k) n 0 → c ≡ true
  some_shown true k n m = refl
  some_shown false k n m = absurd (omega arith)

  to_history : (d : Side) (j : ℕ) → j < length b → 0 < shown d (at b j) → (a : ℕ) × (a < suc (accepted h)) × (shown_in (entry R h) d h a ≡ shown d (at b j))
  to_history d j m pos =
      let live = ltb-true 0 (at b j).remaining (some_shown (ltb 0 (at b j).remaining) (same_side d (side_of (at b j))) (at b j).displayed pos) in
      ((at b j).arrival, omega (arith, g.arrivals, g.book.numbered j live), place_shown d j live)

  to_book : (d : Side) (a : ℕ) → a < suc (accepted h) → 0 < shown_in (entry R h) d h a → (j : ℕ) × (j < length b) × (shown d (at b j) ≡ shown_in (entry R h) d h a)
  to_book d a m pos =
      let rests = ltb-true (gone a h) (entry R h a).size (some_shown (ltb (gone a h) (entry R h a).size) (same_side d (entry R h a).side) (price_in a h).displayed pos) in
      let j = there a rests in
      (j.0, live_within b j.0 j.1, sym (place_shown d j.0 j.1) ∙ ap (shown_in (entry R h) d h) j.2)

  touch_same : (d : Side) → touch d b ≡ touch_in (entry R h) d h
  touch_same d = tops_same d _ _ (length b) (suc (accepted h)) (to_history d) (to_book d)

  pub here_same : here b ≡ here_in (entry R h) h
  here_same = ap₂ (λ (x y : ℕ). let r : Bests = record { bid = x; offer = y } in r) (touch_same Buy) (touch_same Sell)
