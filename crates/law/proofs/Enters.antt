-- An accepted order keeps a good state good. Assumes nothing.
--     slips_entered      its slips are filed beside those that are out
--     after_entered      the whole
use Rattle.std.proofs.Common.{◌≡◌, ℕ, suc, ◌+◌, ◌<◌, ◌≤◌, Bool, true, false, cond, eqb, ◌⊎◌, List, [], ◌∷◌, ◌++◌, length, None, sym, refl, ap, ◌∙◌, subst, ap₂, inl, inr, arith}
use Rattle.std.proofs.lemmas.Bool.{cond_both, eqb-true, eqb-false, eq-eqb, ne_eqb}
use Rattle.std.proofs.lemmas.List.Sums.{sum_by-append}
use Rattle.std.proofs.ByRecursion.{All-append, All-weaker, all-has, all_has_itself, has_append_left, has_append_right}
use Rattle.std.specs.List.{ContainsAt as Has, AllByRecursion}
use Rattle.values.specs.declared.calls.OrderFields.{OrderFields}
use Rattle.values.specs.declared.calls.Call.TheVariants as call
use Rattle.values.specs.declared.reports.Slip.{Slip}
use Rattle.checks.specs.declared.checked.CheckedOrder.{CheckedOrder}
use Rattle.checks.specs.Checked.{routable}
use Rattle.rules.specs.declared.Room.{Room}
use Rattle.rules.specs.declared.Terms.{Terms}
use Rattle.rules.specs.declared.Order.{Order}
use Rattle.rules.specs.declared.Bests.{Bests}
use Rattle.rules.specs.declared.Sent.{Sent}
use Rattle.rules.specs.Book.{no_terms, free, at, here}
use Rattle.rules.specs.Sizes.{share, slip_part, slipped, resting}
use Rattle.rules.specs.Monitor.{admit}
use Rattle.rules.specs.Routing.{bests, total, routing}
use Rattle.rules.specs.Resting.{Turned, enter}
use Rattle.rules.specs.Slips.{vacancies, filed}
use Rattle.rules.specs.States.{State, terms_now, entering}
use Rattle.rules.specs.Faults.{refusal}
use Rattle.rules.specs.Steps.{Event, order_in}
use Rattle.rules.specs.Steps.Event.{did, refused}
use Rattle.rules.specs.Histories.{best, accepted, out_in, gone, price_in, here_in, entry}
use Rattle.rules.specs.Law.{Fair, Consecutive}
use Rattle.rules.proofs.Refusals.{RoomFor, order_rows, order_room}
use Rattle.trading_laws.specs.Books.{Holds, Settled}
use Rattle.trading_laws.specs.Turns.{Entered}
use Rattle.trading_laws.proofs.Entry.{enter_entered}
use Rattle.trading_laws.proofs.Reports.{states_same}
use Rattle.trading_laws.proofs.Room.{enter_room}
use Rattle.law.proofs.Outs.{has_append_cases, unique_more}
use Rattle.law.proofs.Filing.{Table, table_same, table_relook, table_low, filing, length_filed}
use Rattle.law.proofs.Sharing.{Shared, routing_shared, slipped_all}
use Rattle.law.proofs.Fields.{order_id}
use Rattle.law.proofs.Good.{SlipsGood, Good, here_same}

-- ---- the slips
pub slips_entered : (look other : ℕ → Terms) (L ss : List Slip) (n a id : ℕ) (b : List Sent) → ((x : ℕ) → x ≤ a → look x ≡ other x) → id ≡ (other (suc a)).id → Consecutive (suc n) ss → AllByRecursion (λ x. (0 < x.size) × (x.arrival ≡ suc a)) ss → length ss ≤ vacancies b → SlipsGood look L n a b → SlipsGood other (ss ++ L) (n + length ss) (suc a) (filed id ss b)
slips_entered look other L ss n a id b same mine order each room g =
    let ids : ℕ → ℕ = λ x. (other x).id in
    let t = table_relook (Has L) (suc n) (λ x. (look x).id) ids b (λ x m. ap (λ w. w.id) (same x.arrival (all-has (λ y. y.arrival ≤ a) L x g.arrived m))) g.table in
    let named : AllByRecursion (λ x. (0 < x.size) × (id ≡ ids x.arrival)) ss =
    All-weaker (λ x. (0 < x.size) × (x.arrival ≡ suc a)) (λ x. (0 < x.size) × (id ≡ ids x.arrival)) (λ x m. (m.0, mine ∙ ap ids (sym m.1))) ss each
    in
    let more = filing (Has L) (suc n) ids id ss b order named room t in
    let both = table_same (λ x. Has L x ⊎ Has ss x) (Has (ss ++ L)) (suc n + length ss) ids (filed id ss b) to from more in
    record {
      table = subst (λ k. Table (Has (ss ++ L)) k ids (filed id ss b)) (omega arith) both;
      seats = length_filed id ss b room (All-weaker (λ x. (0 < x.size) × (x.arrival ≡ suc a)) (λ x. 0 < x.size) (λ x m. m.0) ss each) ∙ g.seats;
      unique = unique_more (suc n) ss L order (All-weaker (Has L) (λ x. x.number < suc n) (table_low (Has L) (suc n) (λ x. (look x).id) b g.table) L (all_has_itself L)) g.unique;
      arrived = All-append (λ x. x.arrival ≤ suc a) ss L
          (All-weaker (λ x. (0 < x.size) × (x.arrival ≡ suc a)) (λ x. x.arrival ≤ suc a) (λ x m. omega (arith, m.1)) ss each)
          (All-weaker (λ x. x.arrival ≤ a) (λ x. x.arrival ≤ suc a) (λ x m. omega (arith, m)) L g.arrived);
    }
  where
    to : (x : Slip) → Has L x ⊎ Has ss x → Has (ss ++ L) x
    to x (inl m) = has_append_right ss L x m
    to x (inr m) = has_append_left ss L x m

    from : (x : Slip) → Has (ss ++ L) x → Has L x ⊎ Has ss x
    from x m = elim (has_append_cases ss L x m) [ inl y ↦ inr y | inr y ↦ inl y ]

-- ---- what is entered
-- a number that no order has yet
entry_fresh : (R : ℕ → Bool) (h : List Event) (a : ℕ) → accepted h < a → entry R h a ≡ no_terms
entry_fresh R [] a m = refl
entry_fresh R (did call.Open x rs ss ∷ h) a m = entry_fresh R h a m
entry_fresh R (did (call.Away y q) x rs ss ∷ h) a m = entry_fresh R h a m
entry_fresh R (did (call.Order f) x rs ss ∷ h) a m = cond_both (eqb (suc (accepted h)) a) _ (entry R h a) (λ t. t ≡ no_terms) (λ y. absurd (omega (arith, eqb-true (suc (accepted h)) a y))) (λ _. entry_fresh R h a (omega arith))
entry_fresh R (did (call.Cancel id) x rs ss ∷ h) a m = entry_fresh R h a m
entry_fresh R (did (call.Reply n f) x rs ss ∷ h) a m = entry_fresh R h a m
entry_fresh R (refused c x f ∷ h) a m = entry_fresh R h a m

admit_id : (R : ℕ → Bool) (e m : Bests) (o : CheckedOrder) → (admit R e m o).id ≡ o.id
unfolding admit
admit_id R e m o = refl

-- at most fifteen slips, for which there is room
room_for : (go : Bool) (n q v : ℕ) → n ≤ cond go q 0 → q ≡ 15 → (go ≡ true → 15 ≤ v) → (n ≤ 15) × (n ≤ v)
room_for true n q v few e room = (omega (arith, few, e), omega (arith, few, e, room refl))
room_for false n q v few e room = (omega (arith, few), omega (arith, few))

module _ (R : ℕ → Bool) (h : List Event) (s : State) (g : Good R h s) (f : OrderFields) (o : CheckedOrder) (m : Room) (i : ℕ) (fine : refusal R s (call.Order f) m ≡ None) (is : o ≡ order_in R f) (in' : i < length s.orders) (empty : at s.orders i ≡ free) where
  abbrev b : List Order
  b = s.orders

  abbrev e : Bests
  e = bests s.quotes

  abbrev send : Order → List Slip
  send = routing (routable o) s.quotes e s.numbered

  -- what the order is entered with, by the series
  abbrev t : Terms
  t = terms_now R s o

  -- and by the history
  abbrev t' : Terms
  t' = admit R (best h) (here_in (entry R h) h) (order_in R f)

  -- what each order was entered with, by the history that has this call too
  abbrev look : ℕ → Terms
  look n = cond (eqb (suc (accepted h)) n) t' (entry R h n)

  abbrev r : Turned
  r = enter e R send i (suc s.arrivals) t b

  same : t ≡ t'
  same = ap (admit R e (here b)) is ∙ ap₂ (λ w x. admit R w x (order_in R f)) (ap bests g.quotes) (here_same R h s g)

  known : look (suc s.arrivals) ≡ t
  known = rw (eq-eqb (suc (accepted h)) (suc s.arrivals) (omega (arith, g.arrivals))) (sym same)

  older : (n : ℕ) → n ≤ s.arrivals → look n ≡ entry R h n
  older n l = rw (ne_eqb (suc (accepted h)) n (λ z. omega (arith, z, l, g.arrivals))) refl

  -- the orders that rest are as settled as they were
  relooked : Holds (Settled e look) b
  relooked j l =
      let d = g.book.settled j l in
      record { held = record { known = older (at b j).arrival (g.book.numbered j l).1 ∙ d.held.known; fits = d.held.fits; some = d.held.some }; tight = d.tight; shown = d.shown; behind = d.behind }

  after : Entered e look send s.arrivals t b r
  after = enter_entered e R look send (λ x. (routing_shared (routable o) s.quotes e s.numbered x).all) i s.arrivals t b in' empty known relooked g.book.clear g.book.distinct g.book.numbered

  shared : (n : ℕ) × Shared (suc s.arrivals) (suc s.numbered) n (cond (routable o) (length s.quotes) 0) r.slips
  shared =
      let w = after.sent in
      (w.0, subst (Shared (suc s.arrivals) (suc s.numbered) w.0 (cond (routable o) (length s.quotes) 0)) (sym w.2) (routing_shared (routable o) s.quotes e s.numbered _))

  -- what the rows leave to it
  left : RoomFor s (order_in R f) m
  left = order_room s (order_in R f) m (order_rows R s f m fine)

  few : length r.out ≤ 128
  few = omega (arith, g.book.places, enter_room e R send i (suc s.arrivals) t b in' empty)

  room : (length r.slips ≤ 15) × (length r.slips ≤ vacancies s.sent)
  room = room_for (routable o) (length r.slips) (length s.quotes) (vacancies s.sent) shared.1.few g.fifteen
      (subst (λ x. routable x ≡ true → 15 ≤ vacancies s.sent) (sym is) left.vacant)

  announced_id : t.id ≡ f.id
  announced_id = admit_id R e (here b) o ∙ ap (λ x. x.id) is ∙ order_id R s f m fine

  mine : (n : ℕ) → suc (accepted h) ≡ n → share n (suc s.arrivals) t.size ≡ t.size
  mine n z = rw (eq-eqb (suc s.arrivals) n (omega (arith, z, g.arrivals))) refl

  others : (n k : ℕ) → (suc (accepted h) ≡ n → ⊥) → share n (suc s.arrivals) k ≡ 0
  others n k z = rw (ne_eqb (suc s.arrivals) n (λ y. z (omega (arith, y, g.arrivals)))) refl

  pub after_entered : Good R (did (call.Order f) m (entering R s i o).reports (entering R s i o).slips ∷ h) (entering R s i o).state
  after_entered = record {
    opened = g.opened;
    quotes = g.quotes;
    fifteen = g.fifteen;
    arrivals = ap suc g.arrivals;
    numbers = ap (λ x. x + length r.slips) g.numbers;
    book = record {
      settled = after.settled;
      clear = after.clear;
      distinct = after.distinct;
      numbered = after.numbered;
      clean = after.clean g.book.clean;
      places = after.long ∙ g.book.places;
    };
    seated = slips_entered (entry R h) look (out_in h) r.slips s.numbered s.arrivals o.id s.sent (λ n l. sym (older n l)) (sym (ap (λ x. x.id) known ∙ admit_id R e (here b) o)) shared.1.numbers shared.1.each room.1 g.seated;
    sizes = sizes;
    prices = after.shows (λ n. price_in n h) (g.unheard (suc s.arrivals) (omega arith)) g.prices;
    unheard = λ n l. after.quiet n (price_in n h) (λ z. omega (arith, z, l)) ∙ g.unheard n (omega arith);
    fills = (subst (λ w. AllByRecursion (Fair w look) r.out) (ap bests g.quotes) after.fair, g.fills);
    stated = (states_same (λ n. resting n r.book) _ r.out (λ n. omega (arith, sizes n)) after.stated, g.stated);
    room = ((few, room.0, omega (arith, few, left.reports), omega (arith, room.0, left.slips)), g.room);
    counted = (after.announces ∙ ap₂ (λ (x y : ℕ). (x, y) ∷ []) (ap suc g.arrivals) announced_id, subst (λ k. Consecutive (suc k) r.slips) g.numbers shared.1.numbers, g.counted);
    answered = (after.nothing_away, g.answered);
  }
    where
      h' : List Event
      h' = did (call.Order f) m r.out r.slips ∷ h

      -- the slips carry what left the book
      carried : (n : ℕ) → share n (suc s.arrivals) (total r.slips) ≡ slipped n r.slips
      carried n = sym (slipped_all n (suc s.arrivals) r.slips (All-weaker (λ x. (0 < x.size) × (x.arrival ≡ suc s.arrivals)) (λ x. x.arrival ≡ suc s.arrivals) (λ x l. l.1) r.slips shared.1.each))

      sizes : (n : ℕ) → (look n).size ≡ gone n h' + resting n r.book
      sizes n =
          cond_both (eqb (suc (accepted h)) n) t' (entry R h n) (λ x. x.size ≡ gone n h' + resting n r.book)
          (λ y.
          let z = eqb-true (suc (accepted h)) n y in
          omega (arith, g.sizes n, after.sizes n, after.nothing_away n, carried n, sum_by-append (slip_part n) r.slips (out_in h), ap (λ x. x.size) (entry_fresh R h n (omega (arith, z))), mine n z, ap (λ x. x.size) same))
          (λ y.
          let z = eqb-false (suc (accepted h)) n y in
          omega (arith, g.sizes n, after.sizes n, after.nothing_away n, carried n, sum_by-append (slip_part n) r.slips (out_in h), others n t.size z, others n (total r.slips) z))
