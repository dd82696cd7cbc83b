-- Each call but an order keeps a good state good. Assumes nothing.
--     after_opened, after_told, after_dropped, after_replied, after_left
use Rattle.std.proofs.Common.{◌≡◌, ℕ, suc, ◌+◌, ◌-◌, ◌≤◌, Bool, false, eqb, ◌≢◌, List, [], ◌∷◌, length, set, Some, None, filter, sym, refl, ap, ◌∙◌, subst, arith, length-set}
use Rattle.std.proofs.lemmas.Bool.{cond_both, and_parts, ltb-true, eqb-true, eq-eqb, ne_eqb}
use Rattle.std.proofs.lemmas.List.Sums.{sum_by-set}
use Rattle.std.proofs.ByRecursion.{all_kept_by}
use Rattle.std.specs.Cmp.{IsStrictWeakOrder}
use Rattle.std.specs.List.{ContainsAt as Has, AllByRecursion}
use Rattle.market.specs.declared.board.Quote.{Quote}
use Rattle.market.specs.Quotes as board
use Rattle.values.specs.declared.calls.Call.{Call}
use Rattle.values.specs.declared.calls.Call.TheVariants as call
use Rattle.values.specs.declared.faults.Fault.{Fault}
use Rattle.rules.specs.declared.Room.{Room}
use Rattle.rules.specs.declared.Order.{Order}
use Rattle.rules.specs.declared.Bests.{Bests}
use Rattle.rules.specs.Book.{free, at, Live, prices_of}
use Rattle.rules.specs.Sizes.{share, part, resting, latest}
use Rattle.rules.specs.Routing.{bests}
use Rattle.rules.specs.Quoting.{quote}
use Rattle.rules.specs.Slips.{no_sent, sent_at, out, OutThere, is_slip}
use Rattle.rules.specs.States.{State, named, opening, telling, dropping, replying}
use Rattle.rules.specs.Faults.{refusal, order_place, slip_place}
use Rattle.rules.specs.Steps.{Event}
use Rattle.rules.specs.Steps.Event.{did, refused}
use Rattle.rules.specs.Histories.{unanswered, out_in, told_in, gone, price_in, entry}
use Rattle.rules.specs.Law.{Fair}
use Rattle.rules.proofs.Refusals.{away_reports, cancel_reports, reply_reports, reply_fits}
use Rattle.trading_laws.specs.Books.{Settled, Stems}
use Rattle.trading_laws.proofs.Slots.{at_set, live_within, Picked, picked}
use Rattle.trading_laws.proofs.Trade.{share_split}
use Rattle.trading_laws.proofs.Reports.{states_same, part_none}
use Rattle.trading_laws.proofs.Telling.{distinct_stems, numbered_stems, free_holds, free_clear, free_clean, quote_told}
use Rattle.trading_laws.proofs.Room.{quote_room}
use Rattle.law.proofs.Seats.{Seated, seat_is, out_true}
use Rattle.law.proofs.Outs.{has_kept, kept_has, unique_kept, slipped_kept}
use Rattle.law.proofs.Filing.{table_same, settling}
use Rattle.law.proofs.Replies.{settled_said}
use Rattle.law.proofs.Good.{Good}

pub length_told : (qs : List Quote) (x : ℕ) (q : Quote) → length (board.told qs x q) ≡ length qs
length_told qs x q = cond_both (board.here x) (set qs (x - 1) q) qs (λ l. length l ≡ length qs) (λ _. length-set qs (x - 1) q) (λ _. refl)

-- the order that a cancel names rests
no_rank : IsStrictWeakOrder (λ (x y : Order). false)
no_rank = record { one_way = λ x y h. refl; chain = λ x y z h k. refl }

named_lives : (s : State) (id i : ℕ) → order_place s id ≡ Some i → Live (at s.orders i)
named_lives s id i e =
    let p = subst (Picked (named id) (λ x y. false) s.orders (length s.orders)) e (picked (named id) (λ x y. false) no_rank s.orders (length s.orders)) in
    ltb-true 0 (at s.orders i).remaining (and_parts _ _ p.0).0

-- the slip that a reply names is out
replied_out : (s : State) (n i : ℕ) → slip_place s n ≡ Some i → OutThere (sent_at s.sent i) × ((sent_at s.sent i).slip.number ≡ n)
replied_out s n i e =
    let p = subst (Seated (is_slip n) s.sent (length s.sent)) e (seat_is (is_slip n) s.sent (length s.sent)) in
    let q = and_parts (out (sent_at s.sent i)) (eqb (sent_at s.sent i).slip.number n) p.1 in
    (out_true (sent_at s.sent i) q.0, eqb-true (sent_at s.sent i).slip.number n q.1)

module _ (R : ℕ → Bool) (h : List Event) (s : State) (g : Good R h s) where
  pub after_opened : (m : Room) → Good R (did call.Open m (opening s).reports (opening s).slips ∷ h) (opening s).state
  after_opened m = record {
    opened = refl;
    quotes = g.quotes;
    fifteen = g.fifteen;
    arrivals = g.arrivals;
    numbers = omega (arith, g.numbers);
    book = g.book;
    seated = g.seated;
    sizes = λ a. omega (arith, g.sizes a);
    prices = g.prices;
    unheard = g.unheard;
    fills = (tt, g.fills);
    stated = (tt, g.stated);
    room = ((omega arith, omega arith, omega arith, omega arith), g.room);
    counted = (refl, tt, g.counted);
    answered = (λ a. refl, g.answered);
  }

  pub after_left : (c : Call) (m : Room) (f : Fault) → Good R (refused c m f ∷ h) s
  after_left c m f = record {
    opened = g.opened;
    quotes = g.quotes;
    fifteen = g.fifteen;
    arrivals = g.arrivals;
    numbers = omega (arith, g.numbers);
    book = g.book;
    seated = g.seated;
    sizes = λ a. omega (arith, g.sizes a);
    prices = g.prices;
    unheard = g.unheard;
    fills = (tt, g.fills);
    stated = (tt, g.stated);
    room = (tt, g.room);
    counted = g.counted;
    answered = g.answered;
  }

  pub after_told : (x : ℕ) (q : Quote) (m : Room) → refusal R s (call.Away x q) m ≡ None → Good R (did (call.Away x q) m (telling R s x q).reports (telling R s x q).slips ∷ h) (telling R s x q).state
  after_told x q m fine =
      let b = s.orders in
      let k = g.book in
      let t = quote_told e R (bests s.quotes) (entry R h) s.arrivals b (λ j l. (k.settled j l).held) k.clear k.distinct k.numbered in
      let sizes : (a : ℕ) → (entry R h a).size ≡ gone a (did (call.Away x q) m (telling R s x q).reports [] ∷ h) + resting a (quote e R b).book = λ a. omega (arith, g.sizes a, t.sizes a, t.nothing_away a) in
      let few : length (quote e R b).out ≤ 128 = omega (arith, k.places, quote_room e R (entry R h) (bests s.quotes) s.arrivals b (λ j l. (k.settled j l).held) k.clear k.distinct k.numbered) in
      record {
        opened = g.opened;
        quotes = told_same;
        fifteen = length_told s.quotes x q ∙ g.fifteen;
        arrivals = g.arrivals;
        numbers = omega (arith, g.numbers);
        book = record {
          settled = t.settled;
          clear = t.clear;
          distinct = distinct_stems b _ t.stems k.distinct;
          numbered = numbered_stems s.arrivals b _ t.stems k.numbered;
          clean = t.clean k.clean;
          places = t.long ∙ k.places;
        };
        seated = g.seated;
        sizes = sizes;
        prices = λ j l. let w = t.stems j l in
            ap (λ y. latest y (price_in y h) (quote e R b).out) w.1 ∙ t.shows j (price_in (at b j).arrival h) l (λ _. g.prices j w.0) (λ _. g.prices j w.0);
        unheard = λ a n. t.quiet a (price_in a h) (λ j l z. omega (arith, z, n, (k.numbered j l).1)) ∙ g.unheard a n;
        fills = (subst (λ w. AllByRecursion (Fair w (entry R h)) (quote e R b).out) (ap bests told_same) t.fair, g.fills);
        stated = (states_same (λ a. resting a (quote e R b).book) _ (quote e R b).out (λ a. omega (arith, sizes a)) t.stated, g.stated);
        room = ((few, omega arith, omega (arith, few, away_reports R s x q m fine), omega arith), g.room);
        counted = (t.nothing_new, tt, g.counted);
        answered = (t.nothing_away, g.answered);
      }
    where
      e : Bests
      e = bests (board.told s.quotes x q)

      told_same : board.told s.quotes x q ≡ board.told (told_in h) x q
      told_same = ap (λ l. board.told l x q) g.quotes

  pub after_dropped : (id : ℕ) (m : Room) (i : ℕ) → refusal R s (call.Cancel id) m ≡ None → order_place s id ≡ Some i → Good R (did (call.Cancel id) m (dropping s i).reports (dropping s i).slips ∷ h) (dropping s i).state
  after_dropped id m i fine e =
      let b = s.orders in
      let k = g.book in
      let l = named_lives s id i e in
      let stems : Stems b (set b i free) = λ j. at_set (λ o. Live o → Live (at b j) × (o.arrival ≡ (at b j).arrival)) b i free j (λ y. absurd (omega arith)) (λ y. (y, refl)) in
      record {
        opened = g.opened;
        quotes = g.quotes;
        fifteen = g.fifteen;
        arrivals = g.arrivals;
        numbers = omega (arith, g.numbers);
        book = record {
          settled = free_holds (Settled (bests s.quotes) (entry R h)) b i k.settled;
          clear = free_clear b i k.clear;
          distinct = distinct_stems b (set b i free) stems k.distinct;
          numbered = numbered_stems s.arrivals b (set b i free) stems k.numbered;
          clean = free_clean b i k.clean;
          places = length-set b i free ∙ k.places;
        };
        seated = g.seated;
        sizes = λ a. omega (arith, g.sizes a, sum_by-set (part a) b i free free (live_within b i l), part_none a free refl);
        prices = λ j. at_set (λ o. Live o → price_in o.arrival h ≡ prices_of o) b i free j (λ y. absurd (omega arith)) (g.prices j);
        unheard = g.unheard;
        fills = ((tt, tt), g.fills);
        stated = (tt, g.stated);
        room = ((omega arith, omega arith, omega (arith, cancel_reports R s id m fine), omega arith), g.room);
        counted = (refl, tt, g.counted);
        answered = (λ a. refl, g.answered);
      }

  pub after_replied : (n f : ℕ) (m : Room) (i : ℕ) → refusal R s (call.Reply n f) m ≡ None → slip_place s n ≡ Some i → Good R (did (call.Reply n f) m (replying s i f).reports (replying s i f).slips ∷ h) (replying s i f).state
  after_replied n f m i fine place =
      let x = (sent_at s.sent i).slip in
      let there = replied_out s n i place in
      let fits = reply_fits R s n f m i fine place in
      let said = settled_said x f fits in
      let t = g.seated in
      let L = out_in h in
      let was = t.table.sent i there.0 in
      record {
        opened = g.opened;
        quotes = g.quotes;
        fifteen = g.fifteen;
        arrivals = g.arrivals;
        numbers = omega (arith, g.numbers);
        book = g.book;
        seated = record {
          table = table_same (λ y. Has L y × (y.number ≢ x.number)) (Has (filter (unanswered n) L)) (suc s.numbered) (λ a. (entry R h a).id) (set s.sent i no_sent)
              (λ y k. has_kept n L y k.0 (λ z. k.1 (z ∙ sym there.1)))
              (λ y k. let r = kept_has n L y k in (r.0, λ z. r.1 (z ∙ there.1)))
              (settling (Has L) (suc s.numbered) (λ a. (entry R h a).id) s.sent i there.0 t.table);
          seats = length-set s.sent i no_sent ∙ t.seats;
          unique = unique_kept n L t.unique;
          arrived = all_kept_by (unanswered n) (λ y. y.arrival ≤ s.arrivals) L t.arrived;
        };
        sizes = λ a. omega (arith, g.sizes a, said.filled_none a, said.away_is a, said.cancelled_is a, share_split a x.arrival x.size f fits, slipped_kept a n L x t.unique was there.1);
        prices = λ j l. said.quiet (at s.orders j).arrival _ ∙ g.prices j l;
        unheard = λ a l. said.quiet a _ ∙ g.unheard a l;
        fills = (said.fair (bests (told_in h)) (entry R h), g.fills);
        stated = (said.states _, g.stated);
        room = ((omega (arith, said.few), omega arith, omega (arith, said.few, reply_reports R s n f m fine), omega arith), g.room);
        counted = (said.no_news, tt, g.counted);
        answered = (
          record {
            slip = x;
            was_out = was;
            named = there.1;
            part = said.away_is x.arrival ∙ whole x.arrival f;
            no_other = λ a ne. (said.away_is a ∙ nobody a x.arrival f ne, said.cancelled_is a ∙ nobody a x.arrival (x.size - f) ne);
            whole = omega (arith, said.away_is x.arrival ∙ whole x.arrival f, said.cancelled_is x.arrival ∙ whole x.arrival (x.size - f), fits);
          },
          g.answered,
        );
      }
    where
      whole : (a k : ℕ) → share a a k ≡ k
      whole a k = rw (eq-eqb a a refl) refl

      nobody : (a b k : ℕ) → a ≢ b → share a b k ≡ 0
      nobody a b k ne = rw (ne_eqb b a (λ z. ne (sym z))) refl
