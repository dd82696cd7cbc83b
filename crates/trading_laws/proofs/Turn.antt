-- An order's turn: trading, routing, then resting. Assumes nothing.
--     rest_at_rests       where an order rests: booked as aggressively as it may be, displayed so that it locks nothing
--     clear_lower, clear_set      a book stays clear where it is lowered, and where an order is set apart from all others
--     turn_after          what a turn does to a book in order
use Rattle.std.proofs.Common.{◌≡◌, ℕ, zero, suc, ◌+◌, ◌-◌, ◌<◌, ◌≤◌, Bool, true, false, cond, ◌&&◌, eqb, ltb, ◌≢◌, List, [], ◌∷◌, length, set, Some, None, Option, sym, refl, ap, ◌∙◌, subst, ap₂, inl, inr, arith, length-set}
use Rattle.std.proofs.lemmas.Bool.Decides.{nat_tests}
use Rattle.std.proofs.lemmas.Bool.{eqb-true, eq-eqb, ne_eqb, and_parts, ltb-true, ltb-false, cond_both}
use Rattle.std.proofs.lemmas.List.Sums.{sum_by-set, count_by-le-length}
use Rattle.std.proofs.ByRecursion.{All-append}
use Rattle.std.specs.List.{AllByRecursion}
use Rattle.values.specs.declared.terms.Side.{Side}
use Rattle.values.specs.declared.terms.Side.TheVariants.{Buy, Sell}
use Rattle.values.specs.declared.reports.Report.TheVariants.{Booked}
use Rattle.values.specs.declared.reports.Slip.{Slip}
use Rattle.rules.specs.declared.Terms.{Terms}
use Rattle.rules.specs.declared.Order.{Order}
use Rattle.rules.specs.declared.Prices.{Prices}
use Rattle.rules.specs.declared.Bests.{Bests}
use Rattle.rules.specs.Sides.{flip, ok, Ok, Past, Unlocked, Behind, facing}
use Rattle.rules.specs.Ladders.{beneath, behind}
use Rattle.rules.specs.Book.{free, at, live, Live, side_of, prices_of, priced, with_rem}
use Rattle.rules.specs.Trading.{within, trade}
use Rattle.rules.specs.Routing.{total}
use Rattle.rules.specs.Resting.{Out, rest_at, settle, turn}
use Rattle.rules.specs.Sizes.{share, part, resting, filled, away, cancelled, latest, news}
use Rattle.rules.specs.Law.{Fair, StatesRest}
use Rattle.rules.proofs.Rungs.{behind_unlocked, beneath_less, above_more}
use Rattle.trading_laws.specs.Books.{Fits, Holds, Held, Settled, Apart, Clear, Most, Clean, Low}
use Rattle.trading_laws.specs.Turns.{Modest, After}
use Rattle.trading_laws.proofs.Bounds.{ok_true, ok_self, ok_trans, past_or_ok, past_flip}
use Rattle.trading_laws.proofs.Slots.{branch_both, at_same, at_other, at_set}
use Rattle.trading_laws.proofs.Reports.{filled-++, cancelled-++, away-++, latest-++, no_news-++, states-++, part_none, resting_lower}
use Rattle.trading_laws.proofs.Trade.{flip_flip, low_refl, low_trans, low_keeps, Lower, Steady, Stopped, held_steady, share_split, trade_length, trade_taker, trade_lowers, trade_sizes, trade_fair, trade_stops, trade_cancels, trade_latest, trade_away, trade_news, trade_states, trade_less}

-- ---- what rests
pub settled_steady : (e : Bests) (look : ℕ → Terms) → Steady (Settled e look)
settled_steady e look o n h = record { held = held_steady e look o n h.held; tight = h.tight; shown = h.shown; behind = h.behind }

-- it speaks of no other order
pub settled_look : (e : Bests) (look look' : ℕ → Terms) (o : Order) → look' o.arrival ≡ look o.arrival → Settled e look o → Settled e look' o
settled_look e look look' o z h = record { held = record { known = z ∙ h.held.known; fits = h.held.fits; some = h.held.some }; tight = h.tight; shown = h.shown; behind = h.behind }

pub behind_behind : (R : ℕ → Bool) (s : Side) (w : ℕ) → Behind s w (behind R s w)
unfolding beneath
behind_behind R Buy zero = omega arith
behind_behind R Buy (suc k) = elim (beneath_less R (suc k)) [ inl z ↦ absurd (omega arith) | inr m ↦ omega arith ]
behind_behind R Sell w = elim (above_more R w) [ inl z ↦ inl z | inr m ↦ inr (omega arith) ]

-- where the away best is absent or past the limit, the limit does not lock it
limit_unlocked : (s : Side) (w limit protection : ℕ) → (ltb 0 w && (ok s limit w && ok s protection w)) ≡ false → 0 < limit → Ok s protection limit → Unlocked s w limit
limit_unlocked Buy w limit protection e pos h = grind (arith, nat_tests)
limit_unlocked Sell w limit protection e pos h = grind (arith, nat_tests)

unlocked_ok : (s : Side) (w d : ℕ) → 0 < d → Unlocked s w d → Ok s w d
unlocked_ok Buy w d pos h = grind arith
unlocked_ok Sell w d pos h = grind arith

behind_self : (s : Side) (p : ℕ) → Behind s p p
behind_self Buy p = omega arith
behind_self Sell p = inr (omega arith)

abbrev Rests : Bests → Order → Option Prices → Type 0
Rests e t None = Unit {0}
Rests e t (Some p) = Fits e t p.booked × (0 < p.booked) × ((q : ℕ) → Fits e t q → Ok (side_of t) p.booked q) × Unlocked (side_of t) (facing e (side_of t)) p.displayed × Behind (side_of t) p.booked p.displayed

rest_at_rests : (e : Bests) (R : ℕ → Bool) (t : Order) → Rests e t (rest_at e R t)
unfolding rest_at
rest_at_rests e R t =
    let s = side_of t in
    let w = facing e s in
    let limit = t.terms.limit in
    let protection = t.terms.protection in
    cond_both (ltb 0 w && within t.terms w) _ _ (Rests e t)
    (λ y.
    let a = and_parts _ _ y in
    let b = and_parts _ _ a.1 in
    ((ok_true s limit w b.0, ok_true s protection w b.1, ok_self s w), ltb-true 0 w a.0, (λ q f. f.2), behind_unlocked R s w, behind_behind R s w))
    (λ n.
    cond_both (ltb 0 limit && ok s protection limit) _ _ (Rests e t)
    (λ y.
    let a = and_parts _ _ y in
    let pos = ltb-true 0 limit a.0 in
    let inside = ok_true s protection limit a.1 in
    let un = limit_unlocked s w limit protection n pos inside in
    ((ok_self s limit, inside, unlocked_ok s w limit pos un), pos, (λ q f. f.0), un, behind_self s limit))
    (λ _. tt))

-- ---- no buy is booked at or above a sell
pub apart_sym : (x y : Order) → Apart x y → Apart y x
apart_sym x y h m l s =
    let r = flip_flip (side_of y) (side_of x) s in
    subst (λ d. Past d y.booked x.booked) (sym r) (past_flip (side_of x) _ _ (h l m r))

apart_self : (x : Order) → Apart x x
apart_self x l m s = absurd (go (side_of x) s)
  where
    go : (d : Side) → d ≡ flip d → ⊥
    go Buy e = let z : ◌≡◌ {A = ℕ} 0 1 = cc in omega arith
    go Sell e = let z : ◌≡◌ {A = ℕ} 0 1 = cc in omega arith

apart_low : {x x' : Order} (y : Order) → Low x x' → Apart x y → Apart x' y
apart_low y f h = low_keeps (λ z. Live y → side_of y ≡ flip (side_of z) → Past (side_of z) z.booked y.booked) f (λ n k. k) h

pub clear_lower : (b c : List Order) → Lower b c → Clear b → Clear c
clear_lower b c f h j k = apart_low (at c k) (f j) (apart_sym (at c k) (at b j) (apart_low (at b j) (f k) (apart_sym (at b j) (at b k) (h j k))))

pub clear_set : (b : List Order) (i : ℕ) (v : Order) → Clear b → ((k : ℕ) → Apart v (at b k)) → Clear (set b i v)
clear_set b i v old new j k =
    at_set (λ x. Apart x (at (set b i v) k)) b i v j
    (at_set (Apart v) b i v k (apart_self v) (new k))
    (at_set (Apart (at b j)) b i v k (apart_sym v (at b j) (new j)) (old j k))

most_lower : (b c : List Order) → Lower b c → Most b → Most c
most_lower b c f h j l = let x = f j in omega (arith, x.less l, h j (x.live l), ap (λ o. o.terms.size) (x.same l))

-- ---- coming to rest in the free place i
record Placed (e : Bests) (look : ℕ → Terms) (i : ℕ) (old t : Order) (b : List Order) (r : Out) : Type 0 where
  pub long : length r.book ≡ length b
  pub others : (j : ℕ) → j ≢ i → Low (at b j) (at r.book j)
  pub own : Live (at r.book i) → ((at r.book i).arrival ≡ t.arrival) × Settled e look (at r.book i)
  pub clear : Clear r.book
  pub most : Most b → t.remaining ≤ t.terms.size → Most r.book
  pub clean : Clean b → Clean r.book
  pub sizes : (a : ℕ) → resting a b + part a t ≡ resting a r.book + (filled a r.out + cancelled a r.out)
  pub nothing_away : (a : ℕ) → away a r.out ≡ 0
  pub nothing_new : news r.out ≡ []
  pub fair : AllByRecursion (Fair e look) r.out
  pub stated : resting t.arrival b ≡ 0 → StatesRest (λ a. resting a r.book) r.out
  pub quiet : (a : ℕ) (p : Prices) → a ≢ t.arrival → latest a p r.out ≡ p
  pub shows : Live (at r.book i) → latest t.arrival (prices_of old) r.out ≡ prices_of (at r.book i)

module _ (e : Bests) (R : ℕ → Bool) (look : ℕ → Terms) where
  dead : (b : List Order) (i : ℕ) → at b i ≡ free → Live (at b i) → ⊥
  dead b i f l = let z : 0 < 0 = subst Live f l in omega arith

  settle_placed : (i : ℕ) (old t : Order) (b : List Order) → i < length b → at b i ≡ free → look t.arrival ≡ t.terms → Clear b → Stopped e t b → Placed e look i old t b (settle e R i old t b)
  unfolding settle
  settle_placed i old t b in' empty known clear stop =
      cond_both (live t) _ _ (Placed e look i old t b)
      (λ y.
      branch_both (rest_at e R t) _ _ (Placed e look i old t b)
      (λ _. record {
        long = refl;
        others = λ j _. low_refl (at b j);
        own = λ m. absurd (dead b i empty m);
        clear = clear;
        most = λ h _. h;
        clean = λ h. h;
        sizes = λ a. omega arith;
        nothing_away = λ a. refl;
        nothing_new = refl;
        fair = (tt, tt);
        stated = λ _. tt;
        quiet = λ a p ne. refl;
        shows = λ m. absurd (dead b i empty m);
      })
      (λ p q. rests p (ltb-true 0 t.remaining y) (subst (Rests e t) q (rest_at_rests e R t))))
      (λ n. record {
        long = refl;
        others = λ j _. low_refl (at b j);
        own = λ m. absurd (dead b i empty m);
        clear = clear;
        most = λ h _. h;
        clean = λ h. h;
        sizes = λ a. omega (arith, part_none a t (omega (arith, ltb-false 0 t.remaining n)));
        nothing_away = λ a. refl;
        nothing_new = refl;
        fair = tt;
        stated = λ _. tt;
        quiet = λ a p ne. refl;
        shows = λ m. absurd (dead b i empty m);
      })
    where
      silent : (a x p d n : ℕ) (c : Bool) → let rs = cond c [] (Booked x p d n ∷ []) in (filled a rs ≡ 0) × (cancelled a rs ≡ 0) × (away a rs ≡ 0) × (news rs ≡ []) × AllByRecursion (Fair e look) rs
      silent a x p d n true = (refl, refl, refl, refl, tt)
      silent a x p d n false = (refl, refl, refl, refl, (tt, tt))

      unheard : (a : ℕ) (q : Prices) → a ≢ t.arrival → (p d n : ℕ) (c : Bool) → latest a q (cond c [] (Booked t.arrival p d n ∷ [])) ≡ q
      unheard a q ne p d n true = refl
      unheard a q ne p d n false = rw (ne_eqb t.arrival a (λ z. ne (sym z))) refl

      heard : (p : Prices) (c : Bool) → (eqb old.booked p.booked && eqb old.displayed p.displayed) ≡ c → latest t.arrival (prices_of old) (cond c [] (Booked t.arrival p.booked p.displayed t.remaining ∷ [])) ≡ p
      heard p true y = let a = and_parts _ _ y in ap₂ (λ (x d : ℕ). let r : Prices = record { booked = x; displayed = d } in r) (eqb-true _ _ a.0) (eqb-true _ _ a.1)
      heard p false y = rw (eq-eqb t.arrival t.arrival refl) refl

      rests : (p : Prices) → Live t → Rests e t (Some p) → Placed e look i old t b (record { book = set b i (priced t p.booked p.displayed); out = cond (eqb old.booked p.booked && eqb old.displayed p.displayed) [] (Booked t.arrival p.booked p.displayed t.remaining ∷ []) })
      rests p lives h =
          let v = priced t p.booked p.displayed in
          let c = eqb old.booked p.booked && eqb old.displayed p.displayed in
          record {
            long = length-set b i v;
            others = λ j ne. subst (Low (at b j)) (sym (at_other b i v j ne)) (low_refl (at b j));
            own = λ _. subst (λ o. (o.arrival ≡ t.arrival) × Settled e look o) (sym (at_same b i v in')) (refl, record { held = record { known = known; fits = h.0; some = h.1 }; tight = h.2; shown = h.3; behind = h.4 });
            clear = clear_set b i v clear (λ k m n s. beyond k n s);
            most = λ f k j. at_set (λ o. Live o → o.remaining ≤ o.terms.size) b i v j (λ _. k) (f j);
            clean = λ f j. at_set (λ o. o.remaining ≡ 0 → o ≡ free) b i v j (λ z. absurd (omega (arith, z, lives))) (f j);
            sizes = λ a. let q = silent a t.arrival p.booked p.displayed t.remaining c in
                omega (arith, q.0, q.1, sum_by-set (part a) b i v free in', part_none a (at b i) (ap (λ o. o.remaining) empty));
            nothing_away = λ a. (silent a t.arrival p.booked p.displayed t.remaining c).2;
            nothing_new = (silent 0 t.arrival p.booked p.displayed t.remaining c).3;
            quiet = λ a q ne. unheard a q ne p.booked p.displayed t.remaining c;
            shows = λ _. subst (λ o. latest t.arrival (prices_of old) (cond c [] (Booked t.arrival p.booked p.displayed t.remaining ∷ [])) ≡ prices_of o) (sym (at_same b i v in')) (heard p c refl);
            fair = (silent 0 t.arrival p.booked p.displayed t.remaining c).4;
            stated = λ none. states c (omega (arith, none, sum_by-set (part t.arrival) b i v free in', part_none t.arrival (at b i) (ap (λ o. o.remaining) empty), mine));
          }
        where
          mine : part t.arrival t ≡ t.remaining
          mine = rw (eq-eqb t.arrival t.arrival refl) refl

          states : (c : Bool) → let v = priced t p.booked p.displayed in resting t.arrival (set b i v) ≡ t.remaining → StatesRest (λ a. resting a (set b i v)) (cond c [] (Booked t.arrival p.booked p.displayed t.remaining ∷ []))
          states true h = tt
          states false h = (omega (arith, h), tt)

          beyond : (k : ℕ) → Live (at b k) → side_of (at b k) ≡ flip (side_of t) → Past (side_of t) p.booked (at b k).booked
          beyond k n s = elim (past_or_ok (side_of t) p.booked (at b k).booked) [
            | inl y ↦ y
            | inr y ↦ absurd (stop lives k n s (ok_trans _ _ _ _ h.1 h.0.0 y, ok_trans _ _ _ _ h.1 h.0.1 y, ok_trans _ _ _ _ h.1 h.0.2 y))
          ]

  -- ---- the whole turn
  module _ (send : Order → List Slip) (modest : Modest send) where
    pub turn_after : (i : ℕ) (old t : Order) (b : List Order) → i < length b → at b i ≡ free → look t.arrival ≡ t.terms → Holds (Held e look) b → Clear b → After e look send i old t b (turn e R send i old t b)
    unfolding turn
    turn_after i old t b in' empty known held clear =
        let n = length b in
        let d = trade n e t b in
        let m = total (send d.taker) in
        let u = with_rem d.taker (d.taker.remaining - m) in
        let r = settle e R i old u d.book in
        let low : Lower b d.book = trade_lowers e n t b in
        let long = trade_length e n t b in
        let same = trade_taker e n t b in
        let arrived : u.arrival ≡ t.arrival = ap (λ x. x.arrival) same in
        let fewer = trade_less e n t b in
        let stop = trade_stops e n t b (λ _. count_by-le-length live b) in
        let s : Placed e look i old u d.book r =
        settle_placed i old u d.book (omega arith) ((low i).stays empty) (subst (λ o. look o.arrival ≡ o.terms) (sym same) known) (clear_lower b d.book low clear)
        (λ l. stop (omega arith))
        in
        record {
          long = s.long ∙ long;
          others = λ j ne. low_trans (low j) (s.others j ne);
          own = λ l. let o = s.own l in (o.0 ∙ arrived, o.1);
          clear = s.clear;
          most = λ h k. s.most (most_lower b d.book low h) (omega (arith, k, fewer, ap (λ x. x.terms.size) same));
          clean = λ h. s.clean (λ j. (low j).clean (h j));
          sizes = λ a. omega (
            arith,
            trade_sizes e a n t b,
            s.sizes a,
            share_split a d.taker.arrival d.taker.remaining m (modest d.taker),
            ap (λ x. share a x m) arrived,
            trade_cancels e a n t b,
            filled-++ a d.out r.out,
            cancelled-++ a d.out r.out,
          );
          sent = (d.taker.remaining, fewer, ap send same);
          nothing_away = λ a. omega (arith, away-++ a d.out r.out, trade_away e a n t b, s.nothing_away a);
          nothing_new = no_news-++ d.out r.out (trade_news e n t b) s.nothing_new;
          fair = All-append (Fair e look) d.out r.out (trade_fair e look n t b known held) s.fair;
          stated = λ none. states-++ (λ a. resting a r.book) d.out r.out (trade_states e _ n t b) (s.stated (omega (arith, none, resting_lower u.arrival b d.book long low, ap (λ x. resting x b) arrived)));
          quiet = λ a p ne. latest-++ a p d.out r.out ∙ ap (λ x. latest a x r.out) (trade_latest e a p n t b) ∙ s.quiet a p (λ z. ne (z ∙ arrived));
          shows = λ l. latest-++ t.arrival (prices_of old) d.out r.out ∙ ap (λ x. latest t.arrival x r.out) (trade_latest e t.arrival (prices_of old) n t b)
              ∙ ap (λ x. latest x (prices_of old) r.out) (sym arrived) ∙ s.shows l;
        }
