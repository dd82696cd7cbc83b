-- Trading: what it leaves, at which prices, and where it stops. Assumes nothing.
--     low_keeps           what does not speak of what remains is kept
--     trade_lowers        trading only lowers places
--     trade_sizes         what it fills is gone from the taker and from the makers
--     trade_fair          a buy with a sell, at prices that both orders and the away best allow
--     trade_stops         and it stops only where no contra price is left that fits
use Rattle.std.proofs.Common.{◌≡◌, ℕ, zero, suc, ◌+◌, ◌-◌, ◌<◌, ◌≤◌, min, cond, ltb, ◌⊎◌, List, [], length, set, Some, sym, refl, ap, ◌∙◌, subst, inl, inr, arith, length-set}
use Rattle.std.proofs.lemmas.Bool.Decides.{nat_tests}
use Rattle.std.proofs.lemmas.Bool.{ltb-true, ltb-false, cond_both, lt-ltb}
use Rattle.std.proofs.lemmas.List.Sums.{sum_by-set, get_or-le-sum_by}
use Rattle.std.specs.List.{AllByRecursion}
use Rattle.values.specs.declared.terms.Side.{Side}
use Rattle.values.specs.declared.terms.Side.TheVariants.{Buy, Sell}
use Rattle.values.specs.declared.reports.Report.TheVariants.{Fill}
use Rattle.rules.specs.declared.Terms.{Terms}
use Rattle.rules.specs.declared.Order.{Order}
use Rattle.rules.specs.declared.Prices.{Prices}
use Rattle.rules.specs.declared.Bests.{Bests}
use Rattle.rules.specs.Sides.{flip, Ok, facing}
use Rattle.rules.specs.Book.{free, at, Live, side_of, with_rem, lower, taken}
use Rattle.rules.specs.Trading.{Traded, hit, trade}
use Rattle.rules.specs.Sizes.{share, part, resting, filled, away, cancelled, latest, news}
use Rattle.rules.specs.Law.{Fair, StatesRest, Within}
use Rattle.trading_laws.specs.Books.{Fits, Holds, Held, Low}
use Rattle.trading_laws.proofs.Slots.{branch_both, at_cases, live_within, Hit, hits}

-- ---- a place that trading has lowered, or left
pub low_refl : (x : Order) → Low x x
low_refl x = record { live = λ l. l; same = λ l. refl; less = λ l. omega arith; stays = λ e. e; clean = λ h. h }

pub low_trans : {x y z : Order} → Low x y → Low y z → Low x z
low_trans {x} {y} {z} f g = record {
  live = λ l. f.live (g.live l);
  same = λ l. g.same l ∙ ap (λ o. with_rem o z.remaining) (f.same (g.live l));
  less = λ l. omega (arith, g.less l, f.less (g.live l));
  stays = λ e. g.stays (f.stays e);
  clean = λ h. g.clean (f.clean h);
}

not_free : {x : Order} → Live x → x ≡ free → ⊥
not_free l e = let z : 0 < 0 = subst Live e l in omega arith

pub low_lower : (x : Order) (q : ℕ) → Live x → Low x (lower x q)
low_lower x q l =
    cond_both (ltb q x.remaining) (with_rem x (x.remaining - q)) free (Low x)
    (λ e. record { live = λ _. l; same = λ _. refl; less = λ _. omega arith; stays = λ f. absurd (not_free l f); clean = λ _ z. absurd (omega (arith, z, ltb-true q x.remaining e)) })
    (λ e. record { live = λ _. l; same = λ m. absurd (omega arith); less = λ m. absurd (omega arith); stays = λ _. refl; clean = λ _ _. refl })

-- what does not speak of what remains is kept
pub low_keeps : (P : Order → Type 0) {x y : Order} → Low x y → ((n : ℕ) → P x → P (with_rem x n)) → (Live x → P x) → Live y → P y
low_keeps P {x} {y} f k h l = subst P (sym (f.same l)) (k y.remaining (h (f.live l)))

abbrev pub Lower : List Order → List Order → Type 0
Lower b c = (j : ℕ) → Low (at b j) (at c j)

low_set : (b : List Order) (i q : ℕ) → Live (at b i) → Lower b (set b i (lower (at b i) q))
low_set b i q l j = go (at_cases b i (lower (at b i) q) j)
  where
    go : ((j ≡ i) × (at (set b i (lower (at b i) q)) j ≡ lower (at b i) q)) ⊎ (at (set b i (lower (at b i) q)) j ≡ at b j) → Low (at b j) (at (set b i (lower (at b i) q)) j)
    go (inl e) = subst (Low (at b j)) (sym e.1) (subst (λ k. Low (at b k) (lower (at b i) q)) (sym e.0) (low_lower (at b i) q l))
    go (inr e) = subst (Low (at b j)) (sym e) (low_refl (at b j))

-- ---- sizes
pub share_split : (a x n q : ℕ) → q ≤ n → share a x (n - q) + share a x q ≡ share a x n
share_split a x n q h = grind (arith, nat_tests)

lower_part : (a : ℕ) (m : Order) (q : ℕ) → q ≤ m.remaining → part a (lower m q) + share a m.arrival q ≡ part a m
lower_part a m q h =
    cond_both (ltb q m.remaining) (with_rem m (m.remaining - q)) free (λ o. part a o + share a m.arrival q ≡ part a m)
    (λ e. share_split a m.arrival m.remaining q h)
    (λ e. let k : q ≡ m.remaining = omega (arith, ltb-false q m.remaining e) in rw k (grind (arith, nat_tests)))

module _ (e : Bests) where
  pub trade_length : (n : ℕ) (t : Order) (b : List Order) → length (trade n e t b).book ≡ length b
  unfolding trade
  trade_length zero t b = refl
  trade_length (suc n) t b =
      branch_both (hit e t b) _ _ (λ (d : Traded). length d.book ≡ length b) (λ h. refl)
      (λ i h. trade_length n _ _ ∙ length-set b i _)

  pub trade_taker : (n : ℕ) (t : Order) (b : List Order) → (trade n e t b).taker ≡ with_rem t (trade n e t b).taker.remaining
  unfolding trade
  trade_taker zero t b = refl
  trade_taker (suc n) t b =
      branch_both (hit e t b) _ _ (λ (d : Traded). d.taker ≡ with_rem t d.taker.remaining) (λ h. refl) (λ i h. trade_taker n _ _)

  found : (t : Order) (b : List Order) (i : ℕ) → hit e t b ≡ Some i → Hit e t b (Some i)
  found t b i h = subst (Hit e t b) h (hits e t b)

  pub trade_lowers : (n : ℕ) (t : Order) (b : List Order) → Lower b (trade n e t b).book
  unfolding trade
  trade_lowers zero t b = λ j. low_refl (at b j)
  trade_lowers (suc n) t b =
      branch_both (hit e t b) _ _ (λ (d : Traded). Lower b d.book) (λ h j. low_refl (at b j))
      (λ i h j. low_trans (low_set b i _ (found t b i h).1 j) (trade_lowers n _ _ j))

  pub trade_sizes : (a n : ℕ) (t : Order) (b : List Order) → resting a b + part a t ≡ resting a (trade n e t b).book + part a (trade n e t b).taker + filled a (trade n e t b).out
  unfolding trade
  trade_sizes a zero t b = omega arith
  trade_sizes a (suc n) t b =
      branch_both (hit e t b) _ _ (λ (d : Traded). resting a b + part a t ≡ resting a d.book + part a d.taker + filled a d.out) (λ h. omega arith)
      (λ i h.
      let m = at b i in
      let q = min t.remaining m.remaining in
      let c = set b i (lower m q) in
      let le : q ≤ m.remaining = omega arith in
      let lt : q ≤ t.remaining = omega arith in
      omega (
        arith,
        sum_by-set (part a) b i (lower m q) free (live_within b i (found t b i h).1),
        lower_part a m q le,
        share_split a t.arrival t.remaining q lt,
        trade_sizes a n (with_rem t (t.remaining - q)) c,
      ))

-- ---- prices
-- a property of orders that does not speak of what remains
abbrev pub Steady : (Order → Type 0) → Type 0
Steady P = (o : Order) (n : ℕ) → P o → P (with_rem o n)

pub held_steady : (e : Bests) (look : ℕ → Terms) → Steady (Held e look)
held_steady e look o n h = record { known = h.known; fits = h.fits; some = h.some }

pub holds_lower : (P : Order → Type 0) → Steady P → (b c : List Order) → Lower b c → Holds P b → Holds P c
holds_lower P s b c f h j = low_keeps P (f j) (s (at b j)) (h j)

pub flip_flip : (s t : Side) → t ≡ flip s → s ≡ flip t
flip_flip Buy Buy e = e
flip_flip Buy Sell e = refl
flip_flip Sell Buy e = refl
flip_flip Sell Sell e = e

-- a price that both sides allow, told from either side
both_allow : (e : Bests) (t m : Order) (p : ℕ) → side_of m ≡ flip (side_of t) → Fits e t p → Fits e m p → Ok Buy e.offer p × Ok Sell e.bid p
both_allow e t m p s f g = go (side_of t) f.2 (subst (λ d. Ok d (facing e d) p) s g.2)
  where
    go : (d : Side) → Ok d (facing e d) p → Ok (flip d) (facing e (flip d)) p → Ok Buy e.offer p × Ok Sell e.bid p
    go Buy h k = (h, k)
    go Sell h k = (k, h)

module _ (e : Bests) (look : ℕ → Terms) where
  fair : (t : Order) (b : List Order) (i q : ℕ) → look t.arrival ≡ t.terms → Holds (Held e look) b → Hit e t b (Some i) → 0 < q → Fair e look (Fill t.arrival (at b i).arrival (at b i).booked q)
  fair t b i q known held h some =
      let m = at b i in
      let k = held i h.1 in
      let p = m.booked in
      let both = both_allow e t m p h.2 h.3 k.fits in
      let sides : side_of t ≡ flip (side_of m) = flip_flip (side_of t) (side_of m) h.2 in
      (both.0, both.1, subst (λ w. Within w p) (sym known) (h.3.0, h.3.1), subst (λ w. Within w p) (sym k.known) (k.fits.0, k.fits.1), rw (known, k.known) sides, some)

  pub trade_fair : (n : ℕ) (t : Order) (b : List Order) → look t.arrival ≡ t.terms → Holds (Held e look) b → AllByRecursion (Fair e look) (trade n e t b).out
  unfolding trade
  trade_fair zero t b known held = tt
  trade_fair (suc n) t b known held =
      branch_both (hit e t b) _ _ (λ (d : Traded). AllByRecursion (Fair e look) d.out) (λ h. tt)
      (λ i h. (
        fair t b i _ known held (found e t b i h) (omega (arith, (found e t b i h).0, (found e t b i h).1)),
        trade_fair n _ _ known (holds_lower (Held e look) (held_steady e look) b _ (low_set b i _ (found e t b i h).1) held),
      ))

-- ---- where it stops
one_if_live : (o : Order) → Live o → ◌≡◌ {A = ℕ} (cond (ltb 0 o.remaining) 1 0) 1
one_if_live o l = rw (lt-ltb 0 o.remaining l) refl

abbrev pub Stopped : Bests → Order → List Order → Type 0
Stopped e t b = Live t → (j : ℕ) → Live (at b j) → side_of (at b j) ≡ flip (side_of t) → Fits e t (at b j).booked → ⊥

-- one place less is taken, unless the taker is done
fewer : (b : List Order) (i r n : ℕ) → Live (at b i) → 0 < r → (0 < r → taken b ≤ suc n) → 0 < r - min r (at b i).remaining → taken (set b i (lower (at b i) (min r (at b i).remaining))) ≤ n
fewer b i r n l pos few more =
    let m = at b i in
    let q = min r m.remaining in
    let gone : lower m q ≡ free = cond_both (ltb q m.remaining) (with_rem m (m.remaining - q)) free (λ o. o ≡ free) (λ u. absurd (omega (arith, ltb-true q m.remaining u))) (λ u. refl) in
    rw gone (omega (arith, sum_by-set (λ o. cond (ltb 0 o.remaining) 1 0) b i free free (live_within b i l), one_if_live m l, few pos))

module _ (e : Bests) where
  pub trade_stops : (n : ℕ) (t : Order) (b : List Order) → (Live t → taken b ≤ n) → Stopped e (trade n e t b).taker (trade n e t b).book
  unfolding trade
  trade_stops zero t b few = λ l j m s f. omega (arith, few l, one_if_live (at b j) m, get_or-le-sum_by (λ o. cond (ltb 0 o.remaining) 1 0) b j free (live_within b j m))
  trade_stops (suc n) t b few =
      branch_both (hit e t b) _ _ (λ (d : Traded). Stopped e d.taker d.book) (λ h. subst (Hit e t b) h (hits e t b))
      (λ i h. let f = found e t b i h in trade_stops n _ _ (λ l. fewer b i t.remaining n f.1 f.0 few l))

  pub trade_cancels : (a n : ℕ) (t : Order) (b : List Order) → cancelled a (trade n e t b).out ≡ 0
  unfolding trade
  trade_cancels a zero t b = refl
  trade_cancels a (suc n) t b =
      branch_both (hit e t b) _ _ (λ (d : Traded). cancelled a d.out ≡ 0) (λ h. refl)
      (λ i h. omega (arith, trade_cancels a n (with_rem t (t.remaining - min t.remaining (at b i).remaining)) (set b i (lower (at b i) (min t.remaining (at b i).remaining)))))

  pub trade_latest : (a : ℕ) (p : Prices) (n : ℕ) (t : Order) (b : List Order) → latest a p (trade n e t b).out ≡ p
  unfolding trade
  trade_latest a p zero t b = refl
  trade_latest a p (suc n) t b = branch_both (hit e t b) _ _ (λ (d : Traded). latest a p d.out ≡ p) (λ h. refl) (λ i h. trade_latest a p n _ _)

  pub trade_away : (a n : ℕ) (t : Order) (b : List Order) → away a (trade n e t b).out ≡ 0
  unfolding trade
  trade_away a zero t b = refl
  trade_away a (suc n) t b =
      branch_both (hit e t b) _ _ (λ (d : Traded). away a d.out ≡ 0) (λ h. refl)
      (λ i h. omega (arith, trade_away a n (with_rem t (t.remaining - min t.remaining (at b i).remaining)) (set b i (lower (at b i) (min t.remaining (at b i).remaining)))))

  pub trade_news : (n : ℕ) (t : Order) (b : List Order) → news (trade n e t b).out ≡ []
  unfolding trade
  trade_news zero t b = refl
  trade_news (suc n) t b = branch_both (hit e t b) _ _ (λ (d : Traded). news d.out ≡ []) (λ h. refl) (λ i h. trade_news n _ _)

  -- trading books nothing
  pub trade_states : (f : ℕ → ℕ) (n : ℕ) (t : Order) (b : List Order) → StatesRest f (trade n e t b).out
  unfolding trade
  trade_states f zero t b = tt
  trade_states f (suc n) t b = branch_both (hit e t b) _ _ (λ (d : Traded). StatesRest f d.out) (λ h. tt) (λ i h. trade_states f n _ _)

  -- no more is left of the taker than there was
  pub trade_less : (n : ℕ) (t : Order) (b : List Order) → (trade n e t b).taker.remaining ≤ t.remaining
  unfolding trade
  trade_less zero t b = omega arith
  trade_less (suc n) t b =
      branch_both (hit e t b) _ _ (λ (d : Traded). d.taker.remaining ≤ t.remaining) (λ h. omega arith)
      (λ i h. omega (arith, trade_less n (with_rem t (t.remaining - min t.remaining (at b i).remaining)) (set b i (lower (at b i) (min t.remaining (at b i).remaining)))))
