-- Which order is traded with next, and trading one fill after another. Assumes nothing.
use Rattle.std.proofs.Common.{◌≡◌, ℕ, zero, suc, ◌+◌, ◌-◌, ◌<◌, ◌≤◌, min, true, false, cond, List, [], ◌∷◌, ◌++◌, length, set, Some, None, Option, sym, refl, ap, ◌∙◌, subst, append_assoc, append-nil, arith, length-append}
use Rattle.std.proofs.lemmas.Bool.{lt-ltb, le-ltb}
use Rattle.std.proofs.lemmas.List.Sums.{count_by-le-length, get_or-le-sum_by}
use Rattle.values.specs.declared.reports.Report.{Report}
use Rattle.values.specs.declared.reports.Report.TheVariants.{Fill}
use Rattle.rules.specs.declared.Order.{Order}
use Rattle.rules.specs.declared.Bests.{Bests}
use Rattle.rules.specs.Book.{free, at, Live, live, branch, pick, side_of, with_rem, lower, taken}
use Rattle.rules.specs.Trading.{Traded, contra, prefer, fits, hit, trade}
use Rattle.trading_laws.proofs.Slots.{Hit, hits, live_within}
use Rattle.trading_laws.proofs.Room.{one, one_live, one_most, trade_room}

module _ (e : Bests) (t : Order) (b : List Order) where
  pub hit_done : t.remaining ≡ 0 → None ≡ hit e t b
  unfolding hit
  hit_done h = rw (le-ltb 0 t.remaining (omega arith)) refl

  abbrev pub Best : Option ℕ → Type 0
  Best o = o ≡ pick (contra (side_of t)) (prefer (side_of t)) b (length b)

  from_best : (o : Option ℕ) → 0 < t.remaining → Best o → branch o None (λ i. cond (fits e t (at b i).booked) (Some i) None) ≡ hit e t b
  unfolding hit
  from_best o h p = rw (lt-ltb 0 t.remaining h, p) refl

  pub hit_nobody : 0 < t.remaining → Best None → None ≡ hit e t b
  hit_nobody h p = from_best None h p

  pub hit_takes : (i : ℕ) → 0 < t.remaining → Best (Some i) → fits e t (at b i).booked ≡ true → Some i ≡ hit e t b
  hit_takes i h p f = rw f at (from_best (Some i) h p)

  pub hit_stops : (i : ℕ) → 0 < t.remaining → Best (Some i) → fits e t (at b i).booked ≡ false → None ≡ hit e t b
  hit_stops i h p f = rw f at (from_best (Some i) h p)

  -- the whole trade d, of which the reports `done` are written, goes on as trade n from here
  pub record Left (d : Traded) (done : List Report) (n : ℕ) : Type 0 where
    pub taker : d.taker ≡ (trade n e t b).taker
    pub book : d.book ≡ (trade n e t b).book
    pub out : d.out ≡ done ++ (trade n e t b).out

  left_ends : (d : Traded) (done : List Report) (n : ℕ) → None ≡ hit e t b → Left d done n → (t ≡ d.taker) × (b ≡ d.book) × (done ≡ d.out)
  unfolding trade
  left_ends d done zero h w = (sym w.taker, sym w.book, sym (w.out ∙ append-nil done))
  left_ends d done (suc n) h w =
      let f = rw (← h) at w.taker in
      let g = rw (← h) at w.book in
      let k = rw (← h) at w.out in
      (sym f, sym g, sym (k ∙ append-nil done))

  -- the same, with fuel enough for the fills that are still to come
  abbrev pub Going : Traded → List Report → Type 0
  Going d done = (n : ℕ) × Left d done n × (taken b + one t ≤ n + 1)

  pub going_starts : Going (trade (length b) e t b) []
  going_starts = (length b, record { taker = refl; book = refl; out = refl }, omega (arith, one_most t, count_by-le-length live b))

  pub going_ends : (d : Traded) (done : List Report) → None ≡ hit e t b → Going d done → (t ≡ d.taker) × (b ≡ d.book) × (done ≡ d.out)
  going_ends d done h w = left_ends d done w.0 h w.1

abbrev size : Order → List Order → ℕ → ℕ
size t b i = min t.remaining (at b i).remaining

abbrev filling : Order → List Order → ℕ → Report
filling t b i = Fill t.arrival (at b i).arrival (at b i).booked (size t b i)

abbrev taker_after : Order → List Order → ℕ → Order
taker_after t b i = with_rem t (t.remaining - size t b i)

abbrev book_after : Order → List Order → ℕ → List Order
book_after t b i = set b i (lower (at b i) (size t b i))

abbrev onward : Bests → Order → List Order → ℕ → ℕ → Traded
onward e t b n i =
    let d = trade n e (taker_after t b i) (book_after t b i) in
    record { taker = d.taker; book = d.book; out = filling t b i ∷ d.out }

goes : (e : Bests) (t : Order) (b : List Order) (n i : ℕ) → Some i ≡ hit e t b → trade (suc n) e t b ≡ onward e t b n i
unfolding trade
goes e t b n i h = rw (← h) refl

module _ (e : Bests) (t : Order) (b : List Order) (i : ℕ) (h : Some i ≡ hit e t b) where
  -- a fill does away with its maker or with its taker
  fills : taken (book_after t b i) + one (taker_after t b i) + 1 ≤ taken b + one t
  unfolding trade
  fills = let r = rw (goes e t b 0 i h) at (trade_room e 1 t b) in omega (arith, r)

  both_live : Live t × Live (at b i)
  both_live = let f = subst (Hit e t b) (sym h) (hits e t b) in (f.0, f.1)

  -- what remains of the taker is less after a fill
  pub shrinks : (taker_after t b i).remaining < t.remaining
  shrinks = omega (arith, both_live)

  fuelled : (n : ℕ) → taken b + one t ≤ n + 1 → n ≡ suc (n - 1)
  fuelled n few = omega (arith, few, one_live t both_live.0, one_live (at b i) both_live.1, get_or-le-sum_by one b i free (live_within b i both_live.1))

  -- a fill of the loop
  pub going_on : (t' : Order) (b' : List Order) (d : Traded) (done : List Report) → t' ≡ taker_after t b i → b' ≡ book_after t b i → Going e t b d done → Going e t' b' d (done ++ filling t b i ∷ [])
  going_on t' b' d done p q w =
      let n = w.0 - 1 in
      let m = fuelled w.0 w.2 in
      let left = w.1 in
      let same : trade w.0 e t b ≡ onward e t b n i = ap (λ k. trade k e t b) m ∙ goes e t b n i h in
      rw (p, q) (
        n,
        record {
          taker = left.taker ∙ ap (λ x. x.taker) same;
          book = left.book ∙ ap (λ x. x.book) same;
          out = left.out ∙ ap (λ x. done ++ x.out) same ∙ sym (append_assoc done (filling t b i ∷ []) (trade n e (taker_after t b i) (book_after t b i)).out);
        },
        omega (arith, fills, w.2, m),
      )

  -- there is room for the next fill
  pub going_room : (d : Traded) (done : List Report) → Going e t b d done → length done < length d.out
  going_room d done w =
      let n = w.0 - 1 in
      let same : trade w.0 e t b ≡ onward e t b n i = ap (λ k. trade k e t b) (fuelled w.0 w.2) ∙ goes e t b n i h in
      let all = ap length (w.1.out ∙ ap (λ x. done ++ x.out) same) in
      omega (arith, all, length-append done (filling t b i ∷ (trade n e (taker_after t b i) (book_after t b i)).out))
