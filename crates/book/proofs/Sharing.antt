-- Routing's shares, exchange by exchange. Assumes nothing.
use Rattle.std.proofs.Common.{◌≡◌, ℕ, suc, ◌+◌, ◌-◌, ◌<◌, ◌≤◌, Bool, true, false, ltb, List, [], ◌∷◌, ◌++◌, length, get_or, drop, sym, refl, ap, ◌∙◌, append_assoc, append-nil, add-one, arith, length-append, drop-cons}
use native.Mathlib.Nat.{sub-zero}
use Rattle.std.proofs.lemmas.List.{drop_all}
use Rattle.std.proofs.lemmas.List.Sums.{sum_by-append}
use Rattle.std.proofs.lemmas.Bool.{ltb-false}
use Rattle.market.specs.declared.board.Quote.{Quote}
use Rattle.values.specs.declared.terms.Side.{Side}
use Rattle.values.specs.declared.reports.Slip.{Slip}
use Rattle.rules.specs.declared.Order.{Order}
use Rattle.rules.specs.declared.Bests.{Bests}
use Rattle.rules.specs.Sides.{facing}
use Rattle.rules.specs.Book.{side_of, with_rem}
use Rattle.rules.specs.Routing.{shares, total, routing}
use Rattle.records.specs.declared.list.AppendList.{AppendList}
use Rattle.records.specs.Contents.{Grown}
use Rattle.records.proofs.Growing.{grown_none}
use Rattle.book.specs.Shares.{share, share_size, next_slip, all_shares, goes_out, first_slip}

abbrev its_share : Side → Slip → Quote → List Slip
its_share s f q = share s f.price f.arrival f.exchange f.number f.size q

abbrev sized : Side → Slip → Quote → ℕ
sized s f q = share_size s f.price f.size q

-- one exchange's share, then those of the others
one_by : (s : Side) (q : Quote) (qs : List Quote) (f : Slip) (x : Bool) → ltb 0 (sized s f q) ≡ x → all_shares s (q ∷ qs) f ≡ its_share s f q ++ all_shares s qs (next_slip f (sized s f q))
unfolding shares
one_by s q qs f true e = rw (e, add-one f.exchange, add-one f.number) refl
one_by s q qs f false e =
    let z : sized s f q ≡ 0 = omega (arith, ltb-false 0 (sized s f q) e) in
    rw (e, z, sub-zero, add-one) refl

shares_none : (s : Side) (f : Slip) → all_shares s [] f ≡ []
unfolding shares
shares_none s f = refl

share_one : (s : Side) (f : Slip) (q : Quote) (x : Bool) → ltb 0 (sized s f q) ≡ x → (length (its_share s f q) ≤ 1) × ((next_slip f (sized s f q)).number ≡ f.number + length (its_share s f q)) × (f.size - sized s f q + total (its_share s f q) ≡ f.size)
share_one s f q true e = rw e (omega arith, refl, omega arith)
share_one s f q false e = rw e (omega arith, omega arith, omega (arith, ltb-false 0 (sized s f q) e))

-- i exchanges had their share, `done`; `next` is the slip that the next one may get
pub record Going (s : Side) (qs : List Quote) (first next : Slip) (done : List Slip) (i : ℕ) : Type 0 where
  pub price : next.price ≡ first.price
  pub arrival : next.arrival ≡ first.arrival
  pub exchange : next.exchange ≡ first.exchange + i
  pub number : next.number ≡ first.number + length done
  pub few : length done ≤ i
  pub size : next.size + total done ≡ first.size
  pub out : all_shares s qs first ≡ done ++ all_shares s (drop i qs) next

pub going_starts : (s : Side) (qs : List Quote) (first : Slip) → Going s qs first first [] 0
going_starts s qs first = record {
  price = refl;
  arrival = refl;
  exchange = omega arith;
  number = omega arith;
  few = omega arith;
  size = omega arith;
  out = refl;
}

step : (s : Side) (qs : List Quote) (first next : Slip) (done : List Slip) (i : ℕ) (q d : Quote) → i < length qs → q ≡ get_or qs i d → Going s qs first next done i → Going s qs first (next_slip next (sized s next q)) (done ++ its_share s next q) (i + 1)
step s qs first next done i q d h e g =
    let one = share_one s next q (ltb 0 (sized s next q)) refl in
    let lengths = length-append done (its_share s next q) in
    record {
      price = g.price;
      arrival = g.arrival;
      exchange = omega (arith, g.exchange);
      number = omega (arith, one.1, g.number, lengths);
      few = omega (arith, one.0, g.few, lengths);
      size = omega (arith, one.2, g.size, sum_by-append (λ (x : Slip). x.size) done (its_share s next q));
      out =
          g.out
          ∙ ap (λ rest. done ++ all_shares s rest next) (drop-cons qs i d h ∙ ap (λ x. x ∷ drop (suc i) qs) (sym e) ∙ ap (λ k. q ∷ drop k qs) (sym (add-one i)))
          ∙ ap (λ rest. done ++ rest) (one_by s q (drop (i + 1) qs) next (ltb 0 (sized s next q)) refl)
          ∙ sym (append_assoc done (its_share s next q) (all_shares s (drop (i + 1) qs) (next_slip next (sized s next q))));
    }

-- m contracts went to the exchange with the i-th quote
pub going_on : (s : Side) (qs : List Quote) (first next next' : Slip) (done : List Slip) (i m : ℕ) (d : Quote) → i < length qs → m ≡ sized s next (get_or qs i d) → next' ≡ next_slip next m → Going s qs first next done i → Going s qs first next' (done ++ its_share s next (get_or qs i d)) (i + 1)
going_on s qs first next next' done i m d h e f g = rw (f, e) (step s qs first next done i (get_or qs i d) d h refl g)

pub going_ends : (s : Side) (qs : List Quote) (first next : Slip) (done : List Slip) (i : ℕ) → length qs ≤ i → Going s qs first next done i → done ≡ all_shares s qs first
going_ends s qs first next done i h g =
    sym (g.out ∙ ap (λ rest. done ++ all_shares s rest next) (drop_all i qs h) ∙ ap (λ rest. done ++ rest) (shares_none s next) ∙ append-nil done)

-- ---- whether an order goes out
module _ (go : Bool) (qs : List Quote) (e : Bests) (k : ℕ) (t : Order) where
  stays_in : goes_out go e t ≡ false → routing go qs e k t ≡ []
  unfolding routing
  stays_in h = rw h refl

  sends : goes_out go e t ≡ true → routing go qs e k t ≡ all_shares (side_of t) qs (first_slip (facing e (side_of t)) k t)
  unfolding routing
  sends h = rw (h, add-one) refl

  pub stays_grown : (l : AppendList Slip) → goes_out go e t ≡ false → Grown l (routing go qs e k t) l
  stays_grown l h = rw (stays_in h) (grown_none l)

  pub stays_left : goes_out go e t ≡ false → t ≡ with_rem t (t.remaining - total (routing go qs e k t))
  stays_left h = rw (stays_in h, sub-zero) refl

  module _ (w : ℕ) (f : w ≡ facing e (side_of t)) (h : goes_out go e t ≡ true) where
    same : all_shares (side_of t) qs (first_slip w k t) ≡ routing go qs e k t
    same = ap (λ x. all_shares (side_of t) qs (first_slip x k t)) f ∙ sym (sends h)

    pub goes_grown : (l l' : AppendList Slip) → Grown l (all_shares (side_of t) qs (first_slip w k t)) l' → Grown l (routing go qs e k t) l'
    goes_grown l l' g = rw same at g

    pub goes_left : (n : ℕ) → n + total (all_shares (side_of t) qs (first_slip w k t)) ≡ t.remaining → with_rem t n ≡ with_rem t (t.remaining - total (routing go qs e k t))
    goes_left n g =
        let m : n ≡ t.remaining - total (routing go qs e k t) = omega (arith, g, ap total same) in
        ap (with_rem t) m
