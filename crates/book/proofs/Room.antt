-- How many reports trading and resting write: each fill does away with its maker or with its taker. Assumes nothing.
use Rattle.std.proofs.Common.{◌≡◌, ℕ, ◌+◌, ◌<◌, ◌≤◌, Bool, true, false, cond, ◌&&◌, eqb, List, [], ◌∷◌, length, set, sum_by, refl, ap, ◌∙◌, arith}
use Rattle.std.proofs.lemmas.Bool.{ltb-true, cond_both}
use Rattle.std.proofs.lemmas.List.Sums.{sum_by-set, count_by-le-length}
use Rattle.values.specs.declared.reports.Report.{Report}
use Rattle.values.specs.declared.reports.Report.TheVariants.{Booked}
use Rattle.rules.specs.declared.Order.{Order}
use Rattle.rules.specs.declared.Bests.{Bests}
use Rattle.rules.specs.Book.{free, at, live, Live, priced, taken}
use Rattle.rules.specs.Trading.{trade}
use Rattle.rules.specs.Resting.{Out}
use Rattle.rules.specs.Quoting.{later}
use Rattle.trading_laws.specs.Books.{Low}
use Rattle.trading_laws.proofs.Slots.{branch_both, live_within}
use Rattle.trading_laws.proofs.Trade.{Lower, trade_length, trade_taker, trade_lowers}
use Rattle.trading_laws.proofs.Reports.{sum_mono}
use Rattle.trading_laws.proofs.Telling.{waiting, later_parts, later_from}
use Rattle.trading_laws.proofs.Skipping.{waits_less}
use Rattle.trading_laws.proofs.Room.{one, one_live, one_most, trade_room}
use Rattle.table.specs.declared.sides.Away.{Away}
use Rattle.book.specs.Rests.{rest_on, settle_on}

pub settle_room : (a : Away) (i : ℕ) (old t : Order) (b : List Order) → i < length b → length (settle_on a i old t b).out + taken (settle_on a i old t b).book ≤ taken b + one t + one t
settle_room a i old t b in' =
    cond_both (live t) _ _ (λ (r : Out). length r.out + taken r.book ≤ taken b + one t + one t)
    (λ y.
    let o = one_live t (ltb-true 0 t.remaining y) in
    branch_both (rest_on a t) _ _ (λ (r : Out). length r.out + taken r.book ≤ taken b + one t + one t) (λ _. omega (arith, o))
    (λ p _. omega (arith, o, few (eqb old.booked p.booked && eqb old.displayed p.displayed) (Booked t.arrival p.booked p.displayed t.remaining), sum_by-set one b i (priced t p.booked p.displayed) free in')))
    (λ _. omega arith)
  where
    few : (c : Bool) (r : Report) → length (cond c [] (r ∷ [])) ≤ 1
    few true r = omega arith
    few false r = omega arith

-- a taker that leaves its own place
pub leave_room : (e : Bests) (n : ℕ) (t : Order) (b b' : List Order) (i : ℕ) → Live (at b i) → t ≡ at b i → b' ≡ set b i free → length (trade n e t b').out + taken (trade n e t b').book + one (trade n e t b').taker ≤ taken b
leave_room e n t b b' i l f g =
    rw (f, g) (omega (arith, one_live (at b i) l, trade_room e n (at b i) (set b i free), sum_by-set one b i free free (live_within b i l)))

-- trading from its own place, then resting: at most one report more than orders that are gone
pub turn_spends : (e : Bests) (a : Away) (n i : ℕ) (old t left : Order) (b b' b₁ b₂ : List Order) (u u₁ u₂ : ℕ) → Live (at b i) → t ≡ at b i → b' ≡ set b i free → left ≡ (trade n e t b').taker → b₁ ≡ (trade n e t b').book → i < length b₁ → b₂ ≡ (settle_on a i old left b₁).book → u₁ ≡ u + length (trade n e t b').out → u₂ ≡ u₁ + length (settle_on a i old left b₁).out → u₂ + taken b₂ ≤ u + taken b + 1
turn_spends e a n i old t left b b' b₁ b₂ u u₁ u₂ l f g h k m s p q =
    let first : length (trade n e t b').out + taken b₁ + one left ≤ taken b = rw (h, k) (leave_room e n t b b' i l f g) in
    let then : length (settle_on a i old left b₁).out + taken b₂ ≤ taken b₁ + one left + one left = rw s (settle_room a i old left b₁ m) in
    omega (arith, first, then, p, q, one_most left)

-- each fill but the last frees a place
pub trade_few : (e : Bests) (n : ℕ) (t : Order) (b : List Order) → length b ≡ 64 → length (trade n e t b).out ≤ 65
trade_few e n t b h = omega (arith, h, trade_room e n t b, one_most t, count_by-le-length live b)

-- ---- after its turn an order waits no more, and nobody else begins to wait
waits_not : (o : Order) (a : ℕ) → o.arrival ≤ a → waiting a o ≡ 0
waits_not o a h = cond_both (later a o) 1 0 (λ n. n ≡ 0) (λ y. absurd (omega (arith, h, (later_parts a o y).1))) (λ _. refl)

waits_low : (a : ℕ) (o p : Order) → Low o p → waiting a p ≤ waiting a o
waits_low a o p low =
    cond_both (later a p) 1 0 (λ n. n ≤ waiting a o)
    (λ y.
    let q = later_parts a p y in
    let g : later a o ≡ true = later_from a o (low.live q.0) (omega (arith, q.1, ap (λ x. x.arrival) (low.same q.0))) in
    rw g (omega arith))
    (λ _. omega arith)

settle_waits : (a : Away) (x i : ℕ) (old t : Order) (b : List Order) → i < length b → t.arrival ≤ x → sum_by (waiting x) (settle_on a i old t b).book ≤ sum_by (waiting x) b
settle_waits a x i old t b in' h =
    cond_both (live t) _ _ Fewer (λ _. branch_both (rest_on a t) _ _ Fewer (λ _. omega arith) (λ p _. omega (arith, sum_by-set (waiting x) b i (priced t p.booked p.displayed) free in', waits_not (priced t p.booked p.displayed) x h))) (λ _. omega arith)
  where
    Fewer : Out → Type 0
    Fewer r = sum_by (waiting x) r.book ≤ sum_by (waiting x) b

pub turn_waits : (e : Bests) (a : Away) (n i k : ℕ) (old t left : Order) (b b' b₁ b₂ : List Order) → later k (at b i) ≡ true → t ≡ at b i → b' ≡ set b i free → left ≡ (trade n e t b').taker → b₁ ≡ (trade n e t b').book → i < length b₁ → b₂ ≡ (settle_on a i old left b₁).book → sum_by (waiting (at b i).arrival) b₂ < sum_by (waiting k) b
turn_waits e a n i k old t left b b' b₁ b₂ l f g h m in' s =
    let x = (at b i).arrival in
    let own = later_parts k (at b i) l in
    let arrival : left.arrival ≡ x = ap (λ o. o.arrival) (h ∙ trade_taker e n t b') ∙ ap (λ o. o.arrival) f in
    let one : waiting k (at b i) ≡ 1 = rw l refl in
    let low : Lower b' b₁ = rw m (trade_lowers e n t b') in
    let traded : sum_by (waiting x) b₁ ≤ sum_by (waiting x) b' = sum_mono (waiting x) (waiting x) b' b₁ (ap length m ∙ trade_length e n t b') (λ j. waits_low x (at b' j) (at b₁ j) (low j)) in
    let settled : sum_by (waiting x) b₂ ≤ sum_by (waiting x) b₁ = rw s (settle_waits a x i old left b₁ in' (omega (arith, arrival))) in
    let left_out : sum_by (waiting k) b' + waiting k (at b i) ≡ sum_by (waiting k) b + waiting k free = rw g (sum_by-set (waiting k) b i free free (live_within b i own.0)) in
    omega (arith, traded, settled, left_out, one, waits_less k x b' (omega (arith, own.1)))
