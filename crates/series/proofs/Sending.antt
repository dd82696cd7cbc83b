-- The slips of an entry: the last of their list, and at most fifteen. Assumes nothing.
use Rattle.std.proofs.Common.{◌≡◌, ℕ, suc, ◌+◌, ◌-◌, ◌≤◌, Bool, true, false, cond, List, ◌++◌, length, take, drop, ap, ◌∙◌, subst, add-one, arith, length-drop, length-take}
use Rattle.std.proofs.lemmas.List.{take_all, drop-append-le, drop_all}
use Rattle.market.specs.declared.board.Quote.{Quote}
use Rattle.values.specs.declared.reports.Slip.{Slip}
use Rattle.rules.specs.declared.Bests.{Bests}
use Rattle.rules.specs.declared.Order.{Order}
use Rattle.rules.specs.declared.Terms.{Terms}
use Rattle.rules.specs.Routing.{routing}
use Rattle.rules.specs.Resting.{enter, turn}
use Rattle.records.specs.declared.list.AppendList.{AppendList}
use Rattle.records.specs.Contents.{contents, used, capacity, Grown}
use Rattle.values.specs.declared.reports.Report.{Report}
use Rattle.rules.specs.declared.Sent.{Sent}
use Rattle.rules.specs.Slips.{filed}
use Rattle.rules.specs.States.{State}
use Rattle.book.specs.Rests.{Dealt}
use Rattle.series.specs.States.{Admitted}
use Rattle.law.proofs.Sharing.{routing_shared}

-- what a list gained stands from where it ended before
pub gained : {T : Type 0} (l l' : AppendList T) (xs : List T) (n : ℕ) → Grown l xs l' → n ≡ used l → used l ≤ capacity l → drop n (contents l') ≡ xs
gained l l' xs n g from in' =
    let here : length (contents l) ≡ n = length-take l.len _ ∙ omega (arith, from, in') in
    ap (drop n) g.added ∙ drop-append-le n (contents l) xs (omega (arith, here)) ∙ ap (λ ys. ys ++ xs) (drop_all n (contents l) (omega (arith, here)))

pub few_sent : (e : Bests) (R : ℕ → Bool) (go : Bool) (qs : List Quote) (k i a : ℕ) (t : Terms) (b : List Order) → length qs ≡ 15 → length (enter e R (routing go qs e k) i a t b).slips ≤ 15
unfolding enter turn
few_sent e R go qs k i a t b long = go_on go (length qs) _ (routing_shared go qs e k _).few long
  where
    go_on : (go : Bool) (q n : ℕ) → n ≤ cond go q 0 → q ≡ 15 → n ≤ 15
    go_on true q n h e = omega arith
    go_on false q n h e = omega arith

pub sent_few : (e : Bests) (R : ℕ → Bool) (go : Bool) (qs : List Quote) (k i a : ℕ) (t : Terms) (b : List Order) (l l' : AppendList Slip) (n : ℕ) → length qs ≡ 15 → Grown l (enter e R (routing go qs e k) i a t b).slips l' → n ≡ used l → (n ≤ used l') × (used l' ≤ n + 15)
sent_few e R go qs k i a t b l l' n long g from =
    let few = few_sent e R go qs k i a t b long in
    (omega (arith, g.used, from), omega (arith, g.used, from, few))

-- the end of a slice
pub rest_of : {T : Type 0} (all xs : List T) (n : ℕ) → all ≡ xs → take (length all - n) (drop n all) ≡ drop n xs
rest_of all xs n e = take_all (length all - n) (drop n all) (omega (arith, length-drop n all)) ∙ ap (drop n) e

same_state : (s : State) (b b' : List Order) (x x' : List Sent) (a a' n n' : ℕ) → b ≡ b' → x ≡ x' → a ≡ a' → n ≡ n'
    → ◌≡◌ {A = State} (record { opened = s.opened; wide = s.wide; quotes = s.quotes; orders = b; sent = x; arrivals = a; numbered = n }) (record { opened = s.opened; wide = s.wide; quotes = s.quotes; orders = b'; sent = x'; arrivals = a'; numbered = n' })
same_state s b b' x x' a a' n n' p q r t = cc

-- an entry of the book, with its slips filed, is an entry of the series
pub admitted : (e : Bests) (R : ℕ → Bool) (go may : Bool) (qs : List Quote) (i : ℕ) (t : Terms) (s : State) (id : ℕ) (b' : List Order) (x : List Sent) (count first : ℕ) (l l' : AppendList Report) (k k' : AppendList Slip) → go ≡ may → Dealt (enter e R (routing go qs e s.numbered) i (s.arrivals + 1) t s.orders) b' l l' k k' → x ≡ filed id (drop first (contents k')) s.sent → count + first ≡ used k' → first ≡ used k → used k ≤ capacity k
    → Admitted (enter e R (routing may qs e s.numbered) i (suc s.arrivals) t s.orders) id s (record { opened = s.opened; wide = s.wide; quotes = s.quotes; orders = b'; sent = x; arrivals = s.arrivals + 1; numbered = s.numbered + count }) l l' k k'
admitted e R go may qs i t s id b' x count first l l' k k' asked dealt out n from in' =
    let r = enter e R (routing may qs e s.numbered) i (suc s.arrivals) t s.orders in
    let d₁ = subst (λ (y : Bool). Dealt (enter e R (routing y qs e s.numbered) i (s.arrivals + 1) t s.orders) b' l l' k k') asked dealt in
    let d : Dealt r b' l l' k k' = subst (λ (a : ℕ). Dealt (enter e R (routing may qs e s.numbered) i a t s.orders) b' l l' k k') (add-one s.arrivals) d₁ in
    let counted : count ≡ length r.slips = omega (arith, d.sent.used, n, from) in
    record {
      after = same_state s _ _ _ _ _ _ _ _ d.book (out ∙ ap (λ xs. filed id xs s.sent) (gained k k' r.slips first d.sent from in')) (add-one s.arrivals) (ap (λ m. s.numbered + m) counted);
      reported = d.reported;
      sent = d.sent;
    }
