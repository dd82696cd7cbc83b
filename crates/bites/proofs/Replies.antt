-- Replies that the law forbids. Assumes nothing.
use Rattle.std.proofs.Common.{◌≡◌, zero, suc, ◌+◌, ◌<◌, true, false, List, [], ◌∷◌, replicate, sym, refl, ap, subst, arith}
use Rattle.std.specs.List.{ContainsAt as Has}
use Rattle.market.specs.Quotes.{absent}
use Rattle.market.specs.Rungs.{cents}
use Rattle.values.specs.declared.terms.Side.TheVariants.{Buy, Sell}
use Rattle.values.specs.declared.terms.Kind.TheVariants.{Limit}
use Rattle.values.specs.declared.terms.Origin.TheVariants.{Customer}
use Rattle.values.specs.declared.terms.Mark.TheVariants.{Route}
use Rattle.values.specs.declared.calls.Call.TheVariants as call
use Rattle.values.specs.declared.faults.SeriesFault.TheVariants.{SlipNotOut}
use Rattle.values.specs.declared.reports.Report.TheVariants.{New, Booked, FilledAway}
use Rattle.values.specs.declared.reports.Slip.{Slip}
use Rattle.values.specs.Codes.{of_series}
use Rattle.checks.specs.declared.checked.CheckedOrder.{CheckedOrder}
use Rattle.rules.specs.declared.Sent.{Sent}
use Rattle.rules.specs.Sizes.{away, cancelled}
use Rattle.rules.specs.Slips.{no_sent}
use Rattle.rules.specs.States.{State}
use Rattle.rules.specs.Steps.{Step, Run}
use Rattle.rules.specs.Steps.Event.{did, refused}
use Rattle.rules.specs.Steps.Step.{entered as enters, replied as replies, left as leaves}
use Rattle.rules.specs.Steps.Run.{next}
use Rattle.rules.specs.Day.{room}
use Rattle.edges.specs.Calls.{quoting, sell, entered, Comes}
use Rattle.edges.proofs.Series.{filled_up, open_with, terms, checked, rests}
use Rattle.edges.proofs.Steps.{rulebook, market_run}
use Rattle.bites.specs.Wrong.{routed_buy, slip_1, slip_out, replied, three_of_ten, replied_twice, replied_beside, SettledTwice, SettledInPart, CancelsAnother}

abbrev routed_checked : CheckedOrder
routed_checked = record { id = 71; firm = 4; side = Buy; origin = Customer; kind = Limit; mark = Route; limit = 112; size = 30; protection = 0 }

abbrev with_sent : List Sent → State
with_sent ss = record { opened = true; wide = false; quotes = quoting 108 112 ∷ replicate 14 absent; orders = filled_up (rests 1 (terms Buy 71 112 0 30) 112 111 20 ∷ []); sent = ss; arrivals = 1; numbered = 1 }

abbrev sent_out : State
sent_out = with_sent (record { slip = slip_1; id = 71 } ∷ replicate 63 no_sent)

abbrev settled : State
settled = with_sent (replicate 64 no_sent)

send : Step cents (open_with false (quoting 108 112) [] 0) (did (call.Order routed_buy) room (New 1 71 ∷ Booked 1 112 111 20 ∷ []) (slip_1 ∷ [])) sent_out
unfolding rulebook
send = enters 0 routed_checked refl refl (omega arith) refl

answer : Step cents sent_out (replied three_of_ten) settled
unfolding rulebook
answer = replies 0 refl refl

answered_run : Run cents false (replied three_of_ten ∷ slip_out) settled
unfolding rulebook
answered_run = next (next (market_run false 108 112 refl refl) send) answer

refused_run : Comes cents false (replied_twice (refused (call.Reply 1 3) room (of_series SlipNotOut)))
unfolding rulebook
refused_run = (settled, next answered_run (leaves (of_series SlipNotOut) refl))

pub settled_twice : SettledTwice
unfolding rulebook
settled_twice = (refused_run, λ l. let k : l.answered.0.was_out.0 < 0 = l.answered.0.was_out.1 in omega arith)

-- what stands in a list of one is that one
only_one : (x y : Slip) → Has (x ∷ []) y → x ≡ y
only_one x y (zero, k, e) = e x
only_one x y (suc n, k, e) = let no : ⊥ = omega arith in absurd no

pub settled_in_part : SettledInPart
unfolding rulebook
settled_in_part = (
  (settled, answered_run),
  λ l.
      let e : l.answered.0.slip ≡ slip_1 = sym (only_one slip_1 l.answered.0.slip l.answered.0.was_out) in
      let w : 3 ≡ 10 = subst (λ x. away x.arrival (FilledAway 1 1 3 ∷ []) + cancelled x.arrival (FilledAway 1 1 3 ∷ []) ≡ x.size) e l.answered.0.whole in
      omega arith,
)

-- ---- a sell rests besides
abbrev beside : List Sent → State
beside ss = record {
  opened = true;
  wide = false;
  quotes = quoting 108 112 ∷ replicate 14 absent;
  orders = filled_up (rests 1 (terms Buy 71 112 0 30) 112 111 20 ∷ rests 2 (terms Sell 72 115 0 10) 115 115 10 ∷ []);
  sent = ss;
  arrivals = 2;
  numbered = 1;
}

sell_beside : Step cents sent_out (entered (sell 72 115 10 0) (New 2 72 ∷ Booked 2 115 115 10 ∷ [])) (beside (record { slip = slip_1; id = 71 } ∷ replicate 63 no_sent))
unfolding rulebook
sell_beside = enters 1 (checked Limit Sell 72 115 10 0) refl refl (omega arith) refl

beside_run : Comes cents false (replied_beside [])
unfolding rulebook
beside_run = (beside (replicate 64 no_sent), next (next (next (market_run false 108 112 refl refl) send) sell_beside) (replies 0 refl refl))

pub cancels_another : CancelsAnother
unfolding rulebook
cancels_another = (
  beside_run,
  λ l.
      let x = l.answered.0.slip in
      let e : 1 ≡ x.arrival = ap (λ y. y.arrival) (only_one slip_1 x l.answered.0.was_out) in
      let w : 4 ≡ 0 = (l.answered.0.no_other 2 (λ z. omega (arith, z, e))).1 in
      omega arith,
)
