use Rattle.std.proofs.Common.{◌≡◌, ℕ, Bool, Result, Ok, sym, subst, rules}
use Rattle.values.specs.declared.calls.Call.{Call}
use Rattle.values.specs.declared.faults.CheckFault.{CheckFault}
use Rattle.checks.specs.declared.checked.CheckedCall.{CheckedCall}
use Rattle.checks.specs.declared.checked.CheckedCall.TheVariants.{Order}
use Rattle.checks.specs.Checked.{checked_call}
use Rattle.checks.specs.Law.{CallJudged}
use Rattle.checks.proofs.Law.{call_judged}
use Rattle.checks.proofs.calls.check_call.Goals as goal

judged : (rung : ℕ → Bool) (call : Call) (r : Result CheckedCall CheckFault) → r ≡ checked_call rung call → CallJudged rung call r
judged rung call r e = subst (λ r. CallJudged rung call r) (sym e) (call_judged rung call)

pub returns-in-Away-clause-leftmost : goal.returns-in-Away-clause-leftmost
returns-in-Away-clause-leftmost g c = judged (g.L.Ladder.rung c.args.ladder.now) c.args.call _ (search rules)

pub returns-in_err-order-in-Order-clause-leftmost : goal.returns-in_err-order-in-Order-clause-leftmost
returns-in_err-order-in-Order-clause-leftmost g c = judged (g.L.Ladder.rung c.args.ladder.now) c.args.call c.from_residual.result (search rules)

pub returns-in_ok-order-in-Order-clause-leftmost : goal.returns-in_ok-order-in-Order-clause-leftmost
returns-in_ok-order-in-Order-clause-leftmost g c = judged (g.L.Ladder.rung c.args.ladder.now) c.args.call (Ok (Order c.in_ok-order-in-Order.order)) (search rules)
