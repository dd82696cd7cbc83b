use Rattle.std.proofs.Common.{◌≡◌, Result, Ok, sym, subst, rules}
use Rattle.values.specs.declared.calls.Header.{Header}
use Rattle.values.specs.declared.faults.CheckFault.{CheckFault}
use Rattle.checks.specs.declared.checked.Settings.{Settings}
use Rattle.checks.specs.Checked.{checked_header}
use Rattle.checks.specs.Law.{HeaderJudged}
use Rattle.checks.proofs.Law.{header_judged}
use Rattle.checks.proofs.calls.check_header.Goals as goal

judged : (h : Header) (r : Result Settings CheckFault) → r ≡ checked_header h → HeaderJudged h r
judged h r e = subst (λ r. HeaderJudged h r) (sym e) (header_judged h)

pub returns-in_err-ladder-clause-leftmost : goal.returns-in_err-ladder-clause-leftmost
returns-in_err-ladder-clause-leftmost c = judged c.args.header _ (search rules)

pub returns-in_err-wide-clause-leftmost : goal.returns-in_err-wide-clause-leftmost
returns-in_err-wide-clause-leftmost c = judged c.args.header _ (search rules)

pub returns-clause-leftmost : goal.returns-clause-leftmost
returns-clause-leftmost c = judged c.args.header (Ok (record { ladder = c.in_ok-ladder.ladder; wide = c.in_ok-wide.wide })) (search rules)
