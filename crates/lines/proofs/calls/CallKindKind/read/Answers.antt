use Rattle.std.proofs.Common.{◌≡◌, ℕ, List, Result, ap, sym, ◌∙◌}
use Rattle.values.specs.declared.calls.Call.{Call}
use Rattle.values.specs.declared.faults.LineFault.{LineFault}
use Rattle.lines.specs.declared.calls.CallKind.{CallKind}
use Rattle.lines.specs.Handing.{left_of}
use Rattle.lines.specs.Calls.{read_all, sorts_of, call_of}
use Rattle.lines.proofs.calls.CallKindKind.read.Goals as goal

same : {r : Result Call LineFault} {k j : CallKind} (fs : List (List ℕ)) (p : ℕ) → k ≡ j → r ≡ read_all (sorts_of j) fs p (call_of j) → r ≡ read_all (sorts_of k) fs p (call_of k)
same fs p is e = e ∙ ap (λ k. read_all (sorts_of k) fs p (call_of k)) (sym is)

pub returns-in-Away : goal.returns-in-Away
returns-in-Away c = same (left_of c.args.fields.rest) c.args.fields.place c.in-Away.is c.away_in.ensures

pub returns-in-Order : goal.returns-in-Order
returns-in-Order c = same (left_of c.args.fields.rest) c.args.fields.place c.in-Order.is c.order_in.ensures

pub returns-in-Reply : goal.returns-in-Reply
returns-in-Reply c = same (left_of c.args.fields.rest) c.args.fields.place c.in-Reply.is c.reply_in.ensures
