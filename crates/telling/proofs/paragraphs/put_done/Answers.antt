use Rattle.std.proofs.Common.{string_bytes, ◌++◌, ap, ◌∙◌, rules}
use Rattle.std.proofs.lemmas.Result.{IfOk-weaker}
use Rattle.phrases.specs.Asked.{asked_words}
use Rattle.telling.specs.Paragraphs.{done}
use Rattle.telling.proofs.Choosing.{closing_none, closing_some}
use Rattle.telling.proofs.Steps.{four}
use Rattle.telling.proofs.paragraphs.put_done.Goals as goal

pub returns-then-is_empty : goal.returns-then-is_empty
unfolding done
returns-then-is_empty c =
    let closed = ap (λ l. string_bytes c.put_each-2.new.out ++ l) (closing_none c.args.reports.now (search rules)) in
    IfOk-weaker c.writeln.result _ _ (λ _ e. four (string_bytes c.args.out.now) _ _ _ _ (asked_words c.args.call) _ _ _ c.in_ok-write.ensures.bytes c.in_ok-put_each.ensures c.in_ok-put_each-2.ensures (e ∙ closed)) c.writeln.ensures.bytes

pub returns-else-is_empty : goal.returns-else-is_empty
unfolding done
returns-else-is_empty c =
    let closed = ap (λ l. string_bytes c.put_each-2.new.out ++ l) (closing_some c.args.reports.now (search rules)) in
    IfOk-weaker c.writeln-else-is_empty.result _ _ (λ _ e. four (string_bytes c.args.out.now) _ _ _ _ (asked_words c.args.call) _ _ _ c.in_ok-write.ensures.bytes c.in_ok-put_each.ensures c.in_ok-put_each-2.ensures (e ∙ closed)) c.writeln-else-is_empty.ensures.bytes
