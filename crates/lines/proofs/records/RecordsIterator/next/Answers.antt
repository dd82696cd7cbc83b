use Rattle.std.proofs.Common.{◌<◌, length, ap, ◌∙◌, subst, ℕ, List, rules}
use Rattle.lines.specs.Inputs.{lines_of}
use Rattle.lines.proofs.Breaks.{lines_joined}
use Rattle.lines.proofs.records.RecordsIterator.next.Goals as goal

pub returns-clause-steps : goal.returns-clause-steps
returns-clause-steps c =
    let cut = c.split_at_first in
    let some : 0 < length c.args.self.now.rest.now = search rules in
    ap lines_of cut.ensures.whole
    ∙ lines_joined cut.result.0.now cut.result.1 c.unwrap_or_default-self.result.now cut.ensures.before (subst (λ (l : List ℕ). 0 < length l) cut.ensures.whole some) (search rules)
