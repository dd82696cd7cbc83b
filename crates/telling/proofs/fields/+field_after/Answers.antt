use Rattle.std.proofs.Common.{[], ◌-◌, get_or, sym, ap, ◌∙◌, arith}
use Rattle.lines.specs.Words.{fields}
use Rattle.lines.specs.Handing.{left_of}
use Rattle.lines.proofs.Cuts.{fields_joined}
use Rattle.telling.proofs.Cuts.{field_later}
use Rattle.telling.proofs.fields.+field_after.Goals as goal

pub returns-then-tabs-eq0 : goal.returns-then-tabs-eq0
returns-then-tabs-eq0 t c =
    let cut = c.split_at_first in
    let parts = ap fields cut.ensures.whole ∙ fields_joined cut.result.0.now cut.result.1 cut.ensures.before in
    ap (λ fs. get_or fs 0 []) (sym parts) ∙ ap (λ k. get_or (fields c.args.line.now) k []) (sym c.if-tabs-eq0.true)

pub returns-in-Some : goal.returns-in-Some
returns-in-Some t c =
    let cut = c.split_at_first in
    let parts = ap fields cut.ensures.whole ∙ fields_joined cut.result.0.now cut.result.1 cut.ensures.before in
    c.field_after.ensures
    ∙ ap (λ r. get_or (left_of r) (c.args.tabs - 1) []) (sym c.in-Some.is)
    ∙ field_later c.args.tabs cut.result.0.now (left_of cut.result.1) (omega (arith, c.if-tabs-eq0.false))
    ∙ ap (λ fs. get_or fs c.args.tabs []) (sym parts)

pub returns-in-None : goal.returns-in-None
returns-in-None t c =
    let cut = c.split_at_first in
    let parts = ap fields cut.ensures.whole ∙ fields_joined cut.result.0.now cut.result.1 cut.ensures.before in
    ap (λ r. get_or (left_of r) (c.args.tabs - 1) []) (sym c.in-None.is)
    ∙ field_later c.args.tabs cut.result.0.now (left_of cut.result.1) (omega (arith, c.if-tabs-eq0.false))
    ∙ ap (λ fs. get_or fs c.args.tabs []) (sym parts)
