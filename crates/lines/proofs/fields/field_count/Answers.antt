use Rattle.std.proofs.Common.{◌∙◌, ap, sym, ◌+◌, arith}
use Rattle.lines.proofs.Cuts.{fields_summed, tabs_few}
use Rattle.lines.proofs.fields.field_count.Goals as goal

pub overflow_add-result : goal.overflow_add-result
overflow_add-result c = let few = tabs_few c.args.line.now in omega (arith, few, c.tabs.ensures, c.requires)

pub returns : goal.returns
returns c = ap (λ n. n + 1) c.tabs.ensures ∙ sym (fields_summed c.args.line.now)
