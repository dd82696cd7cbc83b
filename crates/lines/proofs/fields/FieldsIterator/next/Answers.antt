use Rattle.std.proofs.Common.{◌∷◌, ap, sym, ◌∙◌, rules}
use Rattle.lines.specs.Words.{fields}
use Rattle.lines.specs.Handing.{left_of}
use Rattle.lines.proofs.Cuts.{fields_joined}
use Rattle.lines.proofs.fields.FieldsIterator.next.Goals as goal

pub returns-clause-steps : goal.returns-clause-steps
returns-clause-steps c =
    let cut = c.split_at_first in
    let field = c.read_field.ensures in (
      ap left_of c.in_ok-self.was
          ∙ ap fields cut.ensures.whole
          ∙ fields_joined cut.result.0.now cut.result.1 cut.ensures.before
          ∙ ap (λ f. f ∷ left_of cut.result.1) (sym field.part),
      search rules,
      search rules,
      search rules,
    )
