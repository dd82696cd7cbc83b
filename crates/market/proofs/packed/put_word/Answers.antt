use Rattle.std.proofs.Common.{[], ◌∷◌, get_or, ap, ◌∙◌}
use Rattle.market.specs.Packing.{overwritten}
use Rattle.market.proofs.Overwrites.{four_sets}
use Rattle.market.proofs.packed.put_word.Goals as goal

pub returns-clause-exact : goal.returns-clause-exact
returns-clause-exact c =
    four_sets c.args.bytes.now c.args.at _ _ _ _ c.requires ∙ ap (λ r. overwritten c.args.bytes.now c.args.at (get_or r 0 0 ∷ get_or r 1 0 ∷ get_or r 2 0 ∷ get_or r 3 0 ∷ [])) c.to_be_bytes.ensures
