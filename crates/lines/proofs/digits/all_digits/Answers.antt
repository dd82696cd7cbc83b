use Rattle.std.proofs.Common.{◌≡◌, ℕ, List, [], ◌∷◌, ◌&&◌, refl, ap, ◌∙◌, rules, tests}
use Rattle.std.specs.List.{list_all}
use Rattle.std.proofs.lemmas.Iterator.{YieldsList-from_slice}
use Rattle.std.proofs.lemmas.Iterator.Search.{all_from_yields_List}
use Rattle.lines.specs.Digits.{is_digit, all_digits}
use Rattle.lines.proofs.digits.all_digits.Goals as goal

each : (bs : List ℕ) → list_all is_digit bs ≡ all_digits bs
each [] = refl
each (b ∷ bs) = ap (λ r. is_digit b && r) (each bs)

pub returns : goal.returns
returns c =
    all_from_yields_List is_digit _ _ _ c.all.ensures.ran (YieldsList-from_slice c.args.bytes.now (cc)) (λ x b q k. search (rules, tests)) ∙ each c.args.bytes.now
