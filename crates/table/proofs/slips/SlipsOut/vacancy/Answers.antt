use Rattle.std.proofs.Common.{◌≡◌, length, ap, ◌∙◌, sym, rules, tests}
use Rattle.std.proofs.lemmas.List.{take_all}
use Rattle.std.proofs.lemmas.Iterator.{YieldsList-from_slice}
use Rattle.std.proofs.lemmas.Iterator.Search.{position_from_yields_List}
use Rattle.std.specs.List.{position}
use Rattle.rules.specs.Slips.{vacant}
use Rattle.table.proofs.Seats.{seat_position}
use Rattle.table.proofs.slips.SlipsOut.vacancy.Goals as goal

pub returns-clause-found : goal.returns-clause-found
returns-clause-found c =
    let b = c.args.self.now.places in
    let is : c.position.result ≡ position vacant b = position_from_yields_List vacant _ _ c.position.result c.position.ensures.ran (YieldsList-from_slice b cc) (λ x r q k. search (rules, tests)) in
    is ∙ ap (position vacant) (sym (take_all (length b) b (search rules))) ∙ seat_position vacant b (length b) (search rules)
