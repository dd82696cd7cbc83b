use Rattle.std.proofs.Common.{◌≡◌, false, length, take, refl, ◌∙◌, sym, rules, tests}
use Rattle.std.proofs.lemmas.Iterator.{YieldsList-from_slice}
use Rattle.std.proofs.lemmas.Iterator.Search.{position_from_yields_List}
use Rattle.std.specs.List.{position}
use Rattle.rules.specs.States.{named}
use Rattle.table.proofs.Picks.{pick_all, first_position}
use Rattle.table.proofs.orders.Orders.find.Goals as goal

pub returns-clause-found : goal.returns-clause-found
returns-clause-found c =
    let b = c.args.self.now.places in
    let n = c.args.self.now.extent in
    let is : c.position.result ≡ position (named c.args.id) (take n b) = position_from_yields_List (named c.args.id) _ _ c.position.result c.position.ensures.ran (YieldsList-from_slice (take n b) cc) (λ x r q k. search (rules, tests)) in
    is ∙ first_position (named c.args.id) b n (search rules) ∙ sym (pick_all (named c.args.id) (λ x y. false) b refl n (length b) (search rules) c.args.self.now.beyond)
