use Rattle.std.proofs.Common.{◌≡◌, length, take, ◌∙◌, sym, rules, tests}
use Rattle.std.proofs.lemmas.Iterator.{YieldsList-from_slice}
use Rattle.std.proofs.lemmas.Iterator.Consumers.{fold_from_yields_List}
use Rattle.std.specs.List.{fold}
use Rattle.table.specs.Reach.{beside}
use Rattle.table.proofs.Picks.{shown_fold, shown_all}
use Rattle.table.proofs.orders.Orders.best.Goals as goal

pub returns : goal.returns
returns c =
    let b = c.args.self.now.places in
    let n = c.args.self.now.extent in
    let is : c.fold.result ≡ fold (λ r o. beside o r) (record { bid = 0; offer = 0 }) (take n b) = fold_from_yields_List _ (λ r o. beside o r) (record { bid = 0; offer = 0 }) c.fold.result c.fold.ensures.ran (YieldsList-from_slice (take n b) cc) (λ a x r q k. search (rules, tests)) in
    is ∙ shown_fold b n (search rules) ∙ sym (shown_all b n (length b) (search rules) c.args.self.now.beyond)
