use Rattle.std.proofs.Common.{◌≡◌, length, ap, ◌∙◌, sym, rules, tests}
use Rattle.std.proofs.lemmas.List.{take_all}
use Rattle.std.proofs.lemmas.Iterator.{YieldsList-from_slice}
use Rattle.std.proofs.lemmas.Iterator.Consumers.{fold_from_yields_List}
use Rattle.std.specs.List.{fold}
use Rattle.rules.specs.Sides.{top}
use Rattle.rules.specs.Book.{shown}
use Rattle.table.proofs.Picks.{tops_fold}
use Rattle.table.proofs.orders.Orders.touch.Goals as goal

pub returns : goal.returns
returns c =
    let b = c.args.self.now.places in
    let s = c.args.side in
    let is : c.fold.result ≡ fold (λ x o. top s (shown s o) x) 0 b = fold_from_yields_List _ (λ x o. top s (shown s o) x) 0 c.fold.result c.fold.ensures.ran (YieldsList-from_slice b cc) (λ a x r q k. search (rules, tests)) in
    is ∙ ap (fold (λ x o. top s (shown s o) x) 0) (sym (take_all (length b) b (search rules))) ∙ tops_fold s b (length b) (search rules)
