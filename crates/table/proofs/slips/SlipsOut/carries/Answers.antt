use Rattle.std.proofs.Common.{◌≡◌, length, take, ap, ◌∙◌, sym, rules, tests}
use Rattle.std.proofs.lemmas.Bool.{and_left}
use Rattle.std.proofs.lemmas.Iterator.{YieldsList-from_slice}
use Rattle.std.proofs.lemmas.Iterator.Search.{any_from_yields_List}
use Rattle.std.specs.List.{list_any}
use Rattle.rules.specs.Book.{found}
use Rattle.rules.specs.Slips.{out, carries}
use Rattle.table.proofs.Seats.{seat_all, seat_any}
use Rattle.table.proofs.slips.SlipsOut.carries.Goals as goal

pub returns : goal.returns
returns c =
    let b = c.args.self.now.places in
    let n = c.args.self.now.extent in
    let is : c.any.result ≡ list_any (carries c.args.id) (take n b) = any_from_yields_List (carries c.args.id) _ _ c.any.result c.any.ensures.ran (YieldsList-from_slice (take n b) cc) (λ x r q k. search (rules, tests)) in
    is ∙ seat_any (carries c.args.id) b n (search rules) ∙ ap found (sym (seat_all (carries c.args.id) b (λ s h. and_left (out s) _ h) n (length b) (search rules) c.args.self.now.beyond))
