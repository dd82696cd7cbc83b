use Rattle.std.proofs.Common.{◌≡◌, length, take, ◌∙◌, sym, rules, tests}
use Rattle.std.proofs.lemmas.Bool.{and_left}
use Rattle.std.proofs.lemmas.Iterator.{YieldsList-from_slice}
use Rattle.std.proofs.lemmas.Iterator.Search.{position_from_yields_List}
use Rattle.std.specs.List.{position}
use Rattle.rules.specs.Slips.{out, is_slip}
use Rattle.table.proofs.Seats.{seat_all, seat_position}
use Rattle.table.proofs.slips.SlipsOut.find.Goals as goal

pub returns-clause-found : goal.returns-clause-found
returns-clause-found c =
    let b = c.args.self.now.places in
    let n = c.args.self.now.extent in
    let is : c.position.result ≡ position (is_slip c.args.number) (take n b) = position_from_yields_List (is_slip c.args.number) _ _ c.position.result c.position.ensures.ran (YieldsList-from_slice (take n b) cc) (λ x r q k. search (rules, tests)) in
    is ∙ seat_position (is_slip c.args.number) b n (search rules) ∙ sym (seat_all (is_slip c.args.number) b (λ s h. and_left (out s) _ h) n (length b) (search rules) c.args.self.now.beyond)
