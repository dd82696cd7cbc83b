use Rattle.std.proofs.Common.{◌≡◌, ◌<◌, length, ap, subst, arith, rules}
use Rattle.std.proofs.lemmas.List.{get_or-take, take_all}
use Rattle.std.proofs.lemmas.List.Sums.{count_by_more_yes}
use Rattle.rules.specs.Book.{live, taken}
use Rattle.table.proofs.Counts.{taken_less}
use Rattle.table.proofs.orders.Orders.vacancy.Goals as goal

pub returns-then-not-rests : goal.returns-then-not-rests
returns-then-not-rests c = search (rules, taken_less, get_or-take)

pub loop-i-preserved : goal.loop-i-preserved
loop-i-preserved c = search (rules, count_by_more_yes, get_or-take)

pub returns-then-self-lt64 : goal.returns-then-self-lt64
returns-then-self-lt64 c =
    let b = c.args.self.now.places in
    let n = c.args.self.now.extent in
    let is = c.args.self.now.beyond n (search rules) in
    let long : n < length b = search rules in
    (search rules, is, subst (λ m. taken b < m) c.args.self.now.full (taken_less b n long (ap live is)))

pub returns-else-self-lt64 : goal.returns-else-self-lt64
returns-else-self-lt64 c =
    let all : c.loop-i.i ≡ length c.args.self.now.places = search rules in
    search (rules, take_all)
