use Rattle.std.proofs.Common.{length, arith, rules}
use Rattle.rules.specs.Routing.{routing}
use Rattle.book.specs.Books.{orders_of}
use Rattle.book.proofs.Room.{trade_few}
use Rattle.book.proofs.Turning.{entry_comes}
use Rattle.book.proofs.book.Book.enter.Goals as goal

pub trade-left-requires : goal.trade-left-requires
trade-left-requires c =
    let few = trade_few c.args.away.best (length (orders_of c.args.self.now)) c.entered_as-taker.result (orders_of c.args.self.now) c.args.self.now.orders.full in
    omega (arith, few, c.push.ensures.used, c.push.ensures.room, c.requires)

pub settle-requires : goal.settle-requires
settle-requires c =
    let few = trade_few c.args.away.best (length (orders_of c.args.self.now)) c.entered_as-taker.result (orders_of c.args.self.now) c.args.self.now.orders.full in
    (search rules, omega (arith, few, c.push.ensures.used, c.push.ensures.room, c.trade-left.ensures.reported.used, c.trade-left.ensures.reported.room, c.requires))

pub returns : goal.returns
returns c R on = entry_comes R c.args.away on (routing c.args.entry.routable c.args.quotes.now c.args.away.best c.args.entry.numbered) c.args.entry.place c.args.entry.arrival _ _ _ _ _ _ (orders_of c.args.self.now) _ _ _ _ _ _ _ _ c.terms_of-terms.ensures c.entered_as-taker.ensures c.nothing.ensures c.push.ensures c.trade-left.ensures.taker c.trade-left.ensures.book c.trade-left.ensures.reported c.route-rest.ensures.slips c.route-rest.ensures.left c.settle.ensures
