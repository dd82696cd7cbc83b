use Rattle.std.proofs.Common.{length, ◌∙◌, arith, rules}
use Rattle.book.specs.Books.{orders_of}
use Rattle.book.proofs.Idling.{bounds_free, bounds_turn}
use Rattle.book.proofs.Room.{leave_room, turn_spends, turn_waits}
use Rattle.book.proofs.Turning.{turn_again}
use Rattle.book.proofs.book.Book.turn.Goals as goal

pub trade_within-left-requires : goal.trade_within-left-requires
trade_within-left-requires c =
    let n = length c.clear.new.self.places in
    (omega (arith, c.requires, leave_room c.args.market.away.best n _ (orders_of c.args.self.now) _ c.args.i c.requires.1.0 c.order-taker.ensures c.clear.ensures), bounds_free c.args.market.reach (orders_of c.args.self.now) _ c.args.i c.clear.ensures c.requires.1.1.1)

pub settle-requires : goal.settle-requires
settle-requires c =
    let n = length c.clear.new.self.places in
    (search rules, omega (arith, c.requires, c.trade_within-left.ensures.reported.used, c.trade_within-left.ensures.reported.room, leave_room c.args.market.away.best n _ (orders_of c.args.self.now) _ c.args.i c.requires.1.0 c.order-taker.ensures c.clear.ensures))

pub returns : goal.returns
returns c = record {
  turned = λ R on. turn_again R c.args.market.away on c.args.i _ _ _ (orders_of c.args.self.now) _ _ _ _ _ _ c.order-taker.ensures c.clear.ensures c.trade_within-left.ensures.taker c.trade_within-left.ensures.book c.trade_within-left.ensures.reported c.settle.ensures;
  spent = turn_spends c.args.market.away.best c.args.market.away (length c.clear.new.self.places) c.args.i c.args.before.now _ _ (orders_of c.args.self.now) _ _ _ _ _ _ c.requires.1.0 c.order-taker.ensures c.clear.ensures c.trade_within-left.ensures.taker c.trade_within-left.ensures.book (search rules) c.settle.ensures.book c.trade_within-left.ensures.reported.used c.settle.ensures.reported.used;
  reach = bounds_turn c.args.market.away c.args.market.reach c.args.market.away.best (length c.clear.new.self.places) c.args.i c.args.before.now c.order-taker.result c.trade_within-left.result (orders_of c.args.self.now) _ _ _ c.requires.1.1.1 c.clear.ensures c.trade_within-left.ensures.book c.settle.ensures.book (search rules);
  fewer = λ k l. turn_waits c.args.market.away.best c.args.market.away (length c.clear.new.self.places) c.args.i k c.args.before.now _ _ (orders_of c.args.self.now) _ _ _ l c.order-taker.ensures c.clear.ensures c.trade_within-left.ensures.taker c.trade_within-left.ensures.book (search rules) c.settle.ensures.book;
  room = c.settle.ensures.reported.room ∙ c.trade_within-left.ensures.reported.room;
}
