use Rattle.std.proofs.Common.{◌≡◌, false, length, sym, ap, ◌∙◌}
use Rattle.rules.specs.Sides.{facing}
use Rattle.rules.specs.Book.{side_of}
use Rattle.rules.specs.Trading.{fits}
use Rattle.records.proofs.Growing.{grown_none}
use Rattle.book.specs.Books.{orders_of}
use Rattle.book.proofs.Idling.{no_trade}
use Rattle.book.proofs.book.Book.trade_within.Goals as goal

pub returns-else-suits : goal.returns-else-suits
returns-else-suits c =
    let b = orders_of c.args.self.now in
    let t = c.args.taker in
    let far : fits c.args.market.away.best t (facing c.args.market.reach (side_of t)) ≡ false = sym (ap (fits c.args.market.away.best t) c.met.ensures) ∙ sym c.suits.ensures ∙ c.if-suits.false in
    let none = no_trade c.args.market.away.best c.args.market.reach (length b) t b c.requires.1 far in
    record { taker = sym (ap (λ d. d.taker) none); book = sym (ap (λ d. d.book) none); reported = rw (ap (λ d. d.out) none) (grown_none _) }
