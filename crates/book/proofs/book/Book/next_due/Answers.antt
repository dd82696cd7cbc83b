use Rattle.book.specs.Books.{orders_of}
use Rattle.book.proofs.Idling.{next_due}
use Rattle.book.proofs.book.Book.next_due.Goals as goal

pub returns : goal.returns
returns c = record {
  next = next_due c.args.market c.args.last c.args.before.now (orders_of c.args.self.now) _ _ c.in_ok-due.ensures c.next_after.ensures.next;
  inside = c.next_after.ensures.inside;
}
