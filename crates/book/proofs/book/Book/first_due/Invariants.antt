use Rattle.std.proofs.Common.{length}
use Rattle.book.specs.Books.{orders_of}
use Rattle.book.proofs.Idling.{Seen, EndsAt}
use Rattle.book.proofs.book.Book.first_due.Given as goal

abbrev pub invariant-loop-order : goal.invariant-loop-order
invariant-loop-order l = Seen l.market l.last l.before (orders_of l.self) (length l.yielded) l.due × EndsAt l.due l.end
