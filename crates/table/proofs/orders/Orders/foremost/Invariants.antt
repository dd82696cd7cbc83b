use Rattle.std.proofs.Common.{◌≡◌, true, IfSome}
use Rattle.rules.specs.Book.{at, pick}
use Rattle.table.specs.Places.{Inside}
use Rattle.table.proofs.orders.Orders.foremost.Given as goal

abbrev pub invariant-loop-i : goal.invariant-loop-i
invariant-loop-i g l = record {
  held : l.held ≡ pick (g.S.Search.takes l.search) (g.S.Search.prefers l.search) l.self.places l.i;
  inside : Inside l.held;
  takes : IfSome l.held (λ i. g.S.Search.takes l.search (at l.self.places i) ≡ true);
}
