use Rattle.std.proofs.Common.{◌≡◌, take}
use Rattle.rules.specs.Book.{taken}
use Rattle.table.proofs.orders.Orders.vacancy.Given as goal

-- each of the places so far holds an order
abbrev pub invariant-loop-i : goal.invariant-loop-i
invariant-loop-i l = taken (take l.i l.self.places) ≡ l.i
