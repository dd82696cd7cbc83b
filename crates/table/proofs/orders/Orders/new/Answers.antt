use Rattle.std.proofs.Common.{◌≡◌, ℕ, replicate, refl, arith}
use Rattle.rules.specs.Book.{free, at}
use Rattle.table.proofs.Firsts.{replicated}
use Rattle.table.proofs.orders.Orders.new.Goals as goal

pub invariant_of-result : goal.invariant_of-result
invariant_of-result c =
    let none : (k : ℕ) → at (replicate 64 c.nothing.result) k ≡ free = λ k. replicated _ free 64 k c.nothing.ensures in
    record { full = refl; clean = λ k d. none k; inside = omega arith; beyond = λ k l. none k }
