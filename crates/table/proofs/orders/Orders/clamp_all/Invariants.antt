use Rattle.std.proofs.Common.{◌≡◌, ◌++◌, map, take, drop}
use Rattle.table.specs.Away.{clamped}
use Rattle.table.specs.Reach.{reach}
use Rattle.table.proofs.orders.Orders.clamp_all.Given as goal

abbrev pub invariant-loop-i : goal.invariant-loop-i
invariant-loop-i l =
    (l.self.places ≡ map (clamped l.away) (take l.i l.initial.self.places) ++ drop l.i l.initial.self.places)
    × (l.reach ≡ reach l.self.places l.i)
    × (l.self.extent ≡ l.initial.self.extent)
