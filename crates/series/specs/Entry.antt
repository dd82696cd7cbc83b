-- An order on its way to the book. Assumes nothing.
--     passing R wide e m o        what the monitor makes of the order o, e being the away best and m the best displayed here
use Rattle.std.specs.Prelude.{ℕ, Bool, Result}
use Rattle.market.specs.Rungs.{bottom}
use Rattle.values.specs.declared.faults.MonitorFault.{MonitorFault}
use Rattle.checks.specs.declared.checked.CheckedOrder.{CheckedOrder}
use Rattle.rules.specs.declared.Bests.{Bests}
use Rattle.rules.specs.Sides.{facing, national}
use Rattle.rules.specs.Monitor.{verdict, protect}
use Rattle.book.specs.declared.monitor.Passed.{Passed}
use Rattle.book.specs.Passing.{judged}

abbrev pub passing : (ℕ → Bool) → Bool → Bests → Bests → CheckedOrder → Result Passed MonitorFault
passing R wide e m o =
    let n = national e m in
    judged (verdict wide (bottom R) n m o.kind o.side o.limit)
    (record {
      id = o.id;
      firm = o.firm;
      side = o.side;
      kind = o.kind;
      limit = o.limit;
      protection = protect R o.side o.protection (facing n o.side);
      size = o.size;
    })
