-- What the two tables hold, place by place. Assumes nothing.
--     orders_in t         the resting orders
--     slips_in t          the slips that are out
use Rattle.std.specs.Prelude.{List}
use Rattle.rules.specs.declared.Order.{Order}
use Rattle.rules.specs.declared.Sent.{Sent}
use Rattle.table.specs.declared.orders.Orders.{Orders}
use Rattle.table.specs.declared.slips.SlipsOut.{SlipsOut}

abbrev pub orders_in : Orders → List Order
orders_in t = t.places

abbrev pub slips_in : SlipsOut → List Sent
slips_in t = t.places
