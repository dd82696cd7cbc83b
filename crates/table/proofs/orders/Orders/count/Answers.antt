use Rattle.std.proofs.Common.{rules, arith}
use Rattle.std.proofs.lemmas.Iterator.{YieldsList-from_slice}
use Rattle.std.proofs.lemmas.Iterator.Adapters.{fits_from_length, at_most_from_yields_List}
use Rattle.table.proofs.orders.Orders.count.Goals as goal

pub sum-requires-clause-fits : goal.sum-requires-clause-fits
sum-requires-clause-fits c =
    fits_from_length _ _ 64 4294967296 (at_most_from_yields_List (YieldsList-from_slice c.args.self.now.places cc) (search rules)) c.map.ensures.closure (omega arith) (λ x r q k. search rules)
