use Rattle.std.proofs.Common.{rules, arith, ◌^◌}
use Rattle.std.proofs.lemmas.Iterator.{YieldsList-from_slice}
use Rattle.std.proofs.lemmas.Iterator.Adapters.{fits_from_length, at_most_from_yields_List}
use Rattle.market.proofs.board.best.Goals as goal

pub sum-size-requires-clause-fits : goal.sum-size-requires-clause-fits
sum-size-requires-clause-fits g c =
    fits_from_length _ _ 15 (2 ^ 64) (at_most_from_yields_List (YieldsList-from_slice c.args.quotes.now cc) (omega arith)) c.map.ensures.closure (omega arith) (λ x r q k. search rules)
