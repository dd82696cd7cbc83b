use Rattle.market.proofs.Packs.{told_unpacked}
use Rattle.market.proofs.Overwrites.{told_packed}
use Rattle.market.proofs.packed.PackedBoardBoard.tell.Goals as goal

pub returns-in-Some-clause-quotes : goal.returns-in-Some-clause-quotes
returns-in-Some-clause-quotes c =
    let e = c.put_quote.ensures in
    told_unpacked _ _ _ c.in-Some.i _ c.in-Some.ensures.0 c.in-Some.ensures.1 e.there e.before e.after

pub returns-in-Some-clause-packed : goal.returns-in-Some-clause-packed
returns-in-Some-clause-packed c = told_packed _ _ _ c.in-Some.i _ c.in-Some.ensures.0 c.in-Some.ensures.1 c.put_quote.ensures.exact
