use Rattle.std.proofs.Common.{[], ◌∷◌, ◌++◌, ap, arith, rules}
use Rattle.records.proofs.Growing.{grown_more}
use Rattle.book.proofs.Hits.{going_ends, going_on, going_room, shrinks}
use Rattle.book.proofs.book.Book.trade.Goals as goal

pub fill_one-requires : goal.fill_one-requires
fill_one-requires c =
    let inv = c.loop-i.invariant in
    let more = going_room _ _ _ _ c.in-Some.ensures.hit _ inv.0 inv.2 in
    (search rules, omega (arith, more, inv.1.used, inv.1.room, c.requires))

pub loop-i-preserved : goal.loop-i-preserved
loop-i-preserved c =
    let inv = c.loop-i.invariant in
    (inv.0 ++ _ ∷ [], grown_more _ _ _ _ _ inv.1 c.fill_one.ensures.reported, going_on _ _ _ _ c.in-Some.ensures.hit _ _ _ inv.0 c.fill_one.ensures.taker c.fill_one.ensures.book inv.2)

pub loop-i-smaller : goal.loop-i-smaller
loop-i-smaller c =
    let less = shrinks _ _ _ _ c.in-Some.ensures.hit in
    omega (arith, less, ap (λ o. o.remaining) c.fill_one.ensures.taker)

pub returns : goal.returns
returns c =
    let inv = c.loop-i.invariant in
    let end = going_ends _ _ _ _ inv.0 c.in_default.ensures.hit inv.2 in
    record { taker = end.0; book = end.1; reported = rw end.2 at inv.1 }
