use Rattle.std.proofs.Common.{rules}
use Rattle.records.proofs.Growing.{grown_more}
use Rattle.book.proofs.Sharing.{going_on, going_ends}
use Rattle.book.proofs.routing.share_out.Goals as goal

pub loop-quote-preserved : goal.loop-quote-preserved
loop-quote-preserved c =
    let inv = c.loop-quote.invariant in (
      _,
      grown_more _ _ _ _ _ inv.1 c.send_one-sent.ensures.slips,
      going_on _ c.args.quotes.now _ _ _ inv.0 c.loop-quote.quote-index _ _ (search rules) c.send_one-sent.ensures.taken c.next_slip-next.ensures inv.2,
    )

pub returns : goal.returns
returns c =
    let inv = c.loop-quote.invariant in
    let end = going_ends c.args.side c.args.quotes.now c.args.first c.loop-quote.next inv.0 c.loop-quote.quote-index (search rules) inv.2 in
    record { slips = rw end at inv.1; left = rw end at inv.2.size }
