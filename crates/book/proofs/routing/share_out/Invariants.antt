use Rattle.std.proofs.Common.{List}
use Rattle.values.specs.declared.reports.Slip.{Slip}
use Rattle.records.specs.Contents.{Grown}
use Rattle.book.proofs.Sharing.{Going}
use Rattle.book.proofs.routing.share_out.Given as goal

abbrev pub invariant-loop-quote : goal.invariant-loop-quote
invariant-loop-quote l = (done : List Slip) × Grown l.initial.slips done l.slips × Going l.side l.quotes l.initial.next l.next done l.quote-index
