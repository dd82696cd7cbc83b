use Rattle.std.proofs.Common.{List, length}
use Rattle.values.specs.declared.reports.Report.{Report}
use Rattle.rules.specs.Trading.{trade}
use Rattle.records.specs.Contents.{Grown}
use Rattle.book.specs.Books.{orders_of}
use Rattle.book.proofs.Hits.{Going}
use Rattle.book.proofs.book.Book.trade.Given as goal

-- from here the rest of the fuel leads where the whole led from the start
abbrev pub invariant-loop-i : goal.invariant-loop-i
invariant-loop-i l =
    (done : List Report) × Grown l.initial.reports done l.reports
    × Going l.best l.left (orders_of l.self) (trade (length (orders_of l.initial.self)) l.best l.initial.left (orders_of l.initial.self)) done

abbrev pub decreases-loop-i : goal.decreases-loop-i
decreases-loop-i l = l.left.remaining
