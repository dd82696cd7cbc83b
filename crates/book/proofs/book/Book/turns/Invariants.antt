use Rattle.std.proofs.Common.{◌≡◌, ℕ, ◌+◌, ◌≤◌, Bool, List, length, count_by}
use Rattle.values.specs.declared.reports.Report.{Report}
use Rattle.rules.specs.Book.{taken}
use Rattle.rules.specs.Quoting.{later, turns}
use Rattle.records.specs.Contents.{used, capacity, Grown}
use Rattle.table.specs.Away.{On}
use Rattle.book.specs.Books.{orders_of}
use Rattle.book.specs.Idle.{Bounds}
use Rattle.book.proofs.Sweep.{UnderWay}
use Rattle.book.proofs.book.Book.turns.Given as goal

-- from here the rest of the turns leads where the whole sweep led from the start
abbrev pub invariant-loop-i : goal.invariant-loop-i
invariant-loop-i l =
    (used l.reports + taken (orders_of l.self) + count_by (later l.last) (orders_of l.self) ≤ used l.initial.reports + taken (orders_of l.initial.self) + 64)
    × (capacity l.reports ≡ capacity l.initial.reports)
    × (l.market.away ≡ l.initial.market.away)
    × Bounds l.market.reach (orders_of l.self)
    × ((R : ℕ → Bool) → On R l.market.away → (done : List Report) × Grown l.initial.reports done l.reports
    × UnderWay l.market.away.best R l.before (turns (length (orders_of l.initial.self)) l.market.away.best R 0 l.before (orders_of l.initial.self)) l.last (orders_of l.self) done)

-- those that still wait for their turn
abbrev pub decreases-loop-i : goal.decreases-loop-i
decreases-loop-i l = count_by (later l.last) (orders_of l.self)
