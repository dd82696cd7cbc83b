use Rattle.std.proofs.Common.{rules}
use Rattle.book.proofs.Hits.{hit_done, hit_nobody, hit_takes, hit_stops}
use Rattle.book.proofs.book.Book.maker.Goals as goal

pub returns-then-taker-eq0 : goal.returns-then-taker-eq0
returns-then-taker-eq0 c = search (rules, hit_done)

pub returns-in_err-i : goal.returns-in_err-i
returns-in_err-i c = search (rules, hit_nobody)

pub returns-then-suits : goal.returns-then-suits
returns-then-suits c = search (rules, hit_takes)

pub returns-else-suits : goal.returns-else-suits
returns-else-suits c = search (rules, hit_stops)
