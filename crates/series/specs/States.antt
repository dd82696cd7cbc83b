-- What a series means, as a state of the rules. Assumes nothing.
--     state qs l                              the state of the ledger l beside a board with the quotes qs
--     filled_part x n, unfilled_part x n      what is reported of a slip of which n are filled: that, and the rest
--     requoted s qs r                         s beside the quotes qs, with the book of r
--     Requoted R e s s' l l'                  s came to s' by both steps of a quote, e being the away best; the reports are in l'
--     Admitted r id s s' l l' k k'            s came to s' by the entry r of the order with this id; its reports and slips are in l' and k'
use Rattle.std.specs.Prelude.{◌≡◌, ℕ, ◌-◌, Bool, cond, List, [], ◌∷◌, nat_lt}
use Rattle.market.specs.declared.board.Quote.{Quote}
use Rattle.values.specs.declared.reports.Report.{Report}
use Rattle.values.specs.declared.reports.Report.TheVariants.{Cancelled, FilledAway}
use Rattle.values.specs.declared.reports.Cause.TheVariants.{Unfilled}
use Rattle.values.specs.declared.reports.Slip.{Slip}
use Rattle.records.specs.declared.list.AppendList.{AppendList}
use Rattle.records.specs.Contents.{Grown}
use Rattle.rules.specs.declared.Bests.{Bests}
use Rattle.rules.specs.Resting.{Out, Turned}
use Rattle.rules.specs.Quoting.{quote}
use Rattle.rules.specs.States.{State, after_entry}
use Rattle.table.specs.Tables.{slips_in}
use Rattle.book.specs.Books.{orders_of}
use Rattle.series.specs.declared.ledger.Ledger.{Ledger}

abbrev pub state : List Quote → Ledger → State
state qs l = record { opened = l.opened; wide = l.wide; quotes = qs; orders = orders_of l.book; sent = slips_in l.sent; arrivals = l.arrivals; numbered = l.numbered }

abbrev pub filled_part : Slip → ℕ → List Report
filled_part x n = cond (nat_lt 0 n) (FilledAway x.arrival x.number n ∷ []) []

abbrev pub unfilled_part : Slip → ℕ → List Report
unfilled_part x n = cond (nat_lt n x.size) (Cancelled x.arrival (x.size - n) Unfilled ∷ []) []

abbrev pub requoted : State → List Quote → Out → State
requoted s qs r = record { opened = s.opened; wide = s.wide; quotes = qs; orders = r.book; sent = s.sent; arrivals = s.arrivals; numbered = s.numbered }

pub record Requoted (R : ℕ → Bool) (e : Bests) (s s' : State) (l l' : AppendList Report) : Type 0 where
  pub after : s' ≡ requoted s s.quotes (quote e R s.orders)
  pub reported : Grown l (quote e R s.orders).out l'

pub record Admitted (r : Turned) (id : ℕ) (s s' : State) (l l' : AppendList Report) (k k' : AppendList Slip) : Type 0 where
  pub after : s' ≡ (after_entry s id r).state
  pub reported : Grown l r.out l'
  pub sent : Grown k r.slips k'
