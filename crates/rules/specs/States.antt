-- A series as a value, and what each accepted call makes of it. Assumes nothing.
--     State                   opened or not, the width mark, fifteen quotes, the book, the slips out, and how many orders
--                             were accepted and slips numbered so far
--     new wide                a new series: not opened, every exchange absent, nothing in the tables
--     named id o              a resting order with this id
--     opening s               the opening
--     telling R s x q         exchange x quotes q
--     entering R s i o        the checked order o, by way of the free place i
--     dropping s i            the order at the place i is cancelled
--     replying s i n          the slip at the place i is settled, n of it filled
use Rattle.std.specs.Prelude.{ℕ, suc, ◌+◌, ◌-◌, Bool, true, false, cond, ◌&&◌, List, [], ◌∷◌, ◌++◌, length, replicate, ◌==◌, nat_lt, slice_set}
use Rattle.market.specs.declared.board.Quote.{Quote}
use Rattle.market.specs.Quotes.{told, absent}
use Rattle.values.specs.declared.reports.Report.{Report}
use Rattle.values.specs.declared.reports.Report.TheVariants.{Cancelled, FilledAway}
use Rattle.values.specs.declared.reports.Cause.TheVariants.{Asked, Unfilled}
use Rattle.values.specs.declared.reports.Slip.{Slip}
use Rattle.checks.specs.declared.checked.CheckedOrder.{CheckedOrder}
use Rattle.checks.specs.Checked.{routable}
use Rattle.rules.specs.declared.Terms.{Terms}
use Rattle.rules.specs.declared.Order.{Order}
use Rattle.rules.specs.declared.Sent.{Sent}
use Rattle.rules.specs.Book.{free, at, live, here}
use Rattle.rules.specs.Monitor.{admit}
use Rattle.rules.specs.Routing.{bests, routing}
use Rattle.rules.specs.Resting.{Turned, enter}
use Rattle.rules.specs.Quoting.{quote}
use Rattle.rules.specs.Slips.{no_sent, sent_at, filed}

pub record State : Type 0 where
  pub opened : Bool
  pub wide : Bool
  pub quotes : List Quote
  pub orders : List Order
  pub sent : List Sent
  pub arrivals : ℕ
  pub numbered : ℕ

-- what came of a call
pub record Done : Type 0 where
  pub state : State
  pub reports : List Report
  pub slips : List Slip

abbrev pub new : Bool → State
new wide = record { opened = false; wide = wide; quotes = replicate 15 absent; orders = replicate 64 free; sent = replicate 64 no_sent; arrivals = 0; numbered = 0 }

abbrev pub opening : State → Done
opening s = record {
  state = record { opened = true; wide = s.wide; quotes = s.quotes; orders = s.orders; sent = s.sent; arrivals = s.arrivals; numbered = s.numbered };
  reports = [];
  slips = [];
}

-- the board is told, then both steps
abbrev pub telling : (ℕ → Bool) → State → ℕ → Quote → Done
telling R s x q =
    let qs = told s.quotes x q in
    let r = quote (bests qs) R s.orders in
    record {
      state = record { opened = s.opened; wide = s.wide; quotes = qs; orders = r.book; sent = s.sent; arrivals = s.arrivals; numbered = s.numbered };
      reports = r.out;
      slips = [];
    }

-- what an order is entered with
abbrev pub terms_now : (ℕ → Bool) → State → CheckedOrder → Terms
terms_now R s o = admit R (bests s.quotes) (here s.orders) o

-- the order numbered next, entered with t, by way of the free place i; `go` where it may be routed
abbrev pub entered_with : (ℕ → Bool) → State → ℕ → Bool → Terms → Turned
entered_with R s i go t = enter (bests s.quotes) R (routing go s.quotes (bests s.quotes) s.numbered) i (suc s.arrivals) t s.orders

abbrev pub after_entry : State → ℕ → Turned → Done
after_entry s id r = record {
  state = record { opened = s.opened; wide = s.wide; quotes = s.quotes; orders = r.book; sent = filed id r.slips s.sent; arrivals = suc s.arrivals; numbered = s.numbered + length r.slips };
  reports = r.out;
  slips = r.slips;
}

abbrev pub entering : (ℕ → Bool) → State → ℕ → CheckedOrder → Done
entering R s i o = after_entry s o.id (entered_with R s i (routable o) (terms_now R s o))

abbrev pub named : ℕ → Order → Bool
named id o = live o && o.terms.id == id

abbrev pub dropping : State → ℕ → Done
dropping s i =
    let o = at s.orders i in
    record {
      state = record { opened = s.opened; wide = s.wide; quotes = s.quotes; orders = slice_set s.orders i free; sent = s.sent; arrivals = s.arrivals; numbered = s.numbered };
      reports = Cancelled o.arrival o.remaining Asked ∷ [];
      slips = [];
    }

-- the filled part, then the rest; neither is reported at 0
abbrev pub settled : Slip → ℕ → List Report
settled x n = cond (nat_lt 0 n) (FilledAway x.arrival x.number n ∷ []) [] ++ cond (nat_lt n x.size) (Cancelled x.arrival (x.size - n) Unfilled ∷ []) []

abbrev pub replying : State → ℕ → ℕ → Done
replying s i n = record {
  state = record { opened = s.opened; wide = s.wide; quotes = s.quotes; orders = s.orders; sent = slice_set s.sent i no_sent; arrivals = s.arrivals; numbered = s.numbered };
  reports = settled (sent_at s.sent i).slip n;
  slips = [];
}
