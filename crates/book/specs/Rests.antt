-- Resting by the numbers of the away best. Assumes nothing.
--     rest_as s a t, rest_on a o      where the rest of an order of side s with the terms t rests, if it does
--     settle_on a i old t b   t comes to rest in the place i; `old` has its prices before the call
--     turned r                what a turn makes of the book, and reports
--     Came r b l l'           what came out is r: the book b, and its reports at the end of the list
--     Dealt r b l l' m m'     the same, with its slips at the end of a second list
use Rattle.std.specs.Prelude.{◌≡◌, ℕ, cond, ◌&&◌, List, [], ◌∷◌, Some, None, Option, ◌==◌, nat_lt, slice_set}
use Rattle.values.specs.declared.reports.Report.{Report}
use Rattle.values.specs.declared.reports.Report.TheVariants.{Booked, Cancelled}
use Rattle.values.specs.declared.reports.Slip.{Slip}
use Rattle.values.specs.declared.terms.Side.{Side}
use Rattle.rules.specs.declared.Terms.{Terms}
use Rattle.rules.specs.declared.Order.{Order}
use Rattle.rules.specs.declared.Prices.{Prices}
use Rattle.rules.specs.Sides.{ok, facing}
use Rattle.rules.specs.Book.{live, side_of, priced, branch}
use Rattle.rules.specs.Trading.{within}
use Rattle.rules.specs.Resting.{Out, Turned, cause_of}
use Rattle.records.specs.declared.list.AppendList.{AppendList}
use Rattle.records.specs.Contents.{Grown}
use Rattle.table.specs.declared.sides.Away.{Away}
use Rattle.table.specs.Away.{backed}

-- at the away best within its cap, displayed at the rung behind; else at its limit, where its protection limit allows that
abbrev pub rest_as : Side → Away → Terms → Option Prices
rest_as s a t =
    let w = facing a.best s in
    let limit = t.limit in
    cond (nat_lt 0 w && (ok s limit w && ok s t.protection w)) (Some (record { booked = w; displayed = backed a s }))
    (cond (nat_lt 0 limit && ok s t.protection limit) (Some (record { booked = limit; displayed = limit })) None)

abbrev pub rest_on : Away → Order → Option Prices
rest_on a t =
    let s = side_of t in
    let w = facing a.best s in
    let limit = t.terms.limit in
    cond (nat_lt 0 w && within t.terms w) (Some (record { booked = w; displayed = backed a s }))
    (cond (nat_lt 0 limit && ok s t.terms.protection limit) (Some (record { booked = limit; displayed = limit })) None)

-- at these prices, reported where one is another than before
abbrev pub booked_at : ℕ → Order → Order → List Order → Prices → Out
booked_at i old t b p = record {
  book = slice_set b i (priced t p.booked p.displayed);
  out = cond (old.booked == p.booked && old.displayed == p.displayed) [] (Booked t.arrival p.booked p.displayed t.remaining ∷ []);
}

abbrev pub settle_on : Away → ℕ → Order → Order → List Order → Out
settle_on a i old t b =
    cond (live t)
    (branch (rest_on a t) (record { book = b; out = Cancelled t.arrival t.remaining (cause_of t.terms) ∷ [] }) (booked_at i old t b))
    (record { book = b; out = [] })

abbrev pub turned : Turned → Out
turned r = record { book = r.book; out = r.out }

pub record Came (r : Out) (b : List Order) (l l' : AppendList Report) : Type 0 where
  pub book : b ≡ r.book
  pub reported : Grown l r.out l'

pub record Dealt (r : Turned) (b : List Order) (l l' : AppendList Report) (m m' : AppendList Slip) : Type 0 where
  pub book : b ≡ r.book
  pub reported : Grown l r.out l'
  pub sent : Grown m r.slips m'
