-- Resting, and an order's whole turn: trading, routing, resting. Assumes nothing.
--     rest_at e R t               where the rest of t rests, if it does
--     settle e R i old t b        t comes to rest in the place i; `old` has its prices before the call
--     turn e R send i old t b     t trades, goes out in the slips that `send` writes, and rests in the free place i
--     fresh a t                   the a-th order as it is entered
--     enter e R send i a t b      t, the a-th order accepted, by way of the free place i
use Rattle.std.specs.Prelude.{ℕ, ◌-◌, Bool, cond, ◌&&◌, List, [], ◌∷◌, ◌++◌, length, Some, None, Option, ◌==◌, nat_lt, slice_set}
use Rattle.values.specs.declared.reports.Report.{Report}
use Rattle.values.specs.declared.reports.Report.TheVariants.{New, Booked, Cancelled}
use Rattle.values.specs.declared.reports.Cause.{Cause}
use Rattle.values.specs.declared.reports.Cause.TheVariants.{Protection, NoPrice}
use Rattle.values.specs.declared.reports.Slip.{Slip}
use Rattle.rules.specs.declared.Terms.{Terms}
use Rattle.rules.specs.declared.Order.{Order}
use Rattle.rules.specs.declared.Prices.{Prices}
use Rattle.rules.specs.declared.Bests.{Bests}
use Rattle.rules.specs.Sides.{ok, facing}
use Rattle.rules.specs.Ladders.{behind}
use Rattle.rules.specs.Book.{free, live, side_of, priced, with_rem, branch}
use Rattle.rules.specs.Trading.{within, trade}
use Rattle.rules.specs.Routing.{total}

-- at the away best where that is within its cap, displayed one rung behind; else at its limit, where its protection limit allows that
unfoldable pub rest_at : Bests → (ℕ → Bool) → Order → Option Prices
rest_at e R t =
    let s = side_of t in
    let w = facing e s in
    let limit = t.terms.limit in
    cond (nat_lt 0 w && within t.terms w) (Some (record { booked = w; displayed = behind R s w }))
    (cond (nat_lt 0 limit && ok s t.terms.protection limit) (Some (record { booked = limit; displayed = limit })) None)

-- why a rest that has no price is cancelled
abbrev pub cause_of : Terms → Cause
cause_of t = cond (nat_lt 0 t.protection) Protection NoPrice

pub record Out : Type 0 where
  pub book : List Order
  pub out : List Report

-- the rest is booked, and reported where a price is another than before; or it is cancelled
unfoldable pub settle : Bests → (ℕ → Bool) → ℕ → Order → Order → List Order → Out
settle e R i old t b =
    cond (live t)
    (branch (rest_at e R t) (record { book = b; out = Cancelled t.arrival t.remaining (cause_of t.terms) ∷ [] })
    (λ p. record {
      book = slice_set b i (priced t p.booked p.displayed);
      out = cond (old.booked == p.booked && old.displayed == p.displayed) [] (Booked t.arrival p.booked p.displayed t.remaining ∷ []);
    }))
    (record { book = b; out = [] })

pub record Turned : Type 0 where
  pub book : List Order
  pub out : List Report
  pub slips : List Slip

unfoldable pub turn : Bests → (ℕ → Bool) → (Order → List Slip) → ℕ → Order → Order → List Order → Turned
turn e R send i old t b =
    let d = trade (length b) e t b in
    let ss = send d.taker in
    let r = settle e R i old (with_rem d.taker (d.taker.remaining - total ss)) d.book in
    record { book = r.book; out = d.out ++ r.out; slips = ss }

abbrev pub fresh : ℕ → Terms → Order
fresh a t = record { arrival = a; terms = t; booked = 0; displayed = 0; remaining = t.size }

-- an order that rests at entry had no prices before, so that it is always reported
unfoldable pub enter : Bests → (ℕ → Bool) → (Order → List Slip) → ℕ → ℕ → Terms → List Order → Turned
enter e R send i a t b =
    let r = turn e R send i free (fresh a t) b in
    record { book = r.book; out = New a t.id ∷ r.out; slips = r.slips }
