-- Trading: the taker meets the best contra order, again and again. Assumes nothing.
--     within t p          p is within the limit and the protection limit of t
--     fits e t p          within, and not through the away best e
--     contra s o          a resting order of the other side
--     prefer s x y        x comes before y for a taker of side s: the better booked price, then the smaller arrival number
--     hit e t b           the place that t trades with next, if any
--     trade n e t b       up to n fills: what is left of the taker, the book, and the reports
use Rattle.std.specs.Prelude.{ℕ, zero, suc, ◌-◌, min, Bool, cond, not, ◌&&◌, ◌||◌, List, [], ◌∷◌, length, Some, None, Option, ◌==◌, nat_lt, slice_set}
use Rattle.values.specs.declared.terms.Side.{Side}
use Rattle.values.specs.declared.reports.Report.{Report}
use Rattle.values.specs.declared.reports.Report.TheVariants.{Fill}
use Rattle.rules.specs.declared.Terms.{Terms}
use Rattle.rules.specs.declared.Order.{Order}
use Rattle.rules.specs.declared.Bests.{Bests}
use Rattle.rules.specs.Sides.{ok, past, same_side, facing}
use Rattle.rules.specs.Book.{at, live, side_of, with_rem, lower, branch, pick}

abbrev pub within : Terms → ℕ → Bool
within t p = ok t.side t.limit p && ok t.side t.protection p

abbrev pub fits : Bests → Order → ℕ → Bool
fits e t p = within t.terms p && ok (side_of t) (facing e (side_of t)) p

abbrev pub contra : Side → Order → Bool
contra s o = live o && not (same_side s (side_of o))

abbrev pub prefer : Side → Order → Order → Bool
prefer s x y = past s x.booked y.booked || (x.booked == y.booked && nat_lt x.arrival y.arrival)

unfoldable pub hit : Bests → Order → List Order → Option ℕ
hit e t b =
    cond (live t) (branch (pick (contra (side_of t)) (prefer (side_of t)) b (length b)) None (λ i. cond (fits e t (at b i).booked) (Some i) None)) None

pub record Traded : Type 0 where
  pub taker : Order
  pub book : List Order
  pub out : List Report

-- each fill is at the maker's booked price, for the lesser of what remains of the two
unfoldable pub trade : ℕ → Bests → Order → List Order → Traded
trade zero e t b = record { taker = t; book = b; out = [] }
trade (suc n) e t b =
    branch (hit e t b) (record { taker = t; book = b; out = [] })
    (λ i.
    let m = at b i in
    let q = min t.remaining m.remaining in
    let r = trade n e (with_rem t (t.remaining - q)) (slice_set b i (lower m q)) in
    record { taker = r.taker; book = r.book; out = Fill t.arrival m.arrival m.booked q ∷ r.out })
