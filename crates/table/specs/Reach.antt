-- The best prices of a book, order by order. Assumes nothing.
--     beside o r          the best displayed prices r, with those of o
--     widened o r         the most aggressive booked prices r, with that of o
--     reach b k           the highest booked buy and the lowest booked sell of the first k places
use Rattle.std.specs.Prelude.{ℕ, zero, suc, min, max, cond, List}
use Rattle.values.specs.declared.terms.Side.{Side}
use Rattle.values.specs.declared.terms.Side.TheVariants.{Buy, Sell}
use Rattle.rules.specs.declared.Order.{Order}
use Rattle.rules.specs.declared.Bests.{Bests}
use Rattle.rules.specs.Sides.{top}
use Rattle.rules.specs.Book.{at, live, side_of, shown}

abbrev pub beside : Order → Bests → Bests
beside o r = record { bid = top Buy (shown Buy o) r.bid; offer = top Sell (shown Sell o) r.offer }

abbrev pub stretched : Side → ℕ → Bests → Bests
stretched Buy p r = record { bid = max r.bid p; offer = r.offer }
stretched Sell p r = record { bid = r.bid; offer = min r.offer p }

abbrev pub widened : Order → Bests → Bests
widened o r = cond (live o) (stretched (side_of o) o.booked r) r

-- where no sell rests, the offer is the highest number that a price field can hold
unfoldable pub reach : List Order → ℕ → Bests
reach b zero = record { bid = 0; offer = 4294967295 }
reach b (suc k) = widened (at b k) (reach b k)
