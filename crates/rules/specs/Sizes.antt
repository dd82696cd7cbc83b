-- What reports and the book say of the order that arrived a-th. Assumes nothing.
--     share a x n             n where x is a, else 0
--     part a o, resting a b   what rests of it at a place; in the book
--     filled a rs             filled here: the fills of which it is taker or maker
--     away a rs               filled away
--     cancelled a rs          cancelled
--     slipped a ss            what of it these slips carry
--     latest a p rs           its prices by its last booking among rs, p where there is none
--     news rs                 the arrival numbers and ids that are announced
use Rattle.std.specs.Prelude.{ℕ, ◌+◌, cond, List, [], ◌∷◌, sum_by, ◌==◌}
use Rattle.values.specs.declared.reports.Report.{Report}
use Rattle.values.specs.declared.reports.Report.TheVariants.{New, Fill, Booked, Cancelled, FilledAway}
use Rattle.values.specs.declared.reports.Slip.{Slip}
use Rattle.rules.specs.declared.Order.{Order}
use Rattle.rules.specs.declared.Prices.{Prices}

abbrev pub share : ℕ → ℕ → ℕ → ℕ
share a x n = cond (x == a) n 0

abbrev pub part : ℕ → Order → ℕ
part a o = share a o.arrival o.remaining

abbrev pub resting : ℕ → List Order → ℕ
resting a b = sum_by (part a) b

abbrev pub filled_by : ℕ → Report → ℕ
filled_by a (New x i) = 0
filled_by a (Fill t m p q) = share a t q + share a m q
filled_by a (Booked x p d n) = 0
filled_by a (Cancelled x n c) = 0
filled_by a (FilledAway x k n) = 0

abbrev pub filled : ℕ → List Report → ℕ
filled a [] = 0
filled a (r ∷ rs) = filled_by a r + filled a rs

abbrev pub away_by : ℕ → Report → ℕ
away_by a (New x i) = 0
away_by a (Fill t m p q) = 0
away_by a (Booked x p d n) = 0
away_by a (Cancelled x n c) = 0
away_by a (FilledAway x k n) = share a x n

abbrev pub away : ℕ → List Report → ℕ
away a [] = 0
away a (r ∷ rs) = away_by a r + away a rs

abbrev pub cancelled_by : ℕ → Report → ℕ
cancelled_by a (New x i) = 0
cancelled_by a (Fill t m p q) = 0
cancelled_by a (Booked x p d n) = 0
cancelled_by a (Cancelled x n c) = share a x n
cancelled_by a (FilledAway x k n) = 0

abbrev pub cancelled : ℕ → List Report → ℕ
cancelled a [] = 0
cancelled a (r ∷ rs) = cancelled_by a r + cancelled a rs

abbrev pub slip_part : ℕ → Slip → ℕ
slip_part a s = share a s.arrival s.size

abbrev pub slipped : ℕ → List Slip → ℕ
slipped a ss = sum_by (slip_part a) ss

abbrev pub showing : ℕ → Prices → Report → Prices
showing a p (New x i) = p
showing a p (Fill t m y q) = p
showing a p (Booked x y d n) = cond (x == a) (record { booked = y; displayed = d }) p
showing a p (Cancelled x n c) = p
showing a p (FilledAway x k n) = p

abbrev pub latest : ℕ → Prices → List Report → Prices
latest a p [] = p
latest a p (r ∷ rs) = latest a (showing a p r) rs

abbrev pub news : List Report → List (ℕ × ℕ)
news [] = []
news (New x i ∷ rs) = (x, i) ∷ news rs
news (Fill t m y q ∷ rs) = news rs
news (Booked x y d n ∷ rs) = news rs
news (Cancelled x n c ∷ rs) = news rs
news (FilledAway x k n ∷ rs) = news rs
