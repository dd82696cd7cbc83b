-- Orders that have nothing to do in their turn. Assumes nothing.
--     Nearer s p q            for a taker of side s the price p is as good as q, or better
--     Bounds r b              no booked price of b is better for a taker than the prices r
--     stays_as s a t          t, of side s, would rest at the prices that it has
--     idle_on m old t         no price of m's reach is as good as that of t, and t stays where it rests; `old` has its prices before the call
--     idle_in m old b j       the order at j is idle in the book b
--     sooner n d              the number n is before d, or there is no d
--     Due m last old b d      of those that arrived after last, all before d are idle; or all are
--     NextDue m last old b o  the place of the order that arrived next after some number, up to which all are idle; or all are
use Rattle.std.specs.Prelude.{◌≡◌, ℕ, ◌<◌, ◌≤◌, Bool, true, false, ◌&&◌, List, length, Some, None, Option, ◌==◌, nat_lt}
use Rattle.values.specs.declared.terms.Side.{Side}
use Rattle.values.specs.declared.terms.Side.TheVariants.{Buy, Sell}
use Rattle.rules.specs.declared.Order.{Order}
use Rattle.rules.specs.declared.Prices.{Prices}
use Rattle.rules.specs.declared.Bests.{Bests}
use Rattle.rules.specs.Sides.{past, facing}
use Rattle.rules.specs.Book.{at, side_of, pick}
use Rattle.rules.specs.Trading.{contra}
use Rattle.rules.specs.Quoting.{later, earlier}
use Rattle.table.specs.declared.sides.Away.{Away}
use Rattle.book.specs.declared.book.trading.resting.turns.Market.{Market}
use Rattle.book.specs.Rests.{rest_as}

abbrev pub Nearer : Side → ℕ → ℕ → Type 0
Nearer Buy p q = p ≤ q
Nearer Sell p q = q ≤ p

abbrev pub Bounds : Bests → List Order → Type 0
Bounds r b = (s : Side) (j : ℕ) → contra s (at b j) ≡ true → Nearer s (facing r s) (at b j).booked

abbrev pub are_of : Option Prices → Order → Bool
are_of None t = false
are_of (Some p) t = p.booked == t.booked && p.displayed == t.displayed

abbrev pub stays_as : Side → Away → Order → Bool
stays_as s a t = are_of (rest_as s a t.terms) t

abbrev pub idle_as : Side → Market → Order → Order → Bool
idle_as s m old t = (old.booked == t.booked && old.displayed == t.displayed) && (past s t.booked (facing m.reach s) && stays_as s m.away t)

abbrev pub idle_on : Market → Order → Order → Bool
idle_on m old t = idle_as (side_of t) m old t

abbrev pub idle_in : Market → List Order → List Order → ℕ → Bool
idle_in m old b j = idle_on m (at old j) (at b j)

abbrev pub sooner : ℕ → Option ℕ → Bool
sooner n None = true
sooner n (Some d) = nat_lt n d

abbrev pub Due : Market → ℕ → List Order → List Order → Option ℕ → Type 0
Due m last old b None = (k : ℕ) → later last (at b k) ≡ true → idle_in m old b k ≡ true
Due m last old b (Some d) = (last < d) × ((k : ℕ) → later last (at b k) ≡ true → (at b k).arrival < d → idle_in m old b k ≡ true)

abbrev pub NextDue : Market → ℕ → List Order → List Order → Option ℕ → Type 0
NextDue m last old b None = (j : ℕ) → later last (at b j) ≡ true → idle_in m old b j ≡ true
NextDue m last old b (Some i) =
    (n : ℕ) × (last ≤ n) × ((j : ℕ) → later last (at b j) ≡ true → (at b j).arrival ≤ n → idle_in m old b j ≡ true) × (Some i ≡ pick (later n) earlier b (length b))
