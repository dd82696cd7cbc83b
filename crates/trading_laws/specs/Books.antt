-- When a book is in order under the away best e. `look` has what each order was entered with, by arrival number. Assumes nothing.
--     Fits e t p              p is within the limits of t and not through the away best
--     Holds P b               every resting order of b has P
--     Held e look o           o is as entered, and its booked price is one that it may trade at
--     Settled e look o        held; booked at the most aggressive price it may trade at, and displayed so that it locks nothing
--     Clear b                 every buy is booked below every sell
--     Distinct b, Numbered n b    no two orders have one arrival number; the numbers are 1 to n
--     Most b                  no more remains of an order than was entered
--     Clean b                 a place without an order holds nothing of an earlier one
--     Low x y                 y is x with less remaining, or x was filled and its place freed
--     Stems b c               what rests in c rested in b, in the same place
use Rattle.std.specs.Prelude.{◌≡◌, ℕ, ◌<◌, ◌≤◌, List}
use Rattle.rules.specs.declared.Terms.{Terms}
use Rattle.rules.specs.declared.Order.{Order}
use Rattle.rules.specs.declared.Bests.{Bests}
use Rattle.rules.specs.Sides.{flip, Ok, Past, Unlocked, Behind, facing}
use Rattle.rules.specs.Book.{free, at, Live, side_of, with_rem}

-- a price that an order may trade at
abbrev pub Fits : Bests → Order → ℕ → Type 0
Fits e t p = Ok (side_of t) t.terms.limit p × Ok (side_of t) t.terms.protection p × Ok (side_of t) (facing e (side_of t)) p

abbrev pub Holds : (Order → Type 0) → List Order → Type 0
Holds P b = (j : ℕ) → Live (at b j) → P (at b j)

-- while a quote is told, an order that waits for its turn is only held
pub record Held (e : Bests) (look : ℕ → Terms) (o : Order) : Type 0 where
  pub known : look o.arrival ≡ o.terms
  pub fits : Fits e o o.booked
  pub some : 0 < o.booked

-- after each call every resting order is settled
pub record Settled (e : Bests) (look : ℕ → Terms) (o : Order) : Type 0 where
  pub held : Held e look o
  -- what the order may trade at is no more aggressive than its booked price
  pub tight : (p : ℕ) → Fits e o p → Ok (side_of o) o.booked p
  pub shown : Unlocked (side_of o) (facing e (side_of o)) o.displayed
  pub behind : Behind (side_of o) o.booked o.displayed

-- of two orders on two sides, the one is booked short of the other
abbrev pub Apart : Order → Order → Type 0
Apart x y = Live x → Live y → side_of y ≡ flip (side_of x) → Past (side_of x) x.booked y.booked

abbrev pub Clear : List Order → Type 0
Clear b = (j k : ℕ) → Apart (at b j) (at b k)

-- an arrival number names one order
abbrev pub Distinct : List Order → Type 0
Distinct b = (j k : ℕ) → Live (at b j) → Live (at b k) → (at b j).arrival ≡ (at b k).arrival → j ≡ k

abbrev pub Numbered : ℕ → List Order → Type 0
Numbered n b = (j : ℕ) → Live (at b j) → (0 < (at b j).arrival) × ((at b j).arrival ≤ n)

-- trading and routing only take away
abbrev pub Most : List Order → Type 0
Most b = Holds (λ o. o.remaining ≤ o.terms.size) b

-- nothing of an order clings to its place
abbrev pub Clean : List Order → Type 0
Clean b = (j : ℕ) → (at b j).remaining ≡ 0 → at b j ≡ free

-- a place before and after trading; a place that holds nothing stays so
pub record Low (x y : Order) : Type 0 where
  pub live : Live y → Live x
  pub same : Live y → y ≡ with_rem x y.remaining
  pub less : Live y → y.remaining ≤ x.remaining
  pub stays : x ≡ free → y ≡ free
  pub clean : (x.remaining ≡ 0 → x ≡ free) → y.remaining ≡ 0 → y ≡ free

-- no order changes its place or its number
abbrev pub Stems : List Order → List Order → Type 0
Stems b c = (j : ℕ) → Live (at c j) → Live (at b j) × ((at c j).arrival ≡ (at b j).arrival)
