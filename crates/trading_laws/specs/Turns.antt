-- What an order's turn, an entry and a whole quote make of a book, and what they report. Assumes nothing.
--     Modest send             the slips never carry more than remains
--     After e look send i old t b r       r is what became of the book b when t had its turn by way of the free place i; `old` has
--                             its prices before the call
--     Entered e look send n t b r         r is what became of b when the order numbered n + 1 was entered with t
--     Told e look a old b r   r is what became of b when those that arrived after a had their turns; `old` is the book before the call
--     BookLaws               a turn, an entry and a quote do that to every book in order
use Rattle.std.specs.Prelude.{◌≡◌, ℕ, suc, ◌+◌, ◌<◌, ◌≤◌, Bool, ◌≢◌, List, [], ◌∷◌, length}
use Rattle.std.specs.List.{AllByRecursion}
use Rattle.values.specs.declared.reports.Slip.{Slip}
use Rattle.rules.specs.declared.Terms.{Terms}
use Rattle.rules.specs.declared.Order.{Order}
use Rattle.rules.specs.declared.Prices.{Prices}
use Rattle.rules.specs.declared.Bests.{Bests}
use Rattle.rules.specs.Book.{free, at, Live, prices_of, with_rem}
use Rattle.rules.specs.Routing.{total}
use Rattle.rules.specs.Resting.{Out, Turned, turn, fresh, enter}
use Rattle.rules.specs.Quoting.{quote}
use Rattle.rules.specs.Sizes.{share, part, resting, filled, away, cancelled, latest, news}
use Rattle.rules.specs.Law.{Fair, StatesRest}
use Rattle.trading_laws.specs.Books.{Holds, Held, Settled, Clear, Distinct, Numbered, Most, Clean, Low, Stems}

-- routing, or sending nothing
abbrev pub Modest : (Order → List Slip) → Type 0
Modest send = (t : Order) → total (send t) ≤ t.remaining

-- t is taken out of the book, or new, and the place i is free
pub record After (e : Bests) (look : ℕ → Terms) (send : Order → List Slip) (i : ℕ) (old t : Order) (b : List Order) (r : Turned) : Type 0 where
  pub long : length r.book ≡ length b
  -- every other place is as it was, or was filled in part or whole
  pub others : (j : ℕ) → j ≢ i → Low (at b j) (at r.book j)
  -- what rests in its place is t, booked where it should be
  pub own : Live (at r.book i) → ((at r.book i).arrival ≡ t.arrival) × Settled e look (at r.book i)
  pub clear : Clear r.book
  pub most : Most b → t.remaining ≤ t.terms.size → Most r.book
  pub clean : Clean b → Clean r.book
  -- of each order: what rested is filled, cancelled, sent away, or still rests
  pub sizes : (a : ℕ) → resting a b + part a t ≡ resting a r.book + (filled a r.out + cancelled a r.out) + share a t.arrival (total r.slips)
  -- the slips are those of what trading left of t
  pub sent : (n : ℕ) × (n ≤ t.remaining) × (r.slips ≡ send (with_rem t n))
  pub nothing_away : (a : ℕ) → away a r.out ≡ 0
  pub nothing_new : news r.out ≡ []
  -- every fill is of a buy with a sell, at a price that both orders and the away best allow
  pub fair : AllByRecursion (Fair e look) r.out
  -- where no other order has its number, its booking states what rests of it
  pub stated : resting t.arrival b ≡ 0 → StatesRest (λ a. resting a r.book) r.out
  -- only t is booked, and where it rests its prices are those of its last booking
  pub quiet : (a : ℕ) (p : Prices) → a ≢ t.arrival → latest a p r.out ≡ p
  pub shows : Live (at r.book i) → latest t.arrival (prices_of old) r.out ≡ prices_of (at r.book i)

-- the book was in order, with orders numbered up to n
pub record Entered (e : Bests) (look : ℕ → Terms) (send : Order → List Slip) (n : ℕ) (t : Terms) (b : List Order) (r : Turned) : Type 0 where
  pub long : length r.book ≡ length b
  pub settled : Holds (Settled e look) r.book
  pub clear : Clear r.book
  pub distinct : Distinct r.book
  pub numbered : Numbered (suc n) r.book
  pub most : Most b → Most r.book
  pub clean : Clean b → Clean r.book
  pub sizes : (a : ℕ) → resting a b + share a (suc n) t.size ≡ resting a r.book + (filled a r.out + cancelled a r.out) + share a (suc n) (total r.slips)
  pub sent : (m : ℕ) × (m ≤ t.size) × (r.slips ≡ send (with_rem (fresh (suc n) t) m))
  pub nothing_away : (a : ℕ) → away a r.out ≡ 0
  pub announces : news r.out ≡ (suc n, t.id) ∷ []
  pub fair : AllByRecursion (Fair e look) r.out
  pub stated : StatesRest (λ a. resting a r.book) r.out
  pub quiet : (a : ℕ) (p : Prices) → a ≢ suc n → latest a p r.out ≡ p
  -- `was` has the prices of each order by its last booking before
  pub shows : (was : ℕ → Prices) → was (suc n) ≡ prices_of free → ((j : ℕ) → Live (at b j) → was (at b j).arrival ≡ prices_of (at b j)) → (j : ℕ) → Live (at r.book j) → latest (at r.book j).arrival (was (at r.book j).arrival) r.out ≡ prices_of (at r.book j)

-- every order that rests after it is settled, and what rested is filled, cancelled or still rests
pub record Told (e : Bests) (look : ℕ → Terms) (a : ℕ) (old b : List Order) (r : Out) : Type 0 where
  pub long : length r.book ≡ length b
  pub stems : Stems b r.book
  pub settled : Holds (Settled e look) r.book
  pub clear : Clear r.book
  pub most : Most b → Most r.book
  pub clean : Clean b → Clean r.book
  pub sizes : (x : ℕ) → resting x b ≡ resting x r.book + (filled x r.out + cancelled x r.out)
  pub nothing_away : (x : ℕ) → away x r.out ≡ 0
  pub nothing_new : news r.out ≡ []
  pub fair : AllByRecursion (Fair e look) r.out
  pub stated : StatesRest (λ x. resting x r.book) r.out
  pub quiet : (x : ℕ) (p : Prices) → ((j : ℕ) → Live (at b j) → (at b j).arrival ≢ x) → latest x p r.out ≡ p
  pub shows : (j : ℕ) (p : Prices) → Live (at r.book j) → ((at b j).arrival ≤ a → p ≡ prices_of (at b j)) → (a < (at b j).arrival → p ≡ prices_of (at old j)) → latest (at b j).arrival p r.out ≡ prices_of (at r.book j)

-- a quote may find the book in order under any earlier away best d
abbrev pub BookLaws : Type 0
BookLaws = (e : Bests) (R : ℕ → Bool) (look : ℕ → Terms) →
    ((send : Order → List Slip) → Modest send → (i : ℕ) (old t : Order) (b : List Order) → i < length b → at b i ≡ free → look t.arrival ≡ t.terms → Holds (Held e look) b → Clear b → After e look send i old t b (turn e R send i old t b))
    × ((send : Order → List Slip) → Modest send → (i n : ℕ) (t : Terms) (b : List Order) → i < length b → at b i ≡ free → look (suc n) ≡ t → Holds (Settled e look) b → Clear b → Distinct b → Numbered n b → Entered e look send n t b (enter e R send i (suc n) t b))
    × ((d : Bests) (n : ℕ) (b : List Order) → Holds (Held d look) b → Clear b → Distinct b → Numbered n b → Told e look 0 b b (quote e R b))
