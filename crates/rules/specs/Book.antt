-- The book: a table of places, each free or with an order that rests. Read only through `at`. Assumes nothing.
--     no_terms, free              what a place without an order holds
--     at b i, Live o, live o      the order at a place (free outside the table); it rests there
--     side_of o, prices_of o      its side; where it rests
--     priced o p d, with_rem o n  o at other prices; o with n remaining
--     lower o q                   o after q of it are filled: the place is freed where nothing is left
--     branch o x f                f of what is there, else x
--     found o                     whether something is there
--     pick c lt b k               of the first k places that c takes, the first that none of them beats
--     spot c b                    the first place that c takes
--     taken b                     how many orders rest
--     shown s o, touch s b        the displayed price of a resting order of side s; the best of them
--     here b                      the best displayed bid and offer here
use Rattle.std.specs.Prelude.{ℕ, zero, suc, ◌-◌, ◌<◌, Bool, true, false, cond, ◌&&◌, List, length, Some, None, count_by, Option, nat_lt, slice_index_or}
use Rattle.values.specs.declared.terms.Side.{Side}
use Rattle.values.specs.declared.terms.Side.TheVariants.{Buy, Sell}
use Rattle.values.specs.declared.terms.Kind.TheVariants.{Limit}
use Rattle.rules.specs.declared.Terms.{Terms}
use Rattle.rules.specs.declared.Order.{Order}
use Rattle.rules.specs.declared.Prices.{Prices}
use Rattle.rules.specs.declared.Bests.{Bests}
use Rattle.rules.specs.Sides.{same_side, tops}

abbrev pub no_terms : Terms
no_terms = record { id = 0; firm = 0; side = Buy; kind = Limit; limit = 0; protection = 0; size = 0 }

abbrev pub free : Order
free = record { arrival = 0; terms = no_terms; booked = 0; displayed = 0; remaining = 0 }

abbrev pub at : List Order → ℕ → Order
at b i = slice_index_or b i free

-- an order rests while contracts of it remain
abbrev pub live : Order → Bool
live o = nat_lt 0 o.remaining

abbrev pub Live : Order → Type 0
Live o = 0 < o.remaining

abbrev pub side_of : Order → Side
side_of o = o.terms.side

abbrev pub prices_of : Order → Prices
prices_of o = record { booked = o.booked; displayed = o.displayed }

abbrev pub priced : Order → ℕ → ℕ → Order
priced o p d = record { arrival = o.arrival; terms = o.terms; booked = p; displayed = d; remaining = o.remaining }

abbrev pub with_rem : Order → ℕ → Order
with_rem o n = record { arrival = o.arrival; terms = o.terms; booked = o.booked; displayed = o.displayed; remaining = n }

abbrev pub lower : Order → ℕ → Order
lower o q = cond (nat_lt q o.remaining) (with_rem o (o.remaining - q)) free

-- ---- choosing a place
abbrev pub branch : {A X : Type 0} → Option A → X → (A → X) → X
branch None x f = x
branch (Some a) x f = f a

abbrev pub found : {A : Type 0} → Option A → Bool
found None = false
found (Some a) = true

unfoldable pub pick : (Order → Bool) → (Order → Order → Bool) → List Order → ℕ → Option ℕ
pick c lt b zero = None
pick c lt b (suc k) =
    let r = pick c lt b k in
    cond (c (at b k)) (branch r (Some k) (λ i. cond (lt (at b k) (at b i)) (Some k) (Some i))) r

abbrev pub spot : (Order → Bool) → List Order → Option ℕ
spot c b = pick c (λ x y. false) b (length b)

abbrev pub taken : List Order → ℕ
taken b = count_by live b

-- ---- the displayed market here; booked prices do not count
abbrev pub shown : Side → Order → ℕ
shown s o = cond (live o && same_side s (side_of o)) o.displayed 0

abbrev pub touch : Side → List Order → ℕ
touch s b = tops s (λ j. shown s (at b j)) (length b)

abbrev pub here : List Order → Bests
here b = record { bid = touch Buy b; offer = touch Sell b }
