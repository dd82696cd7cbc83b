-- The series that the examples come to, written in short. Assumes nothing.
--     filled_up os            a book whose first places hold os
--     open_with wide q os     an opened series: exchange 1 quotes q, os rest, as many were accepted
--     terms, rests            what an order was entered with; where it rests
use Rattle.std.proofs.Common.{ℕ, ◌-◌, Bool, true, false, List, ◌∷◌, ◌++◌, length, replicate}
use Rattle.market.specs.declared.board.Quote.{Quote}
use Rattle.market.specs.Quotes.{absent}
use Rattle.values.specs.declared.terms.Side.{Side}
use Rattle.values.specs.declared.terms.Kind.{Kind}
use Rattle.values.specs.declared.terms.Kind.TheVariants.{Limit}
use Rattle.values.specs.declared.terms.Origin.TheVariants.{Other}
use Rattle.values.specs.declared.terms.Mark.TheVariants.{DoNotRoute}
use Rattle.checks.specs.declared.checked.CheckedOrder.{CheckedOrder}
use Rattle.rules.specs.declared.Order.{Order}
use Rattle.rules.specs.declared.Terms.{Terms}
use Rattle.rules.specs.Book.{free}
use Rattle.rules.specs.Slips.{no_sent}
use Rattle.rules.specs.States.{State}

abbrev pub filled_up : List Order → List Order
filled_up os = os ++ replicate (64 - length os) free

abbrev pub open_with : Bool → Quote → List Order → ℕ → State
open_with wide q os n = record { opened = true; wide = wide; quotes = q ∷ replicate 14 absent; orders = filled_up os; sent = replicate 64 no_sent; arrivals = n; numbered = 0 }

abbrev pub told_only : Bool → Quote → State
told_only wide q = record { opened = false; wide = wide; quotes = q ∷ replicate 14 absent; orders = replicate 64 free; sent = replicate 64 no_sent; arrivals = 0; numbered = 0 }

abbrev pub terms : Side → ℕ → ℕ → ℕ → ℕ → Terms
terms s id limit p size = record { id = id; firm = 4; side = s; kind = Limit; limit = limit; protection = p; size = size }

abbrev pub checked : Kind → Side → ℕ → ℕ → ℕ → ℕ → CheckedOrder
checked k s id limit size n = record { id = id; firm = 4; side = s; origin = Other; kind = k; mark = DoNotRoute; limit = limit; size = size; protection = n }

abbrev pub rests : ℕ → Terms → ℕ → ℕ → ℕ → Order
rests a t booked displayed remaining = record { arrival = a; terms = t; booked = booked; displayed = displayed; remaining = remaining }
