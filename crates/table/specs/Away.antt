-- The away best as numbers, and as prices of a ladder. Assumes nothing.
--     backed a s          the rung behind the away best that a side meets
--     On R a              a's rungs are those of the ladder with the rungs R
--     clamped a o         o after step two of a quote; clamped_as s a o, where s is its side
use Rattle.std.specs.Prelude.{◌≡◌, ℕ, Bool, cond}
use Rattle.values.specs.declared.terms.Side.{Side}
use Rattle.values.specs.declared.terms.Side.TheVariants.{Buy, Sell}
use Rattle.rules.specs.declared.Order.{Order}
use Rattle.rules.specs.Sides.{ok, facing}
use Rattle.rules.specs.Ladders.{behind}
use Rattle.rules.specs.Book.{side_of, priced}
use Rattle.table.specs.declared.sides.Away.{Away}

abbrev pub backed : Away → Side → ℕ
backed a Buy = a.under
backed a Sell = a.over

abbrev pub On : (ℕ → Bool) → Away → Type 0
On R a = (s : Side) → backed a s ≡ behind R s (facing a.best s)

-- an order of the side s, set to the away best where it is booked past it
abbrev pub clamped_as : Side → Away → Order → Order
clamped_as s a o = cond (ok s (facing a.best s) o.booked) o (priced o (facing a.best s) (backed a s))

abbrev pub clamped : Away → Order → Order
clamped a o =
    let s = side_of o in
    cond (ok s (facing a.best s) o.booked) o (priced o (facing a.best s) (backed a s))
