-- An away quote: once the board is told, steps two and three. Assumes nothing.
--     clamp e R o             step two: an order booked past the away best e is set to it, and displayed one rung behind
--     later a o, earlier x y  o rests and arrived after a; x arrived before y
--     turns n e R a old b     step three: each order that arrived after a has its turn, in arrival order, and is never routed
--     quote e R b             both steps; `old` is the book before them
use Rattle.std.specs.Prelude.{ℕ, zero, suc, Bool, cond, ◌&&◌, List, [], ◌++◌, map, length, nat_lt, slice_set}
use Rattle.rules.specs.declared.Order.{Order}
use Rattle.rules.specs.declared.Bests.{Bests}
use Rattle.rules.specs.Sides.{ok, facing}
use Rattle.rules.specs.Ladders.{behind}
use Rattle.rules.specs.Book.{free, at, live, side_of, priced, branch, pick}
use Rattle.rules.specs.Routing.{nowhere}
use Rattle.rules.specs.Resting.{Out, turn}

abbrev pub clamp : Bests → (ℕ → Bool) → Order → Order
clamp e R o =
    let s = side_of o in
    cond (ok s (facing e s) o.booked) o (priced o (facing e s) (behind R s (facing e s)))

abbrev pub later : ℕ → Order → Bool
later a o = live o && nat_lt a o.arrival

abbrev pub earlier : Order → Order → Bool
earlier x y = nat_lt x.arrival y.arrival

unfoldable pub turns : ℕ → Bests → (ℕ → Bool) → ℕ → List Order → List Order → Out
turns zero e R a old b = record { book = b; out = [] }
turns (suc n) e R a old b =
    branch (pick (later a) earlier b (length b)) (record { book = b; out = [] })
    (λ i.
    let r = turn e R nowhere i (at old i) (at b i) (slice_set b i free) in
    let s = turns n e R (at b i).arrival old r.book in
    record { book = s.book; out = r.out ++ s.out })

unfoldable pub quote : Bests → (ℕ → Bool) → List Order → Out
quote e R b = turns (length b) e R 0 b (map (clamp e R) b)
