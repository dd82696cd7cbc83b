-- One exchange's share of an order that is routed. Assumes nothing.
--     share_size s w n q      what the exchange with the quote q takes of n contracts at w
--     share s w a x k n q     its slip, number k for exchange x; none where it takes nothing
--     next_slip s m           the slip for the next exchange, once m contracts of s went to this one
--     goes_out go e t         the order may go out to the away best
--     first_slip w k t        the slip at w for the first exchange, with all that remains of t
--     all_shares s qs f       the slips for all exchanges, f being the first with all that remains
use Rattle.std.specs.Prelude.{ℕ, ◌+◌, ◌-◌, min, Bool, cond, ◌&&◌, List, [], ◌∷◌, nat_lt}
use Rattle.market.specs.declared.board.Quote.{Quote}
use Rattle.values.specs.declared.terms.Side.{Side}
use Rattle.values.specs.declared.reports.Slip.{Slip}
use Rattle.rules.specs.declared.Order.{Order}
use Rattle.rules.specs.declared.Bests.{Bests}
use Rattle.rules.specs.Sides.{facing}
use Rattle.rules.specs.Book.{side_of}
use Rattle.rules.specs.Trading.{within}
use Rattle.rules.specs.Routing.{offered, shares}

abbrev pub share_size : Side → ℕ → ℕ → Quote → ℕ
share_size s w n q = min n (offered s w q)

abbrev pub share : Side → ℕ → ℕ → ℕ → ℕ → ℕ → Quote → List Slip
share s w a x k n q = cond (nat_lt 0 (share_size s w n q)) (record { number = k; arrival = a; exchange = x; price = w; size = share_size s w n q } ∷ []) []

-- the slip for the next exchange, once m contracts of s went to this one
abbrev pub next_slip : Slip → ℕ → Slip
next_slip s m = record { number = cond (nat_lt 0 m) (s.number + 1) s.number; arrival = s.arrival; exchange = s.exchange + 1; price = s.price; size = s.size - m }

-- the slips for all exchanges, from the one for the first on
abbrev pub all_shares : Side → List Quote → Slip → List Slip
all_shares s qs f = shares s f.price f.arrival qs f.exchange f.number f.size

-- the order may go out to the away best
abbrev pub goes_out : Bool → Bests → Order → Bool
goes_out go e t =
    let w = facing e (side_of t) in
    go && (nat_lt 0 w && within t.terms w)

-- the slip at w for the first exchange, k being numbered before, with all that remains of t
abbrev pub first_slip : ℕ → ℕ → Order → Slip
first_slip w k t = record { number = k + 1; arrival = t.arrival; exchange = 1; price = w; size = t.remaining }
