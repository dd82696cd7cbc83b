-- Routing: what is left of an order at entry goes out in slips to the exchanges at the away best. Assumes nothing.
--     bests qs                    the best bid and offer of fifteen quotes
--     offered s w q               how many contracts q has at the price w for an order of side s
--     shares s w a qs x k n       the slips for n contracts of the a-th order at w: to exchanges x on, numbered from k
--     total ss                    how many contracts the slips carry
--     routing go qs e k t         the slips for the rest of t, where it may go out; k were numbered before
--     nowhere t                   no slips
use Rattle.std.specs.Prelude.{ℕ, suc, ◌-◌, min, Bool, cond, ◌&&◌, List, [], ◌∷◌, sum_by, ◌==◌, nat_lt}
use Rattle.market.specs.declared.board.Quote.{Quote}
use Rattle.market.specs.Quotes.{best_bid, best_offer}
use Rattle.values.specs.declared.terms.Side.{Side}
use Rattle.values.specs.declared.terms.Side.TheVariants.{Buy, Sell}
use Rattle.values.specs.declared.reports.Slip.{Slip}
use Rattle.rules.specs.declared.Order.{Order}
use Rattle.rules.specs.declared.Bests.{Bests}
use Rattle.rules.specs.Sides.{facing}
use Rattle.rules.specs.Book.{side_of}
use Rattle.rules.specs.Trading.{within}

unfoldable pub bests : List Quote → Bests
bests qs = record { bid = (best_bid qs).0; offer = (best_offer qs).0 }

-- a buy meets the offer, a sell the bid
abbrev pub offered : Side → ℕ → Quote → ℕ
offered Buy w q = cond (q.offer == w) q.offer_size 0
offered Sell w q = cond (q.bid == w) q.bid_size 0

-- each exchange gets the lesser of what remains and what it has, while any remain
unfoldable pub shares : Side → ℕ → ℕ → List Quote → ℕ → ℕ → ℕ → List Slip
shares s w a [] x k n = []
shares s w a (q ∷ qs) x k n =
    let m = min n (offered s w q) in
    cond (nat_lt 0 m) (record { number = k; arrival = a; exchange = x; price = w; size = m } ∷ shares s w a qs (suc x) (suc k) (n - m)) (shares s w a qs (suc x) k n)

abbrev pub total : List Slip → ℕ
total ss = sum_by (λ s. s.size) ss

unfoldable pub routing : Bool → List Quote → Bests → ℕ → Order → List Slip
routing go qs e k t =
    let s = side_of t in
    let w = facing e s in
    cond (go && (nat_lt 0 w && within t.terms w)) (shares s w t.arrival qs 1 (suc k) t.remaining) []

abbrev pub nowhere : Order → List Slip
nowhere t = []
