-- Entry: what the monitor says to an order, once, and what the order is entered with. Assumes nothing.
--     sinks n m kind side             a market sell without a bid that becomes a limit sell at the lowest rung
--     too_wide, too_high, too_low     the tests of the monitor
--     objection wide n m kind side limit      why an order is kept from trading, if it is
--     granted lowest n m kind side limit      the kind and the limit that it goes on with
--     verdict                         the two together
--     protect R s n p                 the protection limit, n rungs past the national best p of the other side
--     admit R e m o                   what the order o is entered with
-- n is the national best, m the best displayed here, e the away best.
use Rattle.std.specs.Prelude.{ℕ, ◌+◌, ◌*◌, Bool, false, cond, not, ◌&&◌, ◌||◌, Some, None, Option, Result, ◌==◌, nat_le, nat_lt}
use Rattle.std.specs.declared.result.Result.TheVariants as result
use Rattle.market.specs.Rungs.{bottom}
use Rattle.values.specs.declared.terms.Side.{Side}
use Rattle.values.specs.declared.terms.Side.TheVariants.{Buy, Sell}
use Rattle.values.specs.declared.terms.Kind.{Kind}
use Rattle.values.specs.declared.terms.Kind.TheVariants.{Limit, Market, Immediate, AllOrNone}
use Rattle.values.specs.declared.faults.MonitorFault.{MonitorFault}
use Rattle.values.specs.declared.faults.MonitorFault.TheVariants.{WideMarket, NoBid, BuyTooHigh, SellTooLow}
use Rattle.checks.specs.declared.checked.CheckedOrder.{CheckedOrder}
use Rattle.rules.specs.declared.Bests.{Bests}
use Rattle.rules.specs.declared.Terms.{Terms}
use Rattle.rules.specs.Sides.{facing, national}
use Rattle.rules.specs.Ladders.{reach}

-- no bid anywhere, and an offer displayed here at 10 or less
abbrev pub unbid : Bests → Bests → Bool
unbid n m = n.bid == 0 && (nat_lt 0 m.offer && nat_le m.offer 10)

abbrev pub sinks : Bests → Bests → Kind → Side → Bool
sinks n m Market Sell = unbid n m
sinks n m Market Buy = false
sinks n m Limit s = false
sinks n m Immediate s = false
sinks n m AllOrNone s = false

-- the national offer is present and at least 500 above the bid; an absent bid counts 0
abbrev pub too_wide : Bool → Bests → Bool
too_wide wide n = not wide && (nat_lt 0 n.offer && nat_le (n.bid + 500) n.offer)

-- up to 50: from 25 above the offer; over 50: from 250 above it, or from three halves of it
abbrev pub too_high : ℕ → ℕ → Bool
too_high limit offer = cond (nat_le offer 50) (nat_le (offer + 25) limit) (nat_le (offer + 250) limit || nat_le (3 * offer) (2 * limit))

-- from 250 below the bid, or from half of it, down
abbrev pub too_low : ℕ → ℕ → Bool
too_low limit bid = nat_le (limit + 250) bid || nat_le (2 * limit) bid

-- a market sell without a bid: becomes a limit sell, or is refused where the national offer is above 10, or goes on
abbrev pub unsold : Bests → Bests → Option MonitorFault
unsold n m = cond (unbid n m) None (cond (n.bid == 0 && nat_lt 10 n.offer) (Some NoBid) None)

-- a limit buy passes while no offer is present, a limit sell while the bid is at most 25
abbrev pub limit_objection : Bests → Side → ℕ → Option MonitorFault
limit_objection n Buy limit = cond (n.offer == 0) None (cond (too_high limit n.offer) (Some BuyTooHigh) None)
limit_objection n Sell limit = cond (nat_le n.bid 25) None (cond (too_low limit n.bid) (Some SellTooLow) None)

abbrev pub objection : Bool → Bests → Bests → Kind → Side → ℕ → Option MonitorFault
objection wide n m Market Buy limit = cond (too_wide wide n) (Some WideMarket) None
objection wide n m Market Sell limit = cond (too_wide wide n) (Some WideMarket) (unsold n m)
objection wide n m Limit s limit = limit_objection n s limit
objection wide n m Immediate s limit = limit_objection n s limit
objection wide n m AllOrNone s limit = limit_objection n s limit

abbrev pub granted : ℕ → Bests → Bests → Kind → Side → ℕ → Kind × ℕ
granted lowest n m kind s limit = cond (sinks n m kind s) (Limit, lowest) (kind, limit)

abbrev pub ruled : Option MonitorFault → Kind × ℕ → Result (Kind × ℕ) MonitorFault
ruled None g = result.Ok g
ruled (Some f) g = result.Err f

abbrev pub verdict : Bool → ℕ → Bests → Bests → Kind → Side → ℕ → Result (Kind × ℕ) MonitorFault
verdict wide lowest n m kind s limit = ruled (objection wide n m kind s limit) (granted lowest n m kind s limit)

-- none where no rungs are asked for, or the side is absent
abbrev pub protect : (ℕ → Bool) → Side → ℕ → ℕ → ℕ
protect R s n p = cond (n == 0 || p == 0) 0 (reach R s n p)

unfoldable pub admit : (ℕ → Bool) → Bests → Bests → CheckedOrder → Terms
admit R e m o =
    let n = national e m in
    let g = granted (bottom R) n m o.kind o.side o.limit in
    record {
      id = o.id;
      firm = o.firm;
      side = o.side;
      kind = g.0;
      limit = g.1;
      protection = protect R o.side o.protection (facing n o.side);
      size = o.size;
    }
