-- One field judged by itself: its value, or the fault at its number. Assumes nothing.
--     ladder_by, side_by, origin_by, kind_by, mark_by     what a letter says in that field, as values has it
--     or_range field r        what a letter was converted to, else row 4 at the field
--     listed field o          what the letter says, else row 4 at the field
--     within low high field n n where it is low to high, else row 4 at the field
--     wide_by n               whether the width mark lets wide markets through
--     size_beside field p s   a quote's size beside its price: up to 99,999, and 0 exactly where the price is
--     limit_by kind n         an order's limit: up to 100,000, and 0 exactly for a market order
--     on_ladder rung field p  a price where it is 0 or a rung, else row 5 at the field
--     handled kind            a kind where it is limit or market, else row 6
use Rattle.std.specs.Prelude.{ℕ, Bool, true, false, cond, ◌&&◌, ◌||◌, Ok, Err, Option, Result, ◌==◌, nat_le}
use Rattle.values.specs.declared.terms.Kind.{Kind}
use Rattle.values.specs.declared.terms.Kind.TheVariants.{Limit, Market, Immediate, AllOrNone}
use Rattle.std.specs.Option.{ok_or}
use Rattle.values.specs.declared.terms.NotListed.{NotListed}
pub use Rattle.values.specs.Terms.{ladder_by, side_by, origin_by, kind_by, mark_by}
use Rattle.values.specs.declared.faults.CheckFault.{CheckFault}
use Rattle.values.specs.declared.faults.CheckFault.TheVariants.{OutOfRange, OffLadder, KindNotHandled}

-- what a letter was converted to, else row 4 at the field
abbrev pub or_range : {A : Type 0} → ℕ → Result A NotListed → Result A CheckFault
or_range field (Ok x) = Ok x
or_range field (Err e) = Err (OutOfRange field)

-- the same of what the letter says, if it is listed
abbrev pub listed : {A : Type 0} → ℕ → Option A → Result A CheckFault
listed field o = or_range field (ok_or o (record {}))

-- n where it is low to high, else row 4 at the field
abbrev pub within : ℕ → ℕ → ℕ → ℕ → Result ℕ CheckFault
within low high field n = cond (nat_le low n && nat_le n high) (Ok n) (Err (OutOfRange field))

-- 0 keeps wide markets out, 1 lets them through
abbrev pub wide_by : ℕ → Result Bool CheckFault
wide_by n = cond (n == 0) (Ok false) (cond (n == 1) (Ok true) (Err (OutOfRange 3)))

-- 0 exactly where the price is 0
abbrev pub size_beside : ℕ → ℕ → ℕ → Result ℕ CheckFault
size_beside field price size = cond (price == 0) (within 0 0 field size) (within 1 99999 field size)

-- 0 exactly for a market order
abbrev pub limit_by : Kind → ℕ → Result ℕ CheckFault
limit_by Market n = within 0 0 8 n
limit_by Limit n = within 1 100000 8 n
limit_by Immediate n = within 1 100000 8 n
limit_by AllOrNone n = within 1 100000 8 n

-- a price of 0 is none, and any other is a rung
abbrev pub on_ladder : (ℕ → Bool) → ℕ → ℕ → Result ℕ CheckFault
on_ladder rung field price = cond (price == 0 || rung price) (Ok price) (Err (OffLadder field))

-- limit and market orders are handled
abbrev pub handled : Kind → Result Kind CheckFault
handled Limit = Ok Limit
handled Market = Ok Market
handled Immediate = Err KindNotHandled
handled AllOrNone = Err KindNotHandled
