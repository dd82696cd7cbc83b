-- The field checks of a header and of every call: all of row 4 before row 5, row 5 before row 6, and the leftmost field of a row. Assumes nothing.
--     then r next                   goes on with the value, or keeps the fault
--     checked_header h              the settings of a header, or the fault
--     checked_away, checked_order, checked_cancel, checked_reply     a call of one kind by its fields, or the fault
--     checked_call rung c           any call, or the fault
--     routable o                    a public customer's order that may be routed
use Rattle.std.specs.Prelude.{ℕ, Bool, true, false, Ok, Err, Result}
use Rattle.market.specs.declared.board.Quote.{Quote}
use Rattle.values.specs.declared.terms.Origin.{Origin}
use Rattle.values.specs.declared.terms.Origin.TheVariants.{Customer, Other}
use Rattle.values.specs.declared.terms.Mark.{Mark}
use Rattle.values.specs.declared.terms.Mark.TheVariants.{Route, DoNotRoute}
use Rattle.values.specs.declared.calls.Header.{Header}
use Rattle.values.specs.declared.calls.OrderFields.{OrderFields}
use Rattle.values.specs.declared.calls.Call.{Call}
use Rattle.values.specs.declared.calls.Call.TheVariants as call
use Rattle.values.specs.declared.faults.CheckFault.{CheckFault}
use Rattle.checks.specs.declared.checked.Settings.{Settings}
use Rattle.checks.specs.declared.checked.CheckedOrder.{CheckedOrder}
use Rattle.checks.specs.declared.checked.CheckedCall.{CheckedCall}
use Rattle.checks.specs.declared.checked.CheckedCall.TheVariants as checked
use Rattle.checks.specs.Fields.{ladder_by, side_by, origin_by, kind_by, mark_by, listed, within, wide_by, size_beside, limit_by, on_ladder, handled}

-- goes on with the value, or keeps the fault
abbrev pub then : {A B : Type 0} → Result A CheckFault → (A → Result B CheckFault) → Result B CheckFault
then (Ok x) next = next x
then (Err f) next = Err f

-- ladder letter, width mark
abbrev pub checked_header : Header → Result Settings CheckFault
checked_header h =
    then (listed 2 (ladder_by h.ladder)) (λ ladder.
    then (wide_by h.width) (λ wide.
    Ok (record { ladder = ladder; wide = wide })))

-- exchange, bid, its size, offer, its size; then both prices on the ladder
abbrev pub checked_away : (ℕ → Bool) → ℕ → Quote → Result CheckedCall CheckFault
checked_away rung exchange quote =
    then (within 1 15 2 exchange) (λ _.
    then (within 0 100000 3 quote.bid) (λ _.
    then (size_beside 4 quote.bid quote.bid_size) (λ _.
    then (within 0 100000 5 quote.offer) (λ _.
    then (size_beside 6 quote.offer quote.offer_size) (λ _.
    then (on_ladder rung 3 quote.bid) (λ _.
    then (on_ladder rung 5 quote.offer) (λ _.
    Ok (checked.Away exchange quote))))))))

-- id, firm, side, origin, kind, mark, limit, size, protection; then the limit on the ladder; then the kind
abbrev pub checked_order : (ℕ → Bool) → OrderFields → Result CheckedOrder CheckFault
checked_order rung o =
    then (within 1 999999 2 o.id) (λ id.
    then (within 1 9999 3 o.firm) (λ firm.
    then (listed 4 (side_by o.side)) (λ side.
    then (listed 5 (origin_by o.origin)) (λ origin.
    then (listed 6 (kind_by o.kind)) (λ kind.
    then (listed 7 (mark_by o.mark)) (λ mark.
    then (limit_by kind o.limit) (λ limit.
    then (within 1 9999 9 o.size) (λ size.
    then (within 0 20 10 o.protection) (λ protection.
    then (on_ladder rung 8 limit) (λ price.
    then (handled kind) (λ kept.
    Ok (record { id = id; firm = firm; side = side; origin = origin; kind = kept; mark = mark; limit = price; size = size; protection = protection }))))))))))))

-- the id
abbrev pub checked_cancel : ℕ → Result CheckedCall CheckFault
checked_cancel id = then (within 1 999999 2 id) (λ _. Ok (checked.Cancel id))

-- slip, filled
abbrev pub checked_reply : ℕ → ℕ → Result CheckedCall CheckFault
checked_reply slip filled =
    then (within 1 15000000 2 slip) (λ _.
    then (within 0 9999 3 filled) (λ _.
    Ok (checked.Reply slip filled)))

-- every call by its own fields; opening has none
abbrev pub checked_call : (ℕ → Bool) → Call → Result CheckedCall CheckFault
checked_call rung call.Open = Ok checked.Open
checked_call rung (call.Away exchange quote) = checked_away rung exchange quote
checked_call rung (call.Order o) = then (checked_order rung o) (λ order. Ok (checked.Order order))
checked_call rung (call.Cancel id) = checked_cancel id
checked_call rung (call.Reply slip filled) = checked_reply slip filled

-- a public customer's order with mark R
abbrev pub routed : Origin → Mark → Bool
routed Customer Route = true
routed Customer DoNotRoute = false
routed Other mark = false

abbrev pub routable : CheckedOrder → Bool
routable o = routed o.origin o.mark
