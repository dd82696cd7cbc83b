-- What a line after the header makes of the away market. Assumes nothing.
--     taken R bytes       a quote to be told, a well-formed call that is passed over, or the line's fault
--     after qs r          the quotes after a line was taken so: only a quote changes them
use Rattle.std.specs.Prelude.{ℕ, Bool, List, Ok, Err, Result}
use Rattle.market.specs.declared.board.Quote.{Quote}
use Rattle.market.specs.Quotes.{told}
use Rattle.values.specs.declared.calls.Call.{Call}
use Rattle.values.specs.declared.calls.Call.TheVariants as call
use Rattle.values.specs.declared.faults.Fault.{Fault}
use Rattle.values.specs.declared.faults.LineFault.{LineFault}
use Rattle.values.specs.declared.faults.CheckFault.{CheckFault}
use Rattle.values.specs.Codes.{of_line, of_check}
use Rattle.checks.specs.declared.checked.CheckedCall.{CheckedCall}
use Rattle.checks.specs.Checked.{checked_away}
use Rattle.lines.specs.Calls.{read_call_of}
use Rattle.morning.specs.declared.taking.Taken.{Taken}
use Rattle.morning.specs.declared.taking.Taken.TheVariants as taking

-- a quote whose fields fit is told
abbrev pub quote_or : ℕ → Quote → Result CheckedCall CheckFault → Result Taken Fault
quote_or e q (Ok k) = Ok (taking.Told e q)
quote_or e q (Err f) = Err (of_check f)

-- every other call is passed over, whatever its fields
abbrev pub call_or : (ℕ → Bool) → Result Call LineFault → Result Taken Fault
call_or R (Ok (call.Away e q)) = quote_or e q (checked_away R e q)
call_or R (Ok call.Open) = Ok (taking.PassedOver call.Open)
call_or R (Ok (call.Order o)) = Ok (taking.PassedOver (call.Order o))
call_or R (Ok (call.Cancel id)) = Ok (taking.PassedOver (call.Cancel id))
call_or R (Ok (call.Reply slip filled)) = Ok (taking.PassedOver (call.Reply slip filled))
call_or R (Err f) = Err (of_line f)

abbrev pub taken : (ℕ → Bool) → List ℕ → Result Taken Fault
taken R bytes = call_or R (read_call_of bytes)

abbrev pub after : List Quote → Result Taken Fault → List Quote
after qs (Ok (taking.Told e q)) = told qs e q
after qs (Ok (taking.PassedOver c)) = qs
after qs (Err f) = qs
