-- What a table of lines answers, line by line. Assumes nothing.
--     is_mark line             the line is only '#', which begins a new input
--     first_judged line        a first line, read and checked: the header and its ladder, or the fault
--     later_judged ladder line a later line, read and checked: the call, or the fault
--     judged stage line        the answer to a line, and where the table stands after it
--     told answer              what is written of an answer
--     table stage lines        what is written of all lines
--     answered input           what is written of an input
use Rattle.std.specs.Prelude.{ℕ, Bool, cond, ◌&&◌, List, [], ◌∷◌, ◌++◌, length, Ok, Err, Result, ◌==◌, nat_le, slice_index}
use Rattle.market.specs.declared.any.AnyLadder.{AnyLadder}
use Rattle.market.specs.Any.{rungs_of}
use Rattle.values.specs.declared.calls.Header.{Header}
use Rattle.values.specs.declared.calls.Call.{Call}
use Rattle.values.specs.declared.faults.Fault.{Fault}
use Rattle.values.specs.declared.faults.LineFault.{LineFault}
use Rattle.values.specs.declared.faults.LineFault.TheVariants.{NoCall}
use Rattle.values.specs.declared.faults.CheckFault.{CheckFault}
use Rattle.values.specs.Codes.{of_line, of_check}
use Rattle.values.specs.Texts.{header_text, call_text, fault_text, ended}
use Rattle.lines.specs.Calls.{read_header_of, read_call_of}
use Rattle.lines.specs.Inputs.{lines_of}
use Rattle.checks.specs.declared.checked.Settings.{Settings}
use Rattle.checks.specs.declared.checked.CheckedCall.{CheckedCall}
use Rattle.checks.specs.Checked.{checked_header, checked_call}
use Rattle.linetable.specs.declared.table.Stage.{Stage}
use Rattle.linetable.specs.declared.table.Stage.TheVariants.{First, Later, Ended}
use Rattle.linetable.specs.declared.table.Answer.{Answer}
use Rattle.linetable.specs.declared.table.Answer.TheVariants as answer

abbrev pub is_mark : List ℕ → Bool
is_mark line = length line == 1 && slice_index line 0 == 35

-- the header and its ladder, or the fault of its fields
abbrev pub with_settings : Header → Result Settings CheckFault → Result (Header × AnyLadder) Fault
with_settings h (Ok s) = Ok (h, s.ladder)
with_settings h (Err f) = Err (of_check f)

abbrev pub with_header : Result Header LineFault → Result (Header × AnyLadder) Fault
with_header (Ok h) = with_settings h (checked_header h)
with_header (Err f) = Err (of_line f)

abbrev pub first_judged : List ℕ → Result (Header × AnyLadder) Fault
first_judged line = with_header (read_header_of line)

-- the call as it was read, or the fault of its fields
abbrev pub with_check : Call → Result CheckedCall CheckFault → Result Call Fault
with_check c (Ok v) = Ok c
with_check c (Err f) = Err (of_check f)

abbrev pub with_call : AnyLadder → Result Call LineFault → Result Call Fault
with_call ladder (Ok c) = with_check c (checked_call (rungs_of ladder) c)
with_call ladder (Err f) = Err (of_line f)

abbrev pub later_judged : AnyLadder → List ℕ → Result Call Fault
later_judged ladder line = with_call ladder (read_call_of line)

-- a refused first line ends its input
abbrev pub after_first : Result (Header × AnyLadder) Fault → Answer × Stage
after_first (Ok p) = (answer.Header p.0, Later p.1)
after_first (Err f) = (answer.Refused f, Ended)

-- a later line changes nothing for those behind it
abbrev pub after_later : AnyLadder → Result Call Fault → Answer × Stage
after_later ladder (Ok c) = (answer.Call c, Later ladder)
after_later ladder (Err f) = (answer.Refused f, Later ladder)

abbrev pub by_stage : Stage → List ℕ → Answer × Stage
by_stage First line = after_first (first_judged line)
by_stage (Later ladder) line = after_later ladder (later_judged ladder line)
by_stage Ended line = (answer.Nothing, Ended)

-- a mark begins a new input, whatever came before
abbrev pub judged : Stage → List ℕ → Answer × Stage
judged stage line = cond (is_mark line) (answer.Mark, First) (by_stage stage line)

-- a line of its own, or nothing
abbrev pub told : Answer → List ℕ
told answer.Mark = 35 ∷ 10 ∷ []
told (answer.Header h) = ended header_text h
told (answer.Call c) = ended call_text c
told (answer.Refused f) = ended fault_text f
told answer.Nothing = []

unfoldable pub table : Stage → List (List ℕ) → List ℕ
table stage [] = []
table stage (line ∷ lines) = told (judged stage line).0 ++ table (judged stage line).1 lines

-- an input of up to 65,536 bytes; a longer one is refused whole
abbrev pub answered : List ℕ → List ℕ
answered input = cond (nat_le (length input) 65536) (table First (lines_of input)) (ended fault_text (of_line NoCall))
