-- The settings that a first line gives. Assumes nothing.
--     started bytes       the settings, or the fault of the line or of a field
use Rattle.std.specs.Prelude.{ℕ, List, Ok, Err, Result}
use Rattle.values.specs.declared.calls.Header.{Header}
use Rattle.values.specs.declared.faults.Fault.{Fault}
use Rattle.values.specs.declared.faults.LineFault.{LineFault}
use Rattle.values.specs.declared.faults.CheckFault.{CheckFault}
use Rattle.values.specs.Codes.{of_line, of_check}
use Rattle.checks.specs.declared.checked.Settings.{Settings}
use Rattle.checks.specs.Checked.{checked_header}
use Rattle.lines.specs.Calls.{read_header_of}

abbrev pub settings_or : Result Settings CheckFault → Result Settings Fault
settings_or (Ok s) = Ok s
settings_or (Err f) = Err (of_check f)

abbrev pub header_or : Result Header LineFault → Result Settings Fault
header_or (Ok h) = settings_or (checked_header h)
header_or (Err f) = Err (of_line f)

abbrev pub started : List ℕ → Result Settings Fault
started bytes = header_or (read_header_of bytes)
