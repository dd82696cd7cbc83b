-- The table of faults: number, layer and place of every cause. Every promise about a refusal speaks through `code`.
--     code f        the number, layer and place of the fault f
--     number_of c   the number of a cause of cancelling
use Rattle.std.specs.Prelude.{ℕ}
use Rattle.market.specs.declared.packed.BoardFault.{BoardFault}
use Rattle.market.specs.declared.packed.BoardFault.TheVariants.{Length}
use Rattle.values.specs.declared.faults.Layer.{Layer}
use Rattle.values.specs.declared.faults.Layer.TheVariants as layer
use Rattle.values.specs.declared.faults.LineFault.{LineFault}
use Rattle.values.specs.declared.faults.LineFault.TheVariants.{NoCall, FieldCount, Unreadable}
use Rattle.values.specs.declared.faults.CheckFault.{CheckFault}
use Rattle.values.specs.declared.faults.CheckFault.TheVariants.{OutOfRange, OffLadder, KindNotHandled}
use Rattle.values.specs.declared.faults.SeriesFault.{SeriesFault}
use Rattle.values.specs.declared.faults.SeriesFault.TheVariants.{NotOpen, AlreadyOpen, NoRoomForReports, NoRoomForSlips, IdInUse, BookFull, AllArrivalsUsed, TooFewSlipsFree, NotResting, SlipNotOut, FilledAboveSize}
use Rattle.values.specs.declared.faults.MonitorFault.{MonitorFault}
use Rattle.values.specs.declared.faults.MonitorFault.TheVariants.{WideMarket, NoBid, BuyTooHigh, SellTooLow}
use Rattle.values.specs.declared.faults.Fault.{Fault}
use Rattle.values.specs.declared.faults.Fault.TheVariants as fault
use Rattle.values.specs.declared.faults.Code.{Code}
use Rattle.values.specs.declared.reports.Cause.{Cause}
use Rattle.values.specs.declared.reports.Cause.TheVariants.{Asked, Protection, NoPrice, Unfilled}

abbrev pub row : ℕ → Layer → ℕ → Code
row n l p = record { number = n; layer = l; place = p }

abbrev pub code : Fault → Code
code (fault.Line NoCall) = row 1 layer.Line 1
code (fault.Line (FieldCount found)) = row 2 layer.Line found
code (fault.Line (Unreadable field)) = row 3 layer.Line field
code (fault.Check (OutOfRange field)) = row 4 layer.Check field
code (fault.Check (OffLadder field)) = row 5 layer.Check field
code (fault.Check KindNotHandled) = row 6 layer.Check 6
code (fault.Series NotOpen) = row 7 layer.Series 0
code (fault.Series AlreadyOpen) = row 8 layer.Series 0
code (fault.Series NoRoomForReports) = row 9 layer.Series 1
code (fault.Series NoRoomForSlips) = row 9 layer.Series 2
code (fault.Series IdInUse) = row 10 layer.Series 0
code (fault.Series BookFull) = row 11 layer.Series 0
code (fault.Series AllArrivalsUsed) = row 12 layer.Series 0
code (fault.Series TooFewSlipsFree) = row 13 layer.Series 0
code (fault.Monitor WideMarket) = row 14 layer.Monitor 0
code (fault.Monitor NoBid) = row 15 layer.Monitor 0
code (fault.Monitor BuyTooHigh) = row 16 layer.Monitor 0
code (fault.Monitor SellTooLow) = row 17 layer.Monitor 0
code (fault.Series NotResting) = row 18 layer.Series 0
code (fault.Series SlipNotOut) = row 19 layer.Series 0
code (fault.Series FilledAboveSize) = row 20 layer.Series 0
code (fault.Board (Length found)) = row 21 layer.Board 0

abbrev pub of_line : LineFault → Fault
of_line f = fault.Line f

abbrev pub of_check : CheckFault → Fault
of_check f = fault.Check f

abbrev pub of_series : SeriesFault → Fault
of_series f = fault.Series f

abbrev pub of_monitor : MonitorFault → Fault
of_monitor f = fault.Monitor f

abbrev pub of_board : BoardFault → Fault
of_board f = fault.Board f

abbrev pub number_of : Cause → ℕ
number_of Asked = 1
number_of Protection = 2
number_of NoPrice = 3
number_of Unfilled = 4
