-- What each fault means, in words. Assumes nothing.
--     fault_words f       the meaning of the fault f
use Rattle.std.specs.Prelude.{ℕ, List, [], ◌∷◌, codes, decimal}
use Rattle.values.specs.declared.faults.LineFault.{LineFault}
use Rattle.values.specs.declared.faults.LineFault.TheVariants.{NoCall, FieldCount, Unreadable}
use Rattle.values.specs.declared.faults.CheckFault.{CheckFault}
use Rattle.values.specs.declared.faults.CheckFault.TheVariants.{OutOfRange, OffLadder, KindNotHandled}
use Rattle.values.specs.declared.faults.SeriesFault.{SeriesFault}
use Rattle.values.specs.declared.faults.SeriesFault.TheVariants.{NotOpen, AlreadyOpen, NoRoomForReports, NoRoomForSlips, IdInUse, BookFull, AllArrivalsUsed, TooFewSlipsFree, NotResting, SlipNotOut, FilledAboveSize}
use Rattle.values.specs.declared.faults.MonitorFault.{MonitorFault}
use Rattle.values.specs.declared.faults.MonitorFault.TheVariants.{WideMarket, NoBid, BuyTooHigh, SellTooLow}
use Rattle.values.specs.declared.faults.Fault.{Fault}
use Rattle.values.specs.declared.faults.Fault.TheVariants as fault
use Rattle.words.specs.Money.{say}

unfoldable pub line_words : LineFault → List ℕ
line_words NoCall = codes "the line is empty, is over 80 bytes, is of no known kind, or is a header out of place"
line_words (FieldCount found) = say (codes "a line of this kind does not have " ∷ decimal found ∷ codes " fields" ∷ [])
line_words (Unreadable field) = codes "it is not the plain number or the one capital that belongs there"

unfoldable pub check_words : CheckFault → List ℕ
check_words (OutOfRange field) = codes "it is none of the values that this field takes here"
check_words (OffLadder field) = codes "it is no price of the day's ladder"
check_words KindNotHandled = codes "orders of this kind are not handled"

unfoldable pub series_words : SeriesFault → List ℕ
series_words NotOpen = codes "the series is not open yet"
series_words AlreadyOpen = codes "the series is open already"
series_words NoRoomForReports = codes "fewer than 128 places for reports are free"
series_words NoRoomForSlips = codes "fewer than 15 places for slips are free"
series_words IdInUse = codes "an order with this id rests or is out on a slip"
series_words BookFull = codes "64 orders rest, and there is no place for another"
series_words AllArrivalsUsed = codes "1,000,000 orders have been accepted"
series_words TooFewSlipsFree = codes "it may be routed, and fewer than 15 of the 64 slips are free"
series_words NotResting = codes "no order with this id rests"
series_words SlipNotOut = codes "this slip is not out"
series_words FilledAboveSize = codes "this is more than the size of the slip"

unfoldable pub monitor_words : MonitorFault → List ℕ
monitor_words WideMarket = codes "the best offer is $5.00 or more above the best bid, too wide for a market order"
monitor_words NoBid = codes "there is no bid, and the best offer is above $0.10"
monitor_words BuyTooHigh = codes "the limit is too far above the best offer"
monitor_words SellTooLow = codes "the limit is too far below the best bid"

unfoldable pub fault_words : Fault → List ℕ
fault_words (fault.Line f) = line_words f
fault_words (fault.Check f) = check_words f
fault_words (fault.Series f) = series_words f
fault_words (fault.Monitor f) = monitor_words f
fault_words (fault.Board f) = codes "the memory lent to the board is not 240 bytes long"
