-- The paragraphs of a telling, each one line of text. Assumes nothing.
--     done c rs ss            a call that was carried out: what it asked, its reports, its slips
--     refusal line f          that a line was refused: the fault's number, the field and its value, and what it means
--     tell line o             what is told of a line after the first, o being what came of it
--     settled s               what is told of a first line that begins a day
use Rattle.std.specs.Prelude.{ℕ, Bool, true, false, List, [], ◌∷◌, ◌++◌, codes, decimal}
use Rattle.std.specs.List.{flat_map}
use Rattle.market.specs.declared.any.AnyLadder.{AnyLadder}
use Rattle.market.specs.declared.any.AnyLadder.TheVariants.{Cents, CentsThenFives, FivesThenTens}
use Rattle.checks.specs.declared.checked.Settings.{Settings}
use Rattle.values.specs.declared.calls.Call.{Call}
use Rattle.values.specs.declared.faults.Fault.{Fault}
use Rattle.values.specs.declared.reports.Report.{Report}
use Rattle.values.specs.declared.reports.Slip.{Slip}
use Rattle.values.specs.Codes.{code, of_line}
use Rattle.rules.specs.Steps.Event.{did, refused}
use Rattle.day.specs.Days.{Outcome}
use Rattle.day.specs.Days.Outcome.{unread, came}
use Rattle.words.specs.Money.{say}
use Rattle.phrases.specs.Asked.{asked_words}
use Rattle.words.specs.Answers.{report_words, slip_words}
use Rattle.phrases.specs.Refusals.{fault_words}
use Rattle.telling.specs.Fields.{field_of, field_part}

-- a call that is carried out and reports nothing
abbrev pub closing : List Report → List ℕ
closing [] = codes " No order changes.\n"
closing (r ∷ rs) = codes "\n"

unfoldable pub done : Call → List Report → List Slip → List ℕ
done c rs ss = asked_words c ++ (flat_map report_words rs ++ (flat_map slip_words ss ++ closing rs))

abbrev pub number_words : ℕ → List ℕ
number_words n = say (codes " Refused, fault " ∷ decimal n ∷ codes ": " ∷ [])

unfoldable pub refusal : List ℕ → Fault → List ℕ
refusal line f = number_words (code f).number ++ (field_part line (field_of f) ++ (fault_words f ++ codes ".\n"))

abbrev pub tell : List ℕ → Outcome → List ℕ
tell line (unread f) = codes "This line cannot be read." ++ refusal line (of_line f)
tell line (came (did c m rs ss)) = done c rs ss
tell line (came (refused c m f)) = asked_words c ++ refusal line f

-- ---- the first line
unfoldable pub ladder_words : AnyLadder → List ℕ
ladder_words Cents = codes "every cent"
ladder_words CentsThenFives = codes "every cent below $3.00, then every five cents"
ladder_words FivesThenTens = codes "every five cents below $3.00, then every ten cents"

unfoldable pub width_words : Bool → List ℕ
width_words true = codes "let through however wide the market is"
width_words false = codes "refused while the market is $5.00 wide or wider"

abbrev pub settings_words : List ℕ → List ℕ → List ℕ
settings_words prices wide = say (codes "A new day. Prices: " ∷ prices ∷ codes ". Market orders are " ∷ wide ∷ codes ".\n" ∷ [])

unfoldable pub settled : Settings → List ℕ
settled s = settings_words (ladder_words s.ladder) (width_words s.wide)

unfoldable pub unsettled : List ℕ → Fault → List ℕ
unsettled line f = codes "The day cannot begin." ++ refusal line f

abbrev pub too_long : List ℕ
too_long = codes "Refused, fault 1: the input is over 65,536 bytes, and none of it is read.\n"
