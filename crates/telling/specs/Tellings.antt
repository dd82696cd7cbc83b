-- What is told of a day's input: the outcomes of a day as the series has it, a paragraph each. Assumes nothing.
--     in_words                    what a telling writes
--     TellsDay R wide lines out   out tells the outcomes of a day of these lines, which is a lawful run of a new series
--     Tells input out             out is what is told of an input of any length
use Rattle.std.specs.Prelude.{ℕ, Bool, List}
use Rattle.day.specs.Voices.{Words, SaysDay, Says}
use Rattle.telling.specs.Paragraphs.{tell, settled, unsettled, too_long}

abbrev pub in_words : Words
in_words = record { settled = settled; unsettled = unsettled; too_long = too_long; say = tell }

abbrev pub TellsDay : (ℕ → Bool) → Bool → List (List ℕ) → List ℕ → Type 0
TellsDay = SaysDay tell

abbrev pub Tells : List ℕ → List ℕ → Type 0
Tells = Says in_words
