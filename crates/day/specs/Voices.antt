-- A day said in some voice: what is written for it, whatever the words are. Assumes nothing.
--     Words                   what a voice writes: for the first line, for a later line with what came of it, for too long an input
--     telling say lines os    each line said with what came of it, in their order
--     Said say R s lines out s'      out says these lines one after the other, and they take a series from s to s'
--     SaysDay say R wide lines out   out says the outcomes of a day of these lines, which is a lawful run of a new series
--     Says w input out        out is what is said of an input of any length
--     plain                   the words of the answer itself: each fault, or the reports and the slips
use Rattle.std.specs.Prelude.{◌≡◌, ℕ, Bool, true, false, List, [], ◌∷◌, ◌++◌, length, Ok, Err, Result, nat_le}
use Rattle.market.specs.Any.{rungs_of}
use Rattle.values.specs.declared.faults.Fault.{Fault}
use Rattle.values.specs.declared.faults.LineFault.TheVariants.{NoCall}
use Rattle.values.specs.Codes.{of_line}
use Rattle.values.specs.Texts.{ended, fault_text}
use Rattle.checks.specs.declared.checked.Settings.{Settings}
use Rattle.lines.specs.Inputs.{lines_of}
use Rattle.opening.specs.Opening.{started}
use Rattle.rules.specs.States.{State}
use Rattle.day.specs.Days.{Outcome, text, Answers, Comes, Day}

pub record Words : Type 0 where
  pub settled : Settings → List ℕ
  pub unsettled : List ℕ → Fault → List ℕ
  pub too_long : List ℕ
  pub say : List ℕ → Outcome → List ℕ

abbrev pub telling : (List ℕ → Outcome → List ℕ) → List (List ℕ) → List Outcome → List ℕ
telling say [] os = []
telling say (line ∷ lines) [] = []
telling say (line ∷ lines) (o ∷ os) = say line o ++ telling say lines os

pub record Said (say : List ℕ → Outcome → List ℕ) (R : ℕ → Bool) (s : State) (lines : List (List ℕ)) (out : List ℕ) (s' : State) : Type 0 where
  pub outcomes : List Outcome
  pub answers : Answers lines outcomes
  pub written : out ≡ telling say lines outcomes
  pub comes : Comes R s outcomes s'

-- the day has the bytes that the series answers with, and its outcomes are said
pub record SaysDay (say : List ℕ → Outcome → List ℕ) (R : ℕ → Bool) (wide : Bool) (lines : List (List ℕ)) (out : List ℕ) : Type 0 where
  pub answer : List ℕ
  pub day : Day R wide lines answer
  pub written : out ≡ telling say lines day.outcomes

abbrev pub SaysFrom : Words → List ℕ → Result Settings Fault → List (List ℕ) → List ℕ → Type 0
SaysFrom w first (Ok s) lines out = (b : List ℕ) × (out ≡ w.settled s ++ b) × SaysDay w.say (rungs_of s.ladder) s.wide lines b
SaysFrom w first (Err f) lines out = out ≡ w.unsettled first f

-- an input of no line is answered by nothing
abbrev pub SaysLines : Words → List (List ℕ) → List ℕ → Type 0
SaysLines w [] out = out ≡ []
SaysLines w (first ∷ rest) out = SaysFrom w first (started first) rest out

-- an input of over 65,536 bytes is refused whole
abbrev pub SaysShort : Words → Bool → List ℕ → List ℕ → Type 0
SaysShort w true input out = SaysLines w (lines_of input) out
SaysShort w false input out = out ≡ w.too_long

abbrev pub Says : Words → List ℕ → List ℕ → Type 0
Says w input out = SaysShort w (nat_le (length input) 65536) input out

abbrev pub plain : Words
plain = record {
  settled = λ s. [];
  unsettled = λ line f. ended fault_text f;
  too_long = ended fault_text (of_line NoCall);
  say = λ line o. text o;
}
