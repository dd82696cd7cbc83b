-- What is written for a day's input: a run of a new series, told line by line. Assumes nothing.
--     Outcome                 what came of a line after the first: it is no call, or an event of the series
--     text o                  what is written for it: the fault; or the reports and then the slips of an accepted call
--     Fits line o             o is an outcome of this line: its fault as it is read, or an event of the call that it writes
--     Answers lines os        the outcomes of all the lines, in their order
--     events os               the history of the outcomes, the latest event first
--     Moves R s o s'          o takes a series from s to s'
--     Comes R s os s'         the outcomes os, one after the other
--     Day R wide lines out    out is what is written for these lines by a lawful run of a new series
--     Writes input out        out is what is written for an input of any length
use Rattle.std.specs.Prelude.{◌≡◌, ℕ, Bool, true, false, List, [], ◌∷◌, ◌++◌, length, Ok, Err, Result, nat_le}
use Rattle.std.specs.List.{flat_map}
use Rattle.market.specs.Any.{rungs_of}
use Rattle.values.specs.declared.faults.Fault.{Fault}
use Rattle.values.specs.declared.faults.LineFault.{LineFault}
use Rattle.values.specs.declared.faults.LineFault.TheVariants.{NoCall}
use Rattle.values.specs.Codes.{of_line}
use Rattle.values.specs.Texts.{ended, report_text, slip_text, fault_text}
use Rattle.checks.specs.declared.checked.Settings.{Settings}
use Rattle.lines.specs.Calls.{read_call_of}
use Rattle.lines.specs.Inputs.{lines_of}
use Rattle.opening.specs.Opening.{started}
use Rattle.rules.specs.declared.Room.{Room}
use Rattle.rules.specs.States.{State}
use Rattle.rules.specs.Steps.{Event, Step, Run}
use Rattle.rules.specs.Steps.Event.{did, refused}
use Rattle.rules.specs.Law.{Lawful, Kept}

-- ---- every later line
pub data Outcome : Type 0 where
  unread : LineFault → Outcome
  came : Event → Outcome

abbrev pub text : Outcome → List ℕ
text (unread f) = ended fault_text (of_line f)
text (came (did c m rs ss)) = flat_map (ended report_text) rs ++ flat_map (ended slip_text) ss
text (came (refused c m f)) = ended fault_text f

-- every call has room for 128 reports and 15 slips
abbrev pub full : Room
full = record { reports = 128; slips = 15 }

abbrev pub Fits : List ℕ → Outcome → Type 0
Fits line (unread f) = read_call_of line ≡ Err f
Fits line (came (did c m rs ss)) = (read_call_of line ≡ Ok c) × (m ≡ full)
Fits line (came (refused c m f)) = (read_call_of line ≡ Ok c) × (m ≡ full)

abbrev pub Answers : List (List ℕ) → List Outcome → Type 0
Answers [] [] = Unit {0}
Answers [] (o ∷ os) = ⊥
Answers (line ∷ lines) [] = ⊥
Answers (line ∷ lines) (o ∷ os) = Fits line o × Answers lines os

-- a line that is no call leaves no event
abbrev pub after : List Event → Outcome → List Event
after h (unread f) = h
after h (came e) = e ∷ h

abbrev pub events_on : List Event → List Outcome → List Event
events_on h [] = h
events_on h (o ∷ os) = events_on (after h o) os

abbrev pub events : List Outcome → List Event
events os = events_on [] os

abbrev pub Moves : (ℕ → Bool) → State → Outcome → State → Type 0
Moves R s (unread f) s' = s' ≡ s
Moves R s (came e) s' = Step R s e s'

abbrev pub Comes : (ℕ → Bool) → State → List Outcome → State → Type 0
Comes R s [] s' = s' ≡ s
Comes R s (o ∷ os) s' = (t : State) × Moves R s o t × Comes R t os s'

-- ---- the whole day
pub record Day (R : ℕ → Bool) (wide : Bool) (lines : List (List ℕ)) (out : List ℕ) : Type 0 where
  pub outcomes : List Outcome
  pub answers : Answers lines outcomes
  pub written : out ≡ flat_map text outcomes
  pub end : State
  pub run : Run R wide (events outcomes) end
  pub lawful : Lawful R (events outcomes)
  pub kept : Kept R (events outcomes) end

abbrev pub Begun : Result Settings Fault → List (List ℕ) → List ℕ → Type 0
Begun (Ok s) lines out = Day (rungs_of s.ladder) s.wide lines out
Begun (Err f) lines out = out ≡ ended fault_text f

-- an input of no line is answered by nothing; a first line that is refused by its fault alone
abbrev pub Told : List (List ℕ) → List ℕ → Type 0
Told [] out = out ≡ []
Told (first ∷ rest) out = Begun (started first) rest out

-- an input of over 65,536 bytes is refused whole
abbrev pub Short : Bool → List ℕ → List ℕ → Type 0
Short true input out = Told (lines_of input) out
Short false input out = out ≡ ended fault_text (of_line NoCall)

abbrev pub Writes : List ℕ → List ℕ → Type 0
Writes input out = Short (nat_le (length input) 65536) input out
