-- A whole run, by what was asked. Assumes nothing.
--     asked e             the call of an event, and its room
--     lent n k a          what the ask a comes to where n places for reports and k for slips can be lent
--     Asked n k xs h      the events of h, the latest first, are those of the asks, in their order
--     Took R n k a s s'   one ask takes s to s'
--     Ran R wide n k xs s from a new series the asks xs lead to s, by a history that is lawful and that s keeps
use Rattle.std.specs.Prelude.{◌≡◌, ℕ, min, Bool, List, map, reverse}
use Rattle.values.specs.declared.calls.Call.{Call}
use Rattle.rules.specs.declared.Room.{Room}
use Rattle.rules.specs.States.{State}
use Rattle.rules.specs.Steps.{Event, Step, Run}
use Rattle.rules.specs.Steps.Event.{did, refused}
use Rattle.rules.specs.Law.{Lawful, Kept}
use Rattle.series.specs.declared.runs.Ask.{Ask}

abbrev pub asked : Event → Call × Room
asked (did c m rs ss) = (c, m)
asked (refused c m f) = (c, m)

abbrev pub lent : ℕ → ℕ → Ask → Call × Room
lent n k a = (a.call, record { reports = min a.report_room n; slips = min a.slip_room k })

abbrev pub Asked : ℕ → ℕ → List Ask → List Event → Type 0
Asked n k xs h = map asked h ≡ reverse (map (lent n k) xs)

-- one ask takes s to s'
abbrev pub Took : (ℕ → Bool) → ℕ → ℕ → Ask → State → State → Type 0
Took R n k a s s' = (e : Event) × (asked e ≡ lent n k a) × Step R s e s'

pub record Ran (R : ℕ → Bool) (wide : Bool) (n k : ℕ) (xs : List Ask) (s : State) : Type 0 where
  pub history : List Event
  pub asks : Asked n k xs history
  pub run : Run R wide history s
  pub lawful : Lawful R history
  pub kept : Kept R history s
