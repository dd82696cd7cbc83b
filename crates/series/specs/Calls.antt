-- What came of a call. Assumes nothing.
--     stands quotes s             the state of the series s, where `quotes` tells what its board means
--     free_places l               how many more records the list l can take
--     room l k                    the room of a call with the report list l and k places for slips
--     Came R c m s s' rs rs' ss ss' r     the call c, with the room m, answered r and took the series from s to s', the report
--                                 list from rs to rs' and the slip list from ss to ss': by a step of the rules, with the reports
--                                 and slips of that step; or it was refused by the rules' fault, and all is as it was
--     Lent r l l'                 the list l became l' in the same memory; where r is a refusal it is as it was
--     Untold c b b'               the board, by all that it holds, is as it was, but for an away quote
--     Adds R s e s'               whatever history led to s, with the event e added it leads to s', is lawful, and is kept by s'
--     Follows R c m s s' rs rs' ss ss' r  the same of the event that came of a call
use Rattle.std.specs.Prelude.{◌≡◌, ℕ, ◌-◌, ◌≤◌, Bool, List, ◌∷◌, ◌++◌, Ok, Err, Result}
use Rattle.market.specs.declared.board.Quote.{Quote}
use Rattle.values.specs.declared.calls.Call.{Call}
use Rattle.values.specs.declared.calls.Call.TheVariants as call
use Rattle.values.specs.declared.faults.Fault.{Fault}
use Rattle.values.specs.declared.reports.Report.{Report}
use Rattle.values.specs.declared.reports.Slip.{Slip}
use Rattle.records.specs.declared.list.AppendList.{AppendList}
use Rattle.records.specs.Contents.{used, capacity}
use Rattle.rules.specs.declared.Room.{Room}
use Rattle.rules.specs.States.{State}
use Rattle.rules.specs.Steps.{Event, Step, Run}
use Rattle.rules.specs.Steps.Event.{did, refused}
use Rattle.rules.specs.Law.{Lawful, Kept}
use Rattle.series.specs.declared.series.Series.{Series}
use Rattle.series.specs.States.{state}

module _ {L B : Type 0} where
  abbrev pub stands : (B → List Quote) → Series L B → State
  stands quotes s = state (quotes s.board) s.ledger

module _ {T : Type 0} where
  abbrev pub free_places : AppendList T → ℕ
  free_places l = capacity l - used l

abbrev pub room : AppendList Report → ℕ → Room
room l k = record { reports = free_places l; slips = k }

abbrev pub Came : {U : Type 0} → (ℕ → Bool) → Call → Room → State → State → List Report → List Report → List Slip → List Slip → Result U Fault → Type 0
Came R c m s s' rs rs' ss ss' (Ok u) = (new : List Report) × (sent : List Slip) × (rs' ≡ rs ++ new) × (ss' ≡ ss ++ sent) × Step R s (did c m new sent) s'
Came R c m s s' rs rs' ss ss' (Err f) = (rs' ≡ rs) × (ss' ≡ ss) × Step R s (refused c m f) s'

-- a list keeps its memory, and where the call is refused it is as it was
module _ {T U : Type 0} where
  abbrev pub Lent : Result U Fault → AppendList T → AppendList T → Type 0
  Lent (Ok u) l l' = (l'.slots.ghost_name ≡ l.slots.ghost_name) × (capacity l' ≡ capacity l) × (used l ≤ used l')
  Lent (Err f) l l' = l' ≡ l

abbrev pub Adds : (ℕ → Bool) → State → Event → State → Type 0
Adds R s e s' = (wide : Bool) (h : List Event) → Run R wide h s → Run R wide (e ∷ h) s' × Lawful R (e ∷ h) × Kept R (e ∷ h) s'

abbrev pub Follows : {U : Type 0} → (ℕ → Bool) → Call → Room → State → State → List Report → List Report → List Slip → List Slip → Result U Fault → Type 0
Follows R c m s s' rs rs' ss ss' (Ok u) = (new : List Report) × (sent : List Slip) × (rs' ≡ rs ++ new) × (ss' ≡ ss ++ sent) × Adds R s (did c m new sent) s'
Follows R c m s s' rs rs' ss ss' (Err f) = Adds R s (refused c m f) s'

-- only an away quote reaches the board
module _ {B : Type 0} where
  abbrev pub Untold : Call → B → B → Type 0
  Untold call.Open b b' = b' ≡ b
  Untold (call.Away x q) b b' = Unit {0}
  Untold (call.Order f) b b' = b' ≡ b
  Untold (call.Cancel id) b b' = b' ≡ b
  Untold (call.Reply n f) b b' = b' ≡ b
