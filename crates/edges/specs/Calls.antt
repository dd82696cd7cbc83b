-- Calls and events in short, for examples, and what is said of them. Assumes nothing.
--     quoting b o             bid b and offer o, ten contracts each; 0 is none
--     buy, sell               a limit order that is not routed: id, limit, size, protection
--     market_buy, market_sell a market order that is not routed and not protected: id, size
--     told x b o rs           exchange x quotes, and the call writes rs
--     opened                  the opening
--     entered f rs            an order is carried out, and writes rs
--     market b o              exchange 1 quotes, and the series is opened
--     Comes R wide h          a new series can come by the events of h, the latest first
--     Passes wide h f         after h, an order with these fields is carried out
--     Refused wide h f c      after h, it is refused with the number, layer and place of c
--     Shows h m               h comes to a series where the best displayed here are m
--     Denied h e              h comes to a series from which the rulebook has no step by the event e
use Rattle.std.specs.Prelude.{◌≡◌, ℕ, Bool, false, cond, List, [], ◌∷◌, ◌==◌}
use Rattle.market.specs.declared.board.Quote.{Quote}
use Rattle.market.specs.Rungs.{cents}
use Rattle.values.specs.declared.terms.Letter.{Letter}
use Rattle.values.specs.declared.terms.Letter.TheVariants as letter
use Rattle.values.specs.declared.calls.OrderFields.{OrderFields}
use Rattle.values.specs.declared.calls.Call.TheVariants as call
use Rattle.values.specs.declared.faults.Fault.{Fault}
use Rattle.values.specs.declared.faults.Code.{Code}
use Rattle.values.specs.declared.reports.Report.{Report}
use Rattle.values.specs.declared.reports.Slip.{Slip}
use Rattle.values.specs.Codes.{code}
use Rattle.rules.specs.declared.Bests.{Bests}
use Rattle.rules.specs.Book.{here}
use Rattle.rules.specs.States.{State}
use Rattle.rules.specs.Steps.{Event, Step, Run}
use Rattle.rules.specs.Steps.Event.{did, refused}
use Rattle.rules.specs.Day.{room}

-- ---- calls
abbrev pub sized : ℕ → ℕ
sized p = cond (p == 0) 0 10

abbrev pub quoting : ℕ → ℕ → Quote
quoting b o = record { bid = b; bid_size = sized b; offer = o; offer_size = sized o }

abbrev pub limit_order : Letter → ℕ → ℕ → ℕ → ℕ → OrderFields
limit_order side id limit size n = record { id = id; firm = 4; side = side; origin = letter.N; kind = letter.L; mark = letter.D; limit = limit; size = size; protection = n }

abbrev pub buy : ℕ → ℕ → ℕ → ℕ → OrderFields
buy id limit size n = limit_order letter.B id limit size n

abbrev pub sell : ℕ → ℕ → ℕ → ℕ → OrderFields
sell id limit size n = limit_order letter.S id limit size n

abbrev pub market_order : Letter → ℕ → ℕ → OrderFields
market_order side id size = record { id = id; firm = 4; side = side; origin = letter.N; kind = letter.M; mark = letter.D; limit = 0; size = size; protection = 0 }

abbrev pub market_buy : ℕ → ℕ → OrderFields
market_buy id size = market_order letter.B id size

abbrev pub market_sell : ℕ → ℕ → OrderFields
market_sell id size = market_order letter.S id size

-- ---- events; every call has room for 128 reports and 15 slips
abbrev pub told : ℕ → ℕ → ℕ → List Report → Event
told x b o rs = did (call.Away x (quoting b o)) room rs []

abbrev pub opened : Event
opened = did call.Open room [] []

abbrev pub entered : OrderFields → List Report → Event
entered f rs = did (call.Order f) room rs []

abbrev pub market : ℕ → ℕ → List Event
market b o = opened ∷ told 1 b o [] ∷ []

-- ---- what is said of them
abbrev pub Comes : (ℕ → Bool) → Bool → List Event → Type 0
Comes R wide h = (s : State) × Run R wide h s

abbrev pub Passes : Bool → List Event → OrderFields → Type 0
Passes wide h f = (rs : List Report) × (ss : List Slip) × Comes cents wide (did (call.Order f) room rs ss ∷ h)

abbrev pub Refused : Bool → List Event → OrderFields → Code → Type 0
Refused wide h f c = (x : Fault) × (code x ≡ c) × Comes cents wide (refused (call.Order f) room x ∷ h)

abbrev pub Shows : List Event → Bests → Type 0
Shows h m = (s : State) × Run cents false h s × (here s.orders ≡ m)

abbrev pub Denied : List Event → Event → Type 0
Denied h e = (s : State) × Run cents false h s × ((s' : State) → Step cents s e s' → ⊥)
