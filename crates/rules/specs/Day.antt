-- One day, call by call: what is asked, what the series is after each call, and what each call writes. Assumes nothing.
--     said_1 to said_11       the events of the day, in their order
--     day_1 to day_10         the series after each of them; the eleventh is refused
--     OneDay                 the day is a run
use Rattle.std.specs.Prelude.{ℕ, true, false, List, [], ◌∷◌, replicate}
use Rattle.market.specs.declared.board.Quote.{Quote}
use Rattle.market.specs.Quotes.{absent}
use Rattle.market.specs.Rungs.{cents}
use Rattle.values.specs.declared.terms.Letter.TheVariants as letter
use Rattle.values.specs.declared.terms.Side.TheVariants.{Buy, Sell}
use Rattle.values.specs.declared.terms.Kind.TheVariants.{Limit}
use Rattle.values.specs.declared.terms.Origin.TheVariants.{Customer, Other}
use Rattle.values.specs.declared.terms.Mark.TheVariants.{Route, DoNotRoute}
use Rattle.values.specs.declared.calls.OrderFields.{OrderFields}
use Rattle.values.specs.declared.calls.Call.TheVariants as call
use Rattle.values.specs.declared.faults.SeriesFault.TheVariants.{NotResting}
use Rattle.values.specs.declared.reports.Report.TheVariants.{New, Fill, Booked, Cancelled, FilledAway}
use Rattle.values.specs.declared.reports.Cause.TheVariants.{Asked, Unfilled}
use Rattle.values.specs.declared.reports.Slip.{Slip}
use Rattle.values.specs.Codes.{of_series}
use Rattle.checks.specs.declared.checked.CheckedOrder.{CheckedOrder}
use Rattle.rules.specs.declared.Terms.{Terms}
use Rattle.rules.specs.declared.Order.{Order}
use Rattle.rules.specs.declared.Sent.{Sent}
use Rattle.rules.specs.declared.Room.{Room}
use Rattle.rules.specs.Book.{free}
use Rattle.rules.specs.Slips.{no_sent}
use Rattle.rules.specs.States.{State}
use Rattle.rules.specs.Steps.{Event, Run}
use Rattle.rules.specs.Steps.Event.{did, refused}

-- every call has room for 128 reports and 15 slips
abbrev pub room : Room
room = record { reports = 128; slips = 15 }

abbrev pub both_sides : Quote
both_sides = record { bid = 108; bid_size = 20; offer = 112; offer_size = 5 }

abbrev pub offer_112 : Quote
offer_112 = record { bid = 0; bid_size = 0; offer = 112; offer_size = 10 }

abbrev pub bid_108 : Quote
bid_108 = record { bid = 108; bid_size = 20; offer = 0; offer_size = 0 }

abbrev pub offer_113 : Quote
offer_113 = record { bid = 0; bid_size = 0; offer = 113; offer_size = 10 }

abbrev pub sell_110 : OrderFields
sell_110 = record { id = 71; firm = 4; side = letter.S; origin = letter.N; kind = letter.L; mark = letter.D; limit = 110; size = 10; protection = 1 }

abbrev pub buy_112 : OrderFields
buy_112 = record { id = 72; firm = 4; side = letter.B; origin = letter.C; kind = letter.L; mark = letter.R; limit = 112; size = 30; protection = 2 }

abbrev pub sell_checked : CheckedOrder
sell_checked = record { id = 71; firm = 4; side = Sell; origin = Other; kind = Limit; mark = DoNotRoute; limit = 110; size = 10; protection = 1 }

abbrev pub buy_checked : CheckedOrder
buy_checked = record { id = 72; firm = 4; side = Buy; origin = Customer; kind = Limit; mark = Route; limit = 112; size = 30; protection = 2 }

-- one rung below the bid 108; two above the offer 110 that is displayed here
abbrev pub sell_terms : Terms
sell_terms = record { id = 71; firm = 4; side = Sell; kind = Limit; limit = 110; protection = 107; size = 10 }

abbrev pub buy_terms : Terms
buy_terms = record { id = 72; firm = 4; side = Buy; kind = Limit; limit = 112; protection = 112; size = 30 }

abbrev pub resting_sell : Order
resting_sell = record { arrival = 1; terms = sell_terms; booked = 110; displayed = 110; remaining = 10 }

abbrev pub resting_buy : ℕ → Order
resting_buy d = record { arrival = 2; terms = buy_terms; booked = 112; displayed = d; remaining = 5 }

abbrev pub to_first : Slip
to_first = record { number = 1; arrival = 2; exchange = 1; price = 112; size = 5 }

abbrev pub to_second : Slip
to_second = record { number = 2; arrival = 2; exchange = 2; price = 112; size = 10 }

abbrev pub sent_72 : Slip → Sent
sent_72 s = record { slip = s; id = 72 }

-- ---- the series after each call
abbrev pub quotes : Quote → Quote → List Quote
quotes p q = p ∷ q ∷ replicate 13 absent

abbrev pub day_1 : State
day_1 = record { opened = false; wide = false; quotes = quotes both_sides absent; orders = replicate 64 free; sent = replicate 64 no_sent; arrivals = 0; numbered = 0 }

abbrev pub day_2 : State
day_2 = record { opened = false; wide = false; quotes = quotes both_sides offer_112; orders = replicate 64 free; sent = replicate 64 no_sent; arrivals = 0; numbered = 0 }

abbrev pub day_3 : State
day_3 = record { opened = true; wide = false; quotes = quotes both_sides offer_112; orders = replicate 64 free; sent = replicate 64 no_sent; arrivals = 0; numbered = 0 }

abbrev pub day_4 : State
day_4 = record { opened = true; wide = false; quotes = quotes both_sides offer_112; orders = resting_sell ∷ replicate 63 free; sent = replicate 64 no_sent; arrivals = 1; numbered = 0 }

abbrev pub both_out : List Sent
both_out = sent_72 to_first ∷ sent_72 to_second ∷ replicate 62 no_sent

abbrev pub day_5 : State
day_5 = record { opened = true; wide = false; quotes = quotes both_sides offer_112; orders = free ∷ resting_buy 111 ∷ replicate 62 free; sent = both_out; arrivals = 2; numbered = 2 }

abbrev pub day_6 : State
day_6 = record { opened = true; wide = false; quotes = quotes bid_108 offer_112; orders = free ∷ resting_buy 111 ∷ replicate 62 free; sent = both_out; arrivals = 2; numbered = 2 }

abbrev pub day_7 : State
day_7 = record { opened = true; wide = false; quotes = quotes bid_108 offer_113; orders = free ∷ resting_buy 112 ∷ replicate 62 free; sent = both_out; arrivals = 2; numbered = 2 }

abbrev pub day_8 : State
day_8 = record { opened = true; wide = false; quotes = quotes bid_108 offer_113; orders = free ∷ resting_buy 112 ∷ replicate 62 free; sent = no_sent ∷ sent_72 to_second ∷ replicate 62 no_sent; arrivals = 2; numbered = 2 }

abbrev pub day_9 : State
day_9 = record { opened = true; wide = false; quotes = quotes bid_108 offer_113; orders = free ∷ resting_buy 112 ∷ replicate 62 free; sent = replicate 64 no_sent; arrivals = 2; numbered = 2 }

abbrev pub day_10 : State
day_10 = record { opened = true; wide = false; quotes = quotes bid_108 offer_113; orders = replicate 64 free; sent = replicate 64 no_sent; arrivals = 2; numbered = 2 }

-- ---- what each call wrote
abbrev pub said_1 : Event
said_1 = did (call.Away 1 both_sides) room [] []

abbrev pub said_2 : Event
said_2 = did (call.Away 2 offer_112) room [] []

abbrev pub said_3 : Event
said_3 = did call.Open room [] []

abbrev pub said_4 : Event
said_4 = did (call.Order sell_110) room (New 1 71 ∷ Booked 1 110 110 10 ∷ []) []

abbrev pub said_5 : Event
said_5 = did (call.Order buy_112) room (New 2 72 ∷ Fill 2 1 110 10 ∷ Booked 2 112 111 5 ∷ []) (to_first ∷ to_second ∷ [])

abbrev pub said_6 : Event
said_6 = did (call.Away 1 bid_108) room [] []

abbrev pub said_7 : Event
said_7 = did (call.Away 2 offer_113) room (Booked 2 112 112 5 ∷ []) []

abbrev pub said_8 : Event
said_8 = did (call.Reply 1 3) room (FilledAway 2 1 3 ∷ Cancelled 2 2 Unfilled ∷ []) []

abbrev pub said_9 : Event
said_9 = did (call.Reply 2 10) room (FilledAway 2 2 10 ∷ []) []

abbrev pub said_10 : Event
said_10 = did (call.Cancel 72) room (Cancelled 2 5 Asked ∷ []) []

abbrev pub said_11 : Event
said_11 = refused (call.Cancel 72) room (of_series NotResting)

-- the latest first
abbrev pub day : List Event
day = said_11 ∷ said_10 ∷ said_9 ∷ said_8 ∷ said_7 ∷ said_6 ∷ said_5 ∷ said_4 ∷ said_3 ∷ said_2 ∷ said_1 ∷ []

abbrev pub OneDay : Type 0
OneDay = Run cents false day day_10
