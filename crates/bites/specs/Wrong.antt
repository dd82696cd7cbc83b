-- Wrong histories, each one change away from a run. The latest event stands first. Assumes nothing.
--     Caught right wrong      a new series can come by `right`, and `wrong` is not lawful
-- Each history below has the thing that is changed for an argument, so that the two differ in nothing else.
use Rattle.std.specs.Prelude.{◌≡◌, ℕ, false, List, [], ◌∷◌, map}
use Rattle.market.specs.Rungs.{cents}
use Rattle.values.specs.declared.terms.Letter.TheVariants as letter
use Rattle.values.specs.declared.calls.OrderFields.{OrderFields}
use Rattle.values.specs.declared.calls.Call.TheVariants as call
use Rattle.values.specs.declared.faults.SeriesFault.TheVariants.{NoRoomForReports, SlipNotOut}
use Rattle.values.specs.declared.reports.Report.{Report}
use Rattle.values.specs.declared.reports.Report.TheVariants.{New, Fill, Booked, Cancelled, FilledAway}
use Rattle.values.specs.declared.reports.Cause.TheVariants.{Protection, Unfilled}
use Rattle.values.specs.declared.reports.Slip.{Slip}
use Rattle.values.specs.Codes.{of_series}
use Rattle.rules.specs.declared.Room.{Room}
use Rattle.rules.specs.Quoting.{clamp, turns}
use Rattle.rules.specs.States.{State}
use Rattle.rules.specs.Steps.{Event, Run}
use Rattle.rules.specs.Steps.Event.{did, refused}
use Rattle.rules.specs.Law.{Lawful}
use Rattle.rules.specs.Day.{room}
use Rattle.edges.specs.Calls.{buy, sell, told, entered, market, Comes}

abbrev pub Caught : List Event → List Event → Type 0
Caught right wrong = Comes cents false right × (Lawful cents wrong → ⊥)

-- ---- away 108 and 112; a sell at 110 rests, and a buy at 115 takes it
abbrev pub sell_rests : List Event
sell_rests = entered (sell 71 110 10 0) (New 1 71 ∷ Booked 1 110 110 10 ∷ []) ∷ market 108 112

-- n contracts at the price p
abbrev pub hit_at : ℕ → ℕ → List Event
hit_at p n = entered (buy 72 115 10 0) (New 2 72 ∷ Fill 2 1 p n ∷ []) ∷ sell_rests

-- both limits allow 113, and the away offer is 112
abbrev pub ThroughTheOffer : Type 0
ThroughTheOffer = Caught (hit_at 110 10) (hit_at 113 10)

-- eleven of ten
abbrev pub InventedSize : Type 0
InventedSize = Caught (hit_at 110 10) (hit_at 110 11)

-- the buy is told filled away, with no slip out; the sell still rests
abbrev pub AwayUnasked : Type 0
AwayUnasked = Caught (hit_at 110 10) (entered (buy 72 115 10 0) (New 2 72 ∷ FilledAway 2 1 10 ∷ []) ∷ sell_rests)

-- the ten contracts, and then rs
abbrev pub hit_and : List Report → List Event
hit_and rs = entered (buy 72 115 10 0) (New 2 72 ∷ Fill 2 1 110 10 ∷ rs) ∷ sell_rests

-- a second fill, of nothing
abbrev pub OfNothing : Type 0
OfNothing = Caught (hit_and []) (hit_and (Fill 2 1 110 0 ∷ []))

-- ---- away 108 and 112: a buy at 110 rests, and a second buy at 115 comes and writes rs
abbrev pub two_buys : List Report → List Event
two_buys rs =
    entered (buy 72 115 10 0) (New 2 72 ∷ rs)
    ∷ entered (buy 71 110 10 0) (New 1 71 ∷ Booked 1 110 110 10 ∷ [])
    ∷ market 108 112

-- it takes the first buy, at a price that is within everything that bounds the two
abbrev pub TwoBuysTrade : Type 0
TwoBuysTrade = Caught (two_buys (Booked 2 112 111 10 ∷ [])) (two_buys (Fill 2 1 110 10 ∷ []))

-- ---- away 108 and 112; a buy at 110 rests, and a sell at 100 takes it
abbrev pub sold_at : ℕ → List Event
sold_at p =
    entered (sell 72 100 10 0) (New 2 72 ∷ Fill 2 1 p 10 ∷ [])
    ∷ entered (buy 71 110 10 0) (New 1 71 ∷ Booked 1 110 110 10 ∷ [])
    ∷ market 108 112

-- both limits allow 107, and the away bid is 108
abbrev pub UnderTheBid : Type 0
UnderTheBid = Caught (sold_at 110) (sold_at 107)

-- ---- away bid 106 over away offer 104: a buy at 110 rests, then a sell at 100 that is protected one rung below the bid 106;
-- the quote 100 and 110 brings them together
abbrev pub protected_rests : List Event
protected_rests =
    entered (sell 72 100 5 1) (New 2 72 ∷ Booked 2 106 107 5 ∷ [])
    ∷ entered (buy 71 110 5 0) (New 1 71 ∷ Booked 1 104 103 5 ∷ [])
    ∷ market 106 104

abbrev pub uncrossed_at : ℕ → List Event
uncrossed_at p = told 1 100 110 (Fill 1 2 p 5 ∷ []) ∷ protected_rests

-- 104 is within both limits and the new quote, but the sell's protection limit is 105 from its own entry
abbrev pub PastTheMakersProtection : Type 0
PastTheMakersProtection = Caught (uncrossed_at 106) (uncrossed_at 104)

-- ---- away 108 and 112; a buy at 112 rests at the away offer, and writes rs
abbrev pub rests_with : List Report → List Event
rests_with rs = entered (buy 71 112 10 0) (New 1 71 ∷ rs) ∷ market 108 112

abbrev pub displayed_at : ℕ → List Event
displayed_at d = rests_with (Booked 1 112 d 10 ∷ [])

-- displayed at the away offer itself
abbrev pub Locks : Type 0
Locks = Caught (displayed_at 111) (displayed_at 112)

-- it rests, and nobody is told where
abbrev pub RestsUnbooked : Type 0
RestsUnbooked = Caught (displayed_at 111) (rests_with [])

-- nine of its ten are told to rest
abbrev pub RestMisstated : Type 0
RestMisstated = Caught (displayed_at 111) (rests_with (Booked 1 112 111 9 ∷ []))

-- ---- away 108 and 112: the same buy comes to e, where the list of reports has room for one record
abbrev pub one_report : Room
one_report = record { reports = 1; slips = 15 }

abbrev pub with_little_room : Event → List Event
with_little_room e = e ∷ market 108 112

-- it is carried out, and writes two
abbrev pub WrittenPastTheRoom : Type 0
WrittenPastTheRoom =
    Caught (with_little_room (refused (call.Order (buy 71 112 10 0)) one_report (of_series NoRoomForReports)))
    (with_little_room (did (call.Order (buy 71 112 10 0)) one_report (New 1 71 ∷ Booked 1 112 111 10 ∷ []) []))

-- ---- away bid 106 over away offer 104: a buy at 90 is the oldest; a buy at 110 and a sell at 100 rest past one another
abbrev pub three_rest : List Event
three_rest =
    entered (sell 73 100 5 0) (New 3 73 ∷ Booked 3 106 107 5 ∷ [])
    ∷ entered (buy 72 110 5 0) (New 2 72 ∷ Booked 2 104 103 5 ∷ [])
    ∷ entered (buy 71 90 5 0) (New 1 71 ∷ Booked 1 90 90 5 ∷ [])
    ∷ market 106 104

-- the quote 100 and 110 writes rs
abbrev pub uncrossed_writes : List Report → List Event
uncrossed_writes rs = told 1 100 110 rs ∷ three_rest

-- step three, of one turn only, writes nothing: the oldest order has nothing to trade with
abbrev pub OneTurnWritesNothing : Type 0
OneTurnWritesNothing =
    (s : State) × Run cents false three_rest s
    × ((turns 1 (record { bid = 100; offer = 110 }) cents 0 s.orders (map (clamp (record { bid = 100; offer = 110 }) cents) s.orders)).out ≡ [])

-- the pair is left as it is, and 106 would do for both
abbrev pub OnlyTheOldest : Type 0
OnlyTheOldest = Caught (uncrossed_writes (Fill 2 3 106 5 ∷ [])) (uncrossed_writes []) × OneTurnWritesNothing

-- ---- away 108 and 112: a public customer's buy of 30 at 112 goes out for ten on a slip, and rests for twenty
abbrev pub routed_buy : OrderFields
routed_buy = record { id = 71; firm = 4; side = letter.B; origin = letter.C; kind = letter.L; mark = letter.R; limit = 112; size = 30; protection = 0 }

abbrev pub slip_1 : Slip
slip_1 = record { number = 1; arrival = 1; exchange = 1; price = 112; size = 10 }

abbrev pub slip_out : List Event
slip_out = did (call.Order routed_buy) room (New 1 71 ∷ Booked 1 112 111 20 ∷ []) (slip_1 ∷ []) ∷ market 108 112

-- three of the ten were filled there; the reply writes rs
abbrev pub replied : List Report → Event
replied rs = did (call.Reply 1 3) room rs []

abbrev pub three_of_ten : List Report
three_of_ten = FilledAway 1 1 3 ∷ Cancelled 1 7 Unfilled ∷ []

-- a second reply to the slip comes to e
abbrev pub replied_twice : Event → List Event
replied_twice e = e ∷ replied three_of_ten ∷ slip_out

-- it is taken as the first was; with the ten that still rest, the sizes would not tell
abbrev pub SettledTwice : Type 0
SettledTwice = Caught (replied_twice (refused (call.Reply 1 3) room (of_series SlipNotOut))) (replied_twice (replied three_of_ten))

-- seven of the ten are not accounted for
abbrev pub SettledInPart : Type 0
SettledInPart = Caught (replied three_of_ten ∷ slip_out) (replied (FilledAway 1 1 3 ∷ []) ∷ slip_out)

-- ---- the slip is out, and a sell at 115 rests besides; the reply writes what it should, and then rs
abbrev pub replied_beside : List Report → List Event
replied_beside rs =
    replied (FilledAway 1 1 3 ∷ Cancelled 1 7 Unfilled ∷ rs)
    ∷ entered (sell 72 115 10 0) (New 2 72 ∷ Booked 2 115 115 10 ∷ [])
    ∷ slip_out

-- four contracts of the sell, which is on no slip
abbrev pub CancelsAnother : Type 0
CancelsAnother = Caught (replied_beside []) (replied_beside (Cancelled 2 4 Unfilled ∷ []))

-- ---- the sell at 110 rests; then exchange 2 offers at 109, and a buy at 115 comes and writes rs
abbrev pub offered_109 : List Report → List Event
offered_109 rs = entered (buy 72 115 10 0) rs ∷ told 2 0 109 [] ∷ sell_rests

-- what it writes where nobody offers at 109
abbrev pub without_109 : List Report
without_109 = New 2 72 ∷ Fill 2 1 110 10 ∷ []

-- the quote is told, and the buy trades as if it had not been: the same without the quote is a run
abbrev pub QuoteForgotten : Type 0
QuoteForgotten = Caught (offered_109 (New 2 72 ∷ Booked 2 109 108 10 ∷ [])) (offered_109 without_109) × Comes cents false (entered (buy 72 115 10 0) without_109 ∷ sell_rests)

-- ---- away 108 and 110: a buy at 120, protected one rung above 110, rests at the away offer, which then moves to 112
abbrev pub moved_away : Report → List Event
moved_away r = told 1 108 112 (r ∷ []) ∷ entered (buy 71 120 10 1) (New 1 71 ∷ Booked 1 110 109 10 ∷ []) ∷ market 108 110

-- booked anew, as if its protection limit were counted from the offer of now
abbrev pub BookedPastItsProtection : Type 0
BookedPastItsProtection = Caught (moved_away (Cancelled 1 10 Protection)) (moved_away (Booked 1 112 111 10))

-- ---- the sell at 110 rests, and a second sell is announced as the a-th order
abbrev pub announced_as : ℕ → List Event
announced_as a = entered (sell 72 115 10 0) (New a 72 ∷ Booked 2 115 115 10 ∷ []) ∷ sell_rests

abbrev pub NumberSkipped : Type 0
NumberSkipped = Caught (announced_as 2) (announced_as 3)
