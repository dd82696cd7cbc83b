-- The law of every run: what each history keeps, and that the tables agree with the history. Assumes nothing.
--     Within t p          p is within the limit and the protection limit of t
--     Fair e look r       a fill of a buy with a sell, of one contract or more, at a price that the away best e and both orders allow
--     Fairly R h          every fill was fair when it was made
--     Consecutive k ss    the slips are numbered k, k + 1, ..
--     Counted h           arrival numbers count acceptances from 1, slip numbers slips
--     Answered h          each accepted reply settled a slip that was out, and accounts for the whole of it and for nothing else;
--                         no other call filled anything away
--     Stated R h          every booking states what rested of its order when it was booked
--     Roomy e             what was written is within 128 reports and 15 slips, and within the room of the call
--     Rests R h a         the a-th order rests: more of it was entered than was filled, cancelled or is out
--     Lawful R h          what every history keeps, in terms of calls, reports and slips alone
--     Kept R h s          the tables have what the history says, and nothing else
--     Law                 every run is lawful and kept
use Rattle.std.specs.Prelude.{◌≡◌, ℕ, suc, ◌+◌, ◌-◌, ◌<◌, ◌≤◌, Bool, ◌≢◌, List, [], ◌∷◌, length}
use Rattle.std.specs.List.{ContainsAt as Has, AllByRecursion}
use Rattle.values.specs.declared.terms.Side.TheVariants.{Buy, Sell}
use Rattle.values.specs.declared.calls.Call.{Call}
use Rattle.values.specs.declared.calls.Call.TheVariants as call
use Rattle.values.specs.declared.reports.Report.{Report}
use Rattle.values.specs.declared.reports.Report.TheVariants.{New, Fill, Booked, Cancelled, FilledAway}
use Rattle.values.specs.declared.reports.Slip.{Slip}
use Rattle.rules.specs.declared.Terms.{Terms}
use Rattle.rules.specs.declared.Bests.{Bests}
use Rattle.rules.specs.Sides.{flip, Ok, Unlocked, Behind, facing}
use Rattle.rules.specs.Ladders.{Rungs}
use Rattle.rules.specs.Book.{free, at, Live, side_of, prices_of}
use Rattle.rules.specs.Slips.{no_sent, sent_at, OutThere}
use Rattle.rules.specs.States.{State}
use Rattle.rules.specs.Steps.{Event, Run}
use Rattle.rules.specs.Steps.Event.{did, refused}
use Rattle.rules.specs.Sizes.{resting, filled, away, cancelled, news}
use Rattle.rules.specs.Histories.{reports, opened_in, told_in, best, accepted, numbered_in, out_in, gone, price_in, entry}

abbrev pub Within : Terms → ℕ → Type 0
Within t p = Ok t.side t.limit p × Ok t.side t.protection p

-- `look` has what each order was entered with, by arrival number
abbrev pub Fair : Bests → (ℕ → Terms) → Report → Type 0
Fair e look (New x i) = Unit {0}
Fair e look (Fill t m p q) = Ok Buy e.offer p × Ok Sell e.bid p × Within (look t) p × Within (look m) p × ((look t).side ≡ flip (look m).side) × (0 < q)
Fair e look (Booked x p d n) = Unit {0}
Fair e look (Cancelled x n c) = Unit {0}
Fair e look (FilledAway x k n) = Unit {0}

-- the away best is the last told, the call in hand included
abbrev pub Fairly : (ℕ → Bool) → List Event → Type 0
Fairly R [] = Unit {0}
Fairly R (e ∷ h) = AllByRecursion (Fair (best (e ∷ h)) (entry R (e ∷ h))) (reports e) × Fairly R h

abbrev pub Consecutive : ℕ → List Slip → Type 0
Consecutive k [] = Unit {0}
Consecutive k (s ∷ ss) = (s.number ≡ k) × Consecutive (suc k) ss

-- the arrival number and the id that a call announces, where a is the next number
abbrev pub announced : Call → ℕ → List (ℕ × ℕ)
announced call.Open a = []
announced (call.Away x q) a = []
announced (call.Order f) a = (a, f.id) ∷ []
announced (call.Cancel id) a = []
announced (call.Reply n f) a = []

abbrev pub Counted : List Event → Type 0
Counted [] = Unit {0}
Counted (did c m rs ss ∷ h) = (news rs ≡ announced c (suc (accepted h))) × Consecutive (suc (numbered_in h)) ss × Counted h
Counted (refused c m f ∷ h) = Counted h

-- what a reply reports filled away and cancelled makes up the slip, which was out until then; it is of no other order
pub record Settles (h : List Event) (n f : ℕ) (rs : List Report) : Type 0 where
  pub slip : Slip
  pub was_out : Has (out_in h) slip
  pub named : slip.number ≡ n
  pub part : away slip.arrival rs ≡ f
  pub whole : away slip.arrival rs + cancelled slip.arrival rs ≡ slip.size
  pub no_other : (a : ℕ) → a ≢ slip.arrival → (away a rs ≡ 0) × (cancelled a rs ≡ 0)

-- nothing is filled away without a reply
abbrev pub NoneAway : List Report → Type 0
NoneAway rs = (a : ℕ) → away a rs ≡ 0

abbrev pub Answered : List Event → Type 0
Answered [] = Unit {0}
Answered (did call.Open m rs ss ∷ h) = NoneAway rs × Answered h
Answered (did (call.Away x q) m rs ss ∷ h) = NoneAway rs × Answered h
Answered (did (call.Order f) m rs ss ∷ h) = NoneAway rs × Answered h
Answered (did (call.Cancel id) m rs ss ∷ h) = NoneAway rs × Answered h
Answered (did (call.Reply n f) m rs ss ∷ h) = Settles h n f rs × Answered h
Answered (refused c m f ∷ h) = Answered h

-- `left` has what rests of each order after the call; the reports after a booking took the rest of what it states
abbrev pub StatesRest : (ℕ → ℕ) → List Report → Type 0
StatesRest left [] = Unit {0}
StatesRest left (New x i ∷ rs) = StatesRest left rs
StatesRest left (Fill t m p q ∷ rs) = StatesRest left rs
StatesRest left (Booked x p d n ∷ rs) = (n ≡ left x + (filled x rs + cancelled x rs)) × StatesRest left rs
StatesRest left (Cancelled x n c ∷ rs) = StatesRest left rs
StatesRest left (FilledAway x k n ∷ rs) = StatesRest left rs

abbrev pub Stated : (ℕ → Bool) → List Event → Type 0
Stated R [] = Unit {0}
Stated R (e ∷ h) = StatesRest (λ a. (entry R (e ∷ h) a).size - gone a (e ∷ h)) (reports e) × Stated R h

-- a refusal writes nothing
abbrev pub Roomy : Event → Type 0
Roomy (did c m rs ss) = (length rs ≤ 128) × (length ss ≤ 15) × (length rs ≤ m.reports) × (length ss ≤ m.slips)
Roomy (refused c m f) = Unit {0}

abbrev pub Rests : (ℕ → Bool) → List Event → ℕ → Type 0
Rests R h a = gone a h < (entry R h a).size

pub record Lawful (R : ℕ → Bool) (h : List Event) : Type 0 where
  -- every fill was between a buy and a sell, of one contract or more, at a price that the away best then, and the limits and
  -- protection limits of both orders, allow
  pub fills : Fairly R h
  -- no displayed price locks or crosses the away best
  pub unlocked : (a : ℕ) → Rests R h a → Unlocked (entry R h a).side (facing (best h) (entry R h a).side) (price_in a h).displayed
  -- no price that the away best allows is within the limits of both a resting buy and a resting sell
  pub uncrossed : (x y p : ℕ) → Rests R h x → Rests R h y → (entry R h x).side ≡ Buy → (entry R h y).side ≡ Sell → Ok Buy (best h).offer p → Ok Sell (best h).bid p → Within (entry R h x) p → Within (entry R h y) p → ⊥
  -- what rests was booked, and no booked price passes its cap or the away best
  pub bounded : (a : ℕ) → Rests R h a → Within (entry R h a) (price_in a h).booked × Ok (entry R h a).side (facing (best h) (entry R h a).side) (price_in a h).booked × (0 < (price_in a h).booked)
  -- filled here, filled away, cancelled and out on slips never come to more than was entered
  pub within : (a : ℕ) → gone a h ≤ (entry R h a).size
  -- every booking states what then rested of its order
  pub stated : Stated R h
  -- no call writes more than 128 reports or 15 slips, nor more than its lists had room for
  pub room : AllByRecursion Roomy h
  pub counted : Counted h
  -- a slip is settled once, and whole; nothing else is filled away
  pub answered : Answered h

pub record Kept (R : ℕ → Bool) (h : List Event) (s : State) : Type 0 where
  -- entered = filled here + filled away + cancelled + out on slips + resting
  pub sizes : (a : ℕ) → (entry R h a).size ≡ gone a h + resting a s.orders
  -- an order is in the book exactly while it rests by the history
  pub there : (a : ℕ) → Rests R h a → (j : ℕ) × Live (at s.orders j) × ((at s.orders j).arrival ≡ a)
  pub rests : (j : ℕ) → Live (at s.orders j) → Rests R h (at s.orders j).arrival
  -- all that an order was entered with is of its own entry, and its prices are those of its last booking
  pub terms : (j : ℕ) → Live (at s.orders j) → entry R h (at s.orders j).arrival ≡ (at s.orders j).terms
  pub prices : (j : ℕ) → Live (at s.orders j) → price_in (at s.orders j).arrival h ≡ prices_of (at s.orders j)
  pub most : (j : ℕ) → Live (at s.orders j) → (at s.orders j).remaining ≤ (at s.orders j).terms.size
  pub behind : (j : ℕ) → Live (at s.orders j) → Behind (side_of (at s.orders j)) (at s.orders j).booked (at s.orders j).displayed
  pub once : (j k : ℕ) → Live (at s.orders j) → Live (at s.orders k) → (at s.orders j).arrival ≡ (at s.orders k).arrival → j ≡ k
  -- a place without an order holds nothing of an earlier one
  pub clean : (j : ℕ) → (at s.orders j).remaining ≡ 0 → at s.orders j ≡ free
  -- the slips out are those of the history, each once, with the id of its order
  pub sent : (j : ℕ) → OutThere (sent_at s.sent j) → Has (out_in h) (sent_at s.sent j).slip
  pub filed : AllByRecursion (λ x. (j : ℕ) × ((sent_at s.sent j).slip ≡ x)) (out_in h)
  pub ids : (j : ℕ) → OutThere (sent_at s.sent j) → (sent_at s.sent j).id ≡ (entry R h (sent_at s.sent j).slip.arrival).id
  pub apart : (j k : ℕ) → OutThere (sent_at s.sent j) → OutThere (sent_at s.sent k) → (sent_at s.sent j).slip.number ≡ (sent_at s.sent k).slip.number → j ≡ k
  pub vacant : (j : ℕ) → (sent_at s.sent j).slip.size ≡ 0 → sent_at s.sent j ≡ no_sent
  -- and the rest of the series is what the history says
  pub places : (length s.orders ≡ 64) × (length s.sent ≡ 64)
  pub opened : s.opened ≡ opened_in h
  pub quotes : s.quotes ≡ told_in h
  pub arrivals : s.arrivals ≡ accepted h
  pub numbered : s.numbered ≡ numbered_in h

-- for every ladder that keeps its law, whatever the width mark, the calls and their room
abbrev pub Law : Type 0
Law = (R : ℕ → Bool) → Rungs R → (wide : Bool) (h : List Event) (s : State) → Run R wide h s → Lawful R h × Kept R h s
