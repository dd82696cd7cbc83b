-- What a history tells by itself, the latest event first. Assumes nothing.
--     reports e, slips e          what an event wrote; a refusal writes nothing
--     opened_in h                 whether the opening was accepted
--     told_in h, best h           the quotes last told by accepted calls; the away best
--     accepted h, numbered_in h   how many orders were accepted, and slips written
--     out_in h                    the slips out: those that no accepted reply settled
--     filled_in, away_in, cancelled_in, slipped_in     of the a-th order: filled here, filled away, cancelled, out on slips
--     gone a h                    the four together
--     price_in a h                its prices, by its last booking
--     shown_in look s h a         its displayed price, where it rests on side s; `look` has what each was entered with
--     touch_in look s h, here_in look h     the best displayed price of a side here; the bid and the offer
--     entry R h a                 what it was entered with, by the history before it
use Rattle.std.specs.Prelude.{ℕ, suc, ◌+◌, Bool, true, false, cond, not, ◌&&◌, List, [], ◌∷◌, ◌++◌, length, replicate, filter, ◌==◌, nat_lt}
use Rattle.market.specs.declared.board.Quote.{Quote}
use Rattle.market.specs.Quotes.{told, absent}
use Rattle.values.specs.declared.terms.Side.{Side}
use Rattle.values.specs.declared.terms.Side.TheVariants.{Buy, Sell}
use Rattle.values.specs.declared.calls.Call.TheVariants as call
use Rattle.values.specs.declared.reports.Report.{Report}
use Rattle.values.specs.declared.reports.Slip.{Slip}
use Rattle.rules.specs.declared.Terms.{Terms}
use Rattle.rules.specs.declared.Prices.{Prices}
use Rattle.rules.specs.declared.Bests.{Bests}
use Rattle.rules.specs.Sides.{same_side, tops}
use Rattle.rules.specs.Book.{no_terms}
use Rattle.rules.specs.Monitor.{admit}
use Rattle.rules.specs.Routing.{bests}
use Rattle.rules.specs.Steps.{Event, order_in}
use Rattle.rules.specs.Steps.Event.{did, refused}
use Rattle.rules.specs.Sizes.{filled, away, cancelled, slipped, latest}

abbrev pub reports : Event → List Report
reports (did c m rs ss) = rs
reports (refused c m f) = []

abbrev pub slips : Event → List Slip
slips (did c m rs ss) = ss
slips (refused c m f) = []

abbrev pub opened_in : List Event → Bool
opened_in [] = false
opened_in (did call.Open m rs ss ∷ h) = true
opened_in (did (call.Away x q) m rs ss ∷ h) = opened_in h
opened_in (did (call.Order f) m rs ss ∷ h) = opened_in h
opened_in (did (call.Cancel id) m rs ss ∷ h) = opened_in h
opened_in (did (call.Reply n f) m rs ss ∷ h) = opened_in h
opened_in (refused c m f ∷ h) = opened_in h

abbrev pub told_in : List Event → List Quote
told_in [] = replicate 15 absent
told_in (did call.Open m rs ss ∷ h) = told_in h
told_in (did (call.Away x q) m rs ss ∷ h) = told (told_in h) x q
told_in (did (call.Order f) m rs ss ∷ h) = told_in h
told_in (did (call.Cancel id) m rs ss ∷ h) = told_in h
told_in (did (call.Reply n f) m rs ss ∷ h) = told_in h
told_in (refused c m f ∷ h) = told_in h

abbrev pub best : List Event → Bests
best h = bests (told_in h)

abbrev pub accepted : List Event → ℕ
accepted [] = 0
accepted (did call.Open m rs ss ∷ h) = accepted h
accepted (did (call.Away x q) m rs ss ∷ h) = accepted h
accepted (did (call.Order f) m rs ss ∷ h) = suc (accepted h)
accepted (did (call.Cancel id) m rs ss ∷ h) = accepted h
accepted (did (call.Reply n f) m rs ss ∷ h) = accepted h
accepted (refused c m f ∷ h) = accepted h

abbrev pub numbered_in : List Event → ℕ
numbered_in [] = 0
numbered_in (e ∷ h) = numbered_in h + length (slips e)

-- an accepted reply settles the slip that it names
abbrev pub unanswered : ℕ → Slip → Bool
unanswered n s = not (s.number == n)

abbrev pub out_in : List Event → List Slip
out_in [] = []
out_in (did call.Open m rs ss ∷ h) = ss ++ out_in h
out_in (did (call.Away x q) m rs ss ∷ h) = ss ++ out_in h
out_in (did (call.Order f) m rs ss ∷ h) = ss ++ out_in h
out_in (did (call.Cancel id) m rs ss ∷ h) = ss ++ out_in h
out_in (did (call.Reply n f) m rs ss ∷ h) = ss ++ filter (unanswered n) (out_in h)
out_in (refused c m f ∷ h) = out_in h

abbrev pub filled_in : ℕ → List Event → ℕ
filled_in a [] = 0
filled_in a (e ∷ h) = filled a (reports e) + filled_in a h

abbrev pub away_in : ℕ → List Event → ℕ
away_in a [] = 0
away_in a (e ∷ h) = away a (reports e) + away_in a h

abbrev pub cancelled_in : ℕ → List Event → ℕ
cancelled_in a [] = 0
cancelled_in a (e ∷ h) = cancelled a (reports e) + cancelled_in a h

abbrev pub slipped_in : ℕ → List Event → ℕ
slipped_in a h = slipped a (out_in h)

abbrev pub gone : ℕ → List Event → ℕ
gone a h = filled_in a h + away_in a h + cancelled_in a h + slipped_in a h

abbrev pub price_in : ℕ → List Event → Prices
price_in a [] = record { booked = 0; displayed = 0 }
price_in a (e ∷ h) = latest a (price_in a h) (reports e)

-- it rests while more of it was entered than is gone
abbrev pub shown_in : (ℕ → Terms) → Side → List Event → ℕ → ℕ
shown_in look s h a = cond (nat_lt (gone a h) (look a).size && same_side s (look a).side) (price_in a h).displayed 0

abbrev pub touch_in : (ℕ → Terms) → Side → List Event → ℕ
touch_in look s h = tops s (shown_in look s h) (suc (accepted h))

abbrev pub here_in : (ℕ → Terms) → List Event → Bests
here_in look h = record { bid = touch_in look Buy h; offer = touch_in look Sell h }

-- its limit is the one entered, or the lowest rung where the monitor says so; its protection limit counts from the national best then
abbrev pub entry : (ℕ → Bool) → List Event → ℕ → Terms
entry R [] a = no_terms
entry R (did call.Open m rs ss ∷ h) a = entry R h a
entry R (did (call.Away x q) m rs ss ∷ h) a = entry R h a
entry R (did (call.Order f) m rs ss ∷ h) a = cond (suc (accepted h) == a) (admit R (best h) (here_in (entry R h) h) (order_in R f)) (entry R h a)
entry R (did (call.Cancel id) m rs ss ∷ h) a = entry R h a
entry R (did (call.Reply n f) m rs ss ∷ h) a = entry R h a
entry R (refused c m f ∷ h) a = entry R h a
