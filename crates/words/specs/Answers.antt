-- Reports and slips in words, a sentence each, with a blank before it. Assumes nothing.
--     cause_words c           why contracts were cancelled
--     standing_of b d         how an order stands that is booked at b and displayed at d
--     standing_words s        where it rests, and why at two prices
--     report_words r          the sentence of a report
--     slip_words s            the sentence of a slip
use Rattle.std.specs.Prelude.{ℕ, cond, List, [], ◌∷◌, codes, decimal, ◌==◌, nat_lt}
use Rattle.values.specs.declared.reports.Cause.{Cause}
use Rattle.values.specs.declared.reports.Cause.TheVariants.{Asked, Protection, NoPrice, Unfilled}
use Rattle.values.specs.declared.reports.Report.{Report}
use Rattle.values.specs.declared.reports.Report.TheVariants.{New, Fill, Booked, Cancelled, FilledAway}
use Rattle.values.specs.declared.reports.Slip.{Slip}
use Rattle.words.specs.declared.answers.Standing.{Standing}
use Rattle.words.specs.declared.answers.Standing.TheVariants.{AtOne, UnderOffer, OverBid, Unseen}
use Rattle.words.specs.Money.{say, dollars}

unfoldable pub cause_words : Cause → List ℕ
cause_words Asked = codes "the desk asked for it"
cause_words Protection = codes "no price to rest at within its protection limit"
cause_words NoPrice = codes "a market order without a protection limit, and no price to rest at"
cause_words Unfilled = codes "left unfilled by the away exchange"

-- a buy is displayed below where it is booked, a sell above; displayed 0 is not displayed
abbrev pub standing_of : ℕ → ℕ → Standing
standing_of b d = cond (d == b) (AtOne b) (cond (d == 0) (Unseen b) (cond (nat_lt d b) (UnderOffer b d) (OverBid b d)))

-- the displayed price is what other markets see, the booked price where the order would trade
abbrev pub two_prices : ℕ → ℕ → List ℕ → List ℕ → List ℕ
two_prices b d why rest = say (codes "booked at " ∷ dollars b ∷ codes ", displayed at " ∷ dollars d ∷ why ∷ dollars b ∷ rest ∷ dollars d ∷ codes "; the order would trade at " ∷ dollars b ∷ codes "." ∷ [])

unfoldable pub standing_words : Standing → List ℕ
standing_words (AtOne p) = say (codes "booked and displayed at " ∷ dollars p ∷ codes "." ∷ [])
standing_words (UnderOffer b d) =
    two_prices b d (codes ". Two prices, both right: an away offer stands at ") (codes ", and a bid displayed there would lock it, so other markets see ")
standing_words (OverBid b d) =
    two_prices b d (codes ". Two prices, both right: an away bid stands at ") (codes ", and an offer displayed there would lock it, so other markets see ")
standing_words (Unseen b) = say (codes "booked at " ∷ dollars b ∷ codes ", not displayed. The away market stands at " ∷ dollars b ∷ codes ", and no price behind it is left to display." ∷ [])

unfoldable pub report_words : Report → List ℕ
report_words (New arrival id) = say (codes " Order " ∷ decimal id ∷ codes " is accepted as No. " ∷ decimal arrival ∷ codes "." ∷ [])
report_words (Fill taker maker price size) = say (codes " No. " ∷ decimal taker ∷ codes " trades " ∷ decimal size ∷ codes " here with No. " ∷ decimal maker ∷ codes " at " ∷ dollars price ∷ codes "." ∷ [])
report_words (Booked arrival booked displayed remaining) = say (codes " No. " ∷ decimal arrival ∷ codes " rests: " ∷ decimal remaining ∷ codes " " ∷ standing_words (standing_of booked displayed) ∷ [])
report_words (Cancelled arrival size cause) = say (codes " " ∷ decimal size ∷ codes " of No. " ∷ decimal arrival ∷ codes " cancelled: " ∷ cause_words cause ∷ codes "." ∷ [])
report_words (FilledAway arrival slip size) = say (codes " " ∷ decimal size ∷ codes " of No. " ∷ decimal arrival ∷ codes " filled away by slip " ∷ decimal slip ∷ codes "." ∷ [])

unfoldable pub slip_words : Slip → List ℕ
slip_words s =
    say (codes " " ∷ decimal s.size ∷ codes " of No. " ∷ decimal s.arrival ∷ codes " sent to exchange " ∷ decimal s.exchange ∷ codes " at " ∷ dollars s.price ∷ codes ", slip " ∷ decimal s.number ∷ codes "." ∷ [])
