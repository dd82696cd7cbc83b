-- The law of the field checks: the leftmost field of the topmost row that does not fit is the one reported. Assumes nothing.
--     Judgment               a row of the fault table, a field, and what it is for that field to fit that row
--     Every P js             P holds of each judgment
--     One P js               P holds of a judgment
--     before k j             k is of a higher row of the table than j, or of the same row and further left
--     Reports f j            the fault f is reported with the row and the field of j
--     LeftmostTopmost js f  f is reported for a judgment that does not fit, and all that are before it fit
--     Judged js Carries r    r is a value, all fit, and the value is the right one; or a fault, as above
--     header_rows, call_rows the judgments of a header and of a call
--     header_of, asked       the header that gives these settings, and the call that was asked for
use Rattle.std.specs.Prelude.{◌≡◌, ℕ, ◌<◌, ◌≤◌, Bool, true, cond, ◌&&◌, ◌||◌, ◌⊎◌, List, [], ◌∷◌, Ok, Err, Result, ◌==◌, nat_lt}
use Rattle.market.specs.declared.any.AnyLadder.{AnyLadder}
use Rattle.market.specs.declared.any.AnyLadder.TheVariants.{Cents, CentsThenFives, FivesThenTens}
use Rattle.market.specs.declared.board.Quote.{Quote}
use Rattle.values.specs.declared.terms.Letter.{Letter}
use Rattle.values.specs.declared.terms.Letter.TheVariants as letter
use Rattle.values.specs.declared.terms.Side.{Side}
use Rattle.values.specs.declared.terms.Side.TheVariants.{Buy, Sell}
use Rattle.values.specs.declared.terms.Origin.{Origin}
use Rattle.values.specs.declared.terms.Origin.TheVariants.{Customer, Other}
use Rattle.values.specs.declared.terms.Kind.{Kind}
use Rattle.values.specs.declared.terms.Kind.TheVariants.{Limit, Market, Immediate, AllOrNone}
use Rattle.values.specs.declared.terms.Mark.{Mark}
use Rattle.values.specs.declared.terms.Mark.TheVariants.{Route, DoNotRoute}
use Rattle.values.specs.declared.calls.Header.{Header}
use Rattle.values.specs.declared.calls.OrderFields.{OrderFields}
use Rattle.values.specs.declared.calls.Call.{Call}
use Rattle.values.specs.declared.calls.Call.TheVariants as call
use Rattle.values.specs.declared.faults.CheckFault.{CheckFault}
use Rattle.values.specs.declared.faults.Layer.TheVariants as layer
use Rattle.values.specs.Codes.{code, of_check, row}
use Rattle.checks.specs.declared.checked.Settings.{Settings}
use Rattle.checks.specs.declared.checked.CheckedOrder.{CheckedOrder}
use Rattle.checks.specs.declared.checked.CheckedCall.{CheckedCall}
use Rattle.checks.specs.declared.checked.CheckedCall.TheVariants as checked

-- a row of the fault table, a field by its number in the line, and what it is to fit there
pub record Judgment : Type 1 where
  pub row_number : ℕ
  pub field : ℕ
  pub Fits : Type 0

-- a judgment by its parts
abbrev pub judge : ℕ → ℕ → Type 0 → Judgment
judge n field Fits = record { row_number = n; field = field; Fits = Fits }

-- P holds of each
abbrev pub Every : (Judgment → Type 0) → List Judgment → Type 0
Every P [] = Unit {0}
Every P (j ∷ js) = P j × Every P js

-- P holds of one
abbrev pub One : (Judgment → Type 0) → List Judgment → Type 0
One P [] = ⊥
One P (j ∷ js) = P j ⊎ One P js

-- of a higher row, or of the same row and further left
abbrev pub before : Judgment → Judgment → Bool
before k j = nat_lt k.row_number j.row_number || (k.row_number == j.row_number && nat_lt k.field j.field)

-- the number, layer and place of the fault
abbrev pub Reports : CheckFault → Judgment → Type 0
Reports f j = code (of_check f) ≡ row j.row_number layer.Check j.field

-- the fault is reported for a judgment that does not fit, and all that are before it fit
abbrev pub LeftmostTopmost : List Judgment → CheckFault → Type 0
LeftmostTopmost js f = One (λ j. Reports f j × (j.Fits → ⊥) × Every (λ k. before k j ≡ true → k.Fits) js) js

-- all fit and the value is the right one, or the fault is that of the leftmost field of the topmost row
abbrev pub Judged : {A : Type 0} → List Judgment → (A → Type 0) → Result A CheckFault → Type 0
Judged js Carries (Ok v) = Every (λ j. j.Fits) js × Carries v
Judged js Carries (Err f) = LeftmostTopmost js f

-- a quote's size: up to 99,999, and 0 exactly where its price is 0
abbrev pub SizeFits : ℕ → ℕ → Type 0
SizeFits price size = (size ≤ 99999) × (price ≡ 0 → size ≡ 0) × (size ≡ 0 → price ≡ 0)

-- a limit: up to 100,000, and 0 exactly for kind M
abbrev pub LimitFits : Letter → ℕ → Type 0
LimitFits kind limit = (limit ≤ 100000) × (kind ≡ letter.M → limit ≡ 0) × (limit ≡ 0 → kind ≡ letter.M)

-- the letter l is a or b
abbrev pub EitherLetter : Letter → Letter → Letter → Type 0
EitherLetter a b l = (l ≡ a) ⊎ (l ≡ b)

-- ladder P, M or N; width mark 0 or 1
abbrev pub header_rows : Header → List Judgment
header_rows h =
    judge 4 2 ((h.ladder ≡ letter.P) ⊎ ((h.ladder ≡ letter.M) ⊎ (h.ladder ≡ letter.N)))
    ∷ judge 4 3 ((h.width ≡ 0) ⊎ (h.width ≡ 1))
    ∷ []

-- exchange 1 to 15, prices to 100,000, sizes beside them; prices above 0 are rungs
abbrev pub away_rows : (ℕ → Bool) → ℕ → Quote → List Judgment
away_rows rung exchange q =
    judge 4 2 ((1 ≤ exchange) × (exchange ≤ 15))
    ∷ judge 4 3 (q.bid ≤ 100000)
    ∷ judge 4 4 (SizeFits q.bid q.bid_size)
    ∷ judge 4 5 (q.offer ≤ 100000)
    ∷ judge 4 6 (SizeFits q.offer q.offer_size)
    ∷ judge 5 3 (0 < q.bid → rung q.bid ≡ true)
    ∷ judge 5 5 (0 < q.offer → rung q.offer ≡ true)
    ∷ []

-- id, firm, side, origin, kind, mark, limit, size, protection; a limit above 0 is a rung; kinds I and K are not handled
abbrev pub order_rows : (ℕ → Bool) → OrderFields → List Judgment
order_rows rung o =
    judge 4 2 ((1 ≤ o.id) × (o.id ≤ 999999))
    ∷ judge 4 3 ((1 ≤ o.firm) × (o.firm ≤ 9999))
    ∷ judge 4 4 (EitherLetter letter.B letter.S o.side)
    ∷ judge 4 5 (EitherLetter letter.C letter.N o.origin)
    ∷ judge 4 6 (EitherLetter letter.L letter.M o.kind ⊎ EitherLetter letter.I letter.K o.kind)
    ∷ judge 4 7 (EitherLetter letter.R letter.D o.mark)
    ∷ judge 4 8 (LimitFits o.kind o.limit)
    ∷ judge 4 9 ((1 ≤ o.size) × (o.size ≤ 9999))
    ∷ judge 4 10 (o.protection ≤ 20)
    ∷ judge 5 8 (0 < o.limit → rung o.limit ≡ true)
    ∷ judge 6 6 (EitherLetter letter.I letter.K o.kind → ⊥)
    ∷ []

-- id 1 to 999,999
abbrev pub cancel_rows : ℕ → List Judgment
cancel_rows id = judge 4 2 ((1 ≤ id) × (id ≤ 999999)) ∷ []

-- slip 1 to 15,000,000; filled to 9,999
abbrev pub reply_rows : ℕ → ℕ → List Judgment
reply_rows slip filled = judge 4 2 ((1 ≤ slip) × (slip ≤ 15000000)) ∷ judge 4 3 (filled ≤ 9999) ∷ []

-- by the kind of the call; opening has no fields
abbrev pub call_rows : (ℕ → Bool) → Call → List Judgment
call_rows rung call.Open = []
call_rows rung (call.Away exchange quote) = away_rows rung exchange quote
call_rows rung (call.Order o) = order_rows rung o
call_rows rung (call.Cancel id) = cancel_rows id
call_rows rung (call.Reply slip filled) = reply_rows slip filled

-- the letter of each ladder
abbrev pub ladder_letter : AnyLadder → Letter
ladder_letter Cents = letter.P
ladder_letter CentsThenFives = letter.M
ladder_letter FivesThenTens = letter.N

-- the letter of each term
abbrev pub side_letter : Side → Letter
side_letter Buy = letter.B
side_letter Sell = letter.S

abbrev pub origin_letter : Origin → Letter
origin_letter Customer = letter.C
origin_letter Other = letter.N

abbrev pub kind_letter : Kind → Letter
kind_letter Limit = letter.L
kind_letter Market = letter.M
kind_letter Immediate = letter.I
kind_letter AllOrNone = letter.K

abbrev pub mark_letter : Mark → Letter
mark_letter Route = letter.R
mark_letter DoNotRoute = letter.D

-- the header that gives these settings
abbrev pub header_of : Settings → Header
header_of s = record { ladder = ladder_letter s.ladder; width = cond s.wide 1 0 }

-- the fields that give this order
abbrev pub fields_of : CheckedOrder → OrderFields
fields_of o = record { id = o.id; firm = o.firm; side = side_letter o.side; origin = origin_letter o.origin; kind = kind_letter o.kind; mark = mark_letter o.mark; limit = o.limit; size = o.size; protection = o.protection }

-- the call that was asked for
abbrev pub asked : CheckedCall → Call
asked checked.Open = call.Open
asked (checked.Away exchange quote) = call.Away exchange quote
asked (checked.Order o) = call.Order (fields_of o)
asked (checked.Cancel id) = call.Cancel id
asked (checked.Reply slip filled) = call.Reply slip filled

-- what the check of a header answers
abbrev pub HeaderJudged : Header → Result Settings CheckFault → Type 0
HeaderJudged h r = Judged (header_rows h) (λ s. header_of s ≡ h) r

-- what the check of a call answers
abbrev pub CallJudged : (ℕ → Bool) → Call → Result CheckedCall CheckFault → Type 0
CallJudged rung c r = Judged (call_rows rung c) (λ v. asked v ≡ c) r
