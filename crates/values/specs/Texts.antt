-- The bytes of everything that is written: a letter, then the fields, each after a tab (byte 9). Assumes nothing.
--     number n rest, lettered l rest               a field after its tab, and what follows
--     numbered ns rest                             number fields, each after its tab, and what follows
--     capital l, letter_text l                     a letter field's character, and the bytes that write it
--     report_text r, slip_text s, fault_text f     a line of the output, without the byte 10 that ends it
--     header_text h, call_text c                   a line of the input, without the byte 10 that ends it
--     ended text r                                 the text of r with its byte 10
--     text_from at line                            the text that begins at this place of a line's memory
use Rattle.std.specs.Prelude.{ℕ, List, [], ◌∷◌, ◌++◌, take, drop, decimal}
use Rattle.std.proofs.Math.Utf8.{encode}
use Rattle.market.specs.declared.board.Quote.{Quote}
use Rattle.values.specs.declared.terms.Letter.{Letter}
use Rattle.values.specs.declared.terms.Letter.TheVariants as letter
use Rattle.values.specs.declared.calls.Header.{Header}
use Rattle.values.specs.declared.calls.OrderFields.{OrderFields}
use Rattle.values.specs.declared.calls.Call.{Call}
use Rattle.values.specs.declared.calls.Call.TheVariants.{Open, Away, Order, Cancel, Reply}
use Rattle.values.specs.declared.faults.Layer.{Layer}
use Rattle.values.specs.declared.faults.Layer.TheVariants as layer
use Rattle.values.specs.declared.faults.Fault.{Fault}
use Rattle.values.specs.declared.reports.Report.{Report}
use Rattle.values.specs.declared.reports.Report.TheVariants.{New, Fill, Booked, Cancelled, FilledAway}
use Rattle.values.specs.declared.reports.Slip.{Slip}
use Rattle.values.specs.Codes.{code, number_of}

-- a tab, a number, and what follows
abbrev pub number : ℕ → List ℕ → List ℕ
number n rest = 9 ∷ (decimal n ++ rest)

-- numbers, each after a tab, and what follows
abbrev pub numbered : List ℕ → List ℕ → List ℕ
numbered [] rest = rest
numbered (n ∷ ns) rest = number n (numbered ns rest)

-- the capital of a letter field
abbrev pub capital : Letter → ℕ
capital letter.P = 80
capital letter.M = 77
capital letter.N = 78
capital letter.B = 66
capital letter.S = 83
capital letter.C = 67
capital letter.L = 76
capital letter.I = 73
capital letter.K = 75
capital letter.R = 82
capital letter.D = 68
capital (letter.Unlisted c) = c

-- a letter field as it is written; every capital is its own byte
abbrev pub letter_text : Letter → List ℕ
letter_text l = encode (capital l)

-- a tab, a letter, and what follows
abbrev pub lettered : Letter → List ℕ → List ℕ
lettered l rest = 9 ∷ (letter_text l ++ rest)

-- the four letter fields of an order, tabs between them
abbrev pub letters_text : Letter → Letter → Letter → Letter → List ℕ
letters_text side origin kind mark = letter_text side ++ lettered origin (lettered kind (lettered mark []))

-- the capital of a layer
abbrev pub initial : Layer → ℕ
initial layer.Line = 76
initial layer.Check = 75
initial layer.Series = 83
initial layer.Monitor = 77
initial layer.Board = 66

abbrev pub layer_text : Layer → List ℕ
layer_text l = initial l ∷ []

-- N arrival, id · F taker, maker, price, size · B arrival, booked, displayed, remaining · C arrival, size, cause · Y arrival, slip, size
abbrev pub report_text : Report → List ℕ
report_text (New arrival id) = 78 ∷ number arrival (number id [])
report_text (Fill taker maker price size) = 70 ∷ number taker (number maker (number price (number size [])))
report_text (Booked arrival booked displayed remaining) = 66 ∷ number arrival (number booked (number displayed (number remaining [])))
report_text (Cancelled arrival size cause) = 67 ∷ number arrival (number size (number (number_of cause) []))
report_text (FilledAway arrival slip size) = 89 ∷ number arrival (number slip (number size []))

-- S slip, arrival, exchange, price, size
abbrev pub slip_text : Slip → List ℕ
slip_text s = 83 ∷ number s.number (number s.arrival (number s.exchange (number s.price (number s.size []))))

-- E number, layer, place
abbrev pub fault_text : Fault → List ℕ
fault_text f = 69 ∷ number (code f).number (9 ∷ initial (code f).layer ∷ number (code f).place [])

-- H ladder, width mark
abbrev pub header_text : Header → List ℕ
header_text h = 72 ∷ lettered h.ladder (number h.width [])

-- A exchange, bid, its size, offer, its size
abbrev pub away_text : ℕ → Quote → List ℕ
away_text exchange q = 65 ∷ number exchange (number q.bid (number q.bid_size (number q.offer (number q.offer_size []))))

-- O id, firm, side, origin, kind, mark, limit, size, protection
abbrev pub order_text : OrderFields → List ℕ
order_text o =
    79 ∷ number o.id (number o.firm (9 ∷ (letters_text o.side o.origin o.kind o.mark ++ number o.limit (number o.size (number o.protection [])))))

-- G · A exchange and quote · O and an order's fields · X id · R slip, filled
abbrev pub call_text : Call → List ℕ
call_text Open = 71 ∷ []
call_text (Away exchange quote) = away_text exchange quote
call_text (Order o) = order_text o
call_text (Cancel id) = 88 ∷ number id []
call_text (Reply slip filled) = 82 ∷ number slip (number filled [])

-- a line of its own
abbrev pub ended : {R : Type 0} → (R → List ℕ) → R → List ℕ
ended text r = text r ++ (10 ∷ [])

-- what stands in the memory of a line from this place on; the line ends before place 64
abbrev pub text_from : ℕ → List ℕ → List ℕ
text_from at line = drop at (take 64 line)
