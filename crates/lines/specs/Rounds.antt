-- Writing and reading back. Assumes nothing.
--     Plain l             a capital that is read as the letter l
--     EightDigits n       eight digits are enough for n
--     WritableHeader h    every number of h is of eight digits, and every letter is plain
--     WritableCall c      the same of a call
use Rattle.std.specs.Prelude.{◌≡◌, ℕ, ◌≤◌, List, Ok}
use Rattle.values.specs.declared.terms.Letter.{Letter}
use Rattle.values.specs.declared.calls.Header.{Header}
use Rattle.values.specs.declared.calls.Call.{Call}
use Rattle.values.specs.declared.calls.Call.TheVariants.{Open, Away, Order, Cancel, Reply}
use Rattle.values.specs.Texts.{capital, header_text, call_text}
use Rattle.values.specs.Terms.{letter_of}
use Rattle.lines.specs.Calls.{read_header_of, read_call_of}

-- every listed letter is plain, and an unlisted one where it is a capital that is not in the list
abbrev pub Plain : Letter → Type 0
Plain l = (65 ≤ capital l) × (capital l ≤ 90) × (letter_of (capital l) ≡ l)

abbrev pub EightDigits : ℕ → Type 0
EightDigits n = n ≤ 99999999

abbrev pub WritableHeader : Header → Type 0
WritableHeader h = Plain h.ladder × EightDigits h.width

abbrev pub WritableCall : Call → Type 0
WritableCall Open = Unit {0}
WritableCall (Away exchange q) = EightDigits exchange × EightDigits q.bid × EightDigits q.bid_size × EightDigits q.offer × EightDigits q.offer_size
WritableCall (Order o) = EightDigits o.id × EightDigits o.firm × Plain o.side × Plain o.origin × Plain o.kind × Plain o.mark × EightDigits o.limit × EightDigits o.size × EightDigits o.protection
WritableCall (Cancel id) = EightDigits id
WritableCall (Reply slip filled) = EightDigits slip × EightDigits filled

-- writing a header and reading it back gives the header
abbrev pub HeadersReturn : Type 0
HeadersReturn = (h : Header) → WritableHeader h → read_header_of (header_text h) ≡ Ok h

-- writing a call and reading it back gives the call
abbrev pub CallsReturn : Type 0
CallsReturn = (c : Call) → WritableCall c → read_call_of (call_text c) ≡ Ok c

-- reading an accepted line and writing what was read gives the same bytes
abbrev pub HeadersRewrite : Type 0
HeadersRewrite = (bs : List ℕ) (h : Header) → read_header_of bs ≡ Ok h → header_text h ≡ bs

abbrev pub CallsRewrite : Type 0
CallsRewrite = (bs : List ℕ) (c : Call) → read_call_of bs ≡ Ok c → call_text c ≡ bs
