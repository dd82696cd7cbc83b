-- What is written is read back. Assumes nothing.
use Rattle.std.proofs.Common.{◌≡◌, ℕ, suc, ◌+◌, ◌<◌, ◌≤◌, leb, List, [], ◌∷◌, ◌++◌, length, Some, None, Ok, decimal, Option, refl, ap, ◌∙◌, arith, length-append}
use Rattle.std.specs.List.{AllByRecursion}
use Rattle.std.proofs.lemmas.Str.Ascii.{encode_ascii}
use Rattle.std.proofs.ByRecursion.{All-from_get_or}
use Rattle.std.proofs.lemmas.Fmt.{length-decimal-le}
use Rattle.std.proofs.lemmas.Bool.{le-leb, cond-true}
use Rattle.values.specs.declared.terms.Letter.{Letter}
use Rattle.values.specs.declared.calls.Call.TheVariants as call
use Rattle.values.specs.Texts.{number, capital, letter_text}
use Rattle.lines.specs.declared.calls.CallKind.TheVariants.{Open, Away, Order, Cancel, Reply}
use Rattle.lines.specs.Words.{grown, fields}
use Rattle.lines.specs.Calls.{Sort, num, cap, Form, rest_of, number_by, letter_by, and_then, form_of, the_header, read_all, by_form, read_line, header_form, call_form}
use Rattle.lines.specs.Laws.{by_first, named}
use Rattle.lines.specs.Rounds.{Plain, HeadersReturn, CallsReturn}
use Rattle.lines.proofs.Cuts.{other}
use Rattle.lines.proofs.Naming.{line_named}
use Rattle.lines.proofs.Refusing.{by_count}
use Rattle.lines.proofs.Numbers.{decimal_digits, decimal_word, capital_word}
use Rattle.lines.proofs.Rewriting.{piece, written}

-- what a field can be written from
abbrev Fits : Sort → ℕ → Type 0
Fits num n = n ≤ 99999999
Fits cap c = (65 ≤ c) × (c ≤ 90)

abbrev Fitted : List Sort → List ℕ → Type 0
Fitted [] [] = Unit {0}
Fitted [] (n ∷ ns) = ⊥
Fitted (s ∷ ss) [] = ⊥
Fitted (s ∷ ss) (n ∷ ns) = Fits s n × Fitted ss ns

abbrev pieces : List Sort → List ℕ → List (List ℕ)
pieces [] ns = []
pieces (s ∷ ss) [] = []
pieces (s ∷ ss) (n ∷ ns) = piece s n ∷ pieces ss ns

-- no tab stands in a field
abbrev Tabless : List ℕ → Type 0
Tabless f = AllByRecursion (λ b. b ≡ 9 → ⊥) f

tabless : (s : Sort) (n : ℕ) → Fits s n → Tabless (piece s n)
tabless num n h = All-from_get_or (λ b. b ≡ 9 → ⊥) (decimal n) 0 (λ i lt is. let d = decimal_digits n h i lt in absurd (omega arith))
tabless cap c h = (λ is. absurd (omega arith), tt)

cut : (f rest : List ℕ) → Tabless f → fields (f ++ (9 ∷ rest)) ≡ f ∷ fields rest
cut [] rest none = refl
cut (b ∷ f) rest none = other b (f ++ (9 ∷ rest)) none.0 ∙ ap (grown b) (cut f rest none.1)

last : (f : List ℕ) → Tabless f → fields (f ++ []) ≡ f ∷ []
last [] none = refl
last (b ∷ f) none = other b (f ++ []) none.0 ∙ ap (grown b) (last f none.1)

fields_written : (f : List ℕ) (ss : List Sort) (ns : List ℕ) → Tabless f → Fitted ss ns → fields (f ++ written ss ns) ≡ f ∷ pieces ss ns
fields_written f [] [] none fit = last f none
fields_written f [] (n ∷ ns) none fit = absurd fit
fields_written f (s ∷ ss) [] none fit = absurd fit
fields_written f (s ∷ ss) (n ∷ ns) none fit = cut f (piece s n ++ written ss ns) none ∙ ap (λ l. f ∷ l) (fields_written (piece s n) ss ns (tabless s n fit.0) fit.1)

read_pieces : {R : Type 0} (ss : List Sort) (ns : List ℕ) (p : ℕ) (make : List ℕ → R) → Fitted ss ns → read_all ss (pieces ss ns) p make ≡ Ok (make ns)
read_pieces [] [] p make fit = refl
read_pieces [] (n ∷ ns) p make fit = absurd fit
read_pieces (s ∷ ss) [] p make fit = absurd fit
read_pieces (num ∷ ss) (n ∷ ns) p make fit =
    ap (λ w. and_then (number_by w (p + 1)) (λ m. read_all ss (pieces ss ns) (p + 1) (λ ms. make (m ∷ ms)))) (decimal_word n fit.0) ∙ read_pieces ss ns (p + 1) (λ ms. make (n ∷ ms)) fit.1
read_pieces (cap ∷ ss) (n ∷ ns) p make fit =
    ap (λ w. and_then (letter_by w (p + 1)) (λ m. read_all ss (pieces ss ns) (p + 1) (λ ms. make (m ∷ ms)))) (capital_word n fit.0.0 fit.0.1) ∙ read_pieces ss ns (p + 1) (λ ms. make (n ∷ ms)) fit.1

length_pieces : (ss : List Sort) (ns : List ℕ) → Fitted ss ns → length (pieces ss ns) ≡ length ss
length_pieces [] [] fit = refl
length_pieces [] (n ∷ ns) fit = absurd fit
length_pieces (s ∷ ss) [] fit = absurd fit
length_pieces (s ∷ ss) (n ∷ ns) fit = ap suc (length_pieces ss ns fit.1)

-- the bytes that fields take at most, each with its tab
abbrev space : Sort → ℕ
space num = 9
space cap = 2

abbrev room : List Sort → ℕ
room [] = 0
room (s ∷ ss) = space s + room ss

piece_short : (s : Sort) (n : ℕ) → Fits s n → length (piece s n) + 1 ≤ space s
piece_short num n h = omega (arith, length-decimal-le 8 n (omega arith) (omega arith) (omega arith))
piece_short cap c h = omega arith

written_short : (ss : List Sort) (ns : List ℕ) → Fitted ss ns → length (written ss ns) ≤ room ss
written_short [] [] fit = omega arith
written_short [] (n ∷ ns) fit = absurd fit
written_short (s ∷ ss) [] fit = absurd fit
written_short (s ∷ ss) (n ∷ ns) fit = omega (arith, length-append (piece s n) (written ss ns), piece_short s n fit.0, written_short ss ns fit.1)

returned : {R : Type 0} (forms : ℕ → Option (Form R)) → forms 9 ≡ None → (k : ℕ) (form : Form R) (ns : List ℕ) → forms k ≡ Some form → (k ≡ 9 → ⊥) → room form.sorts < 80 → Fitted form.sorts ns → read_line forms (k ∷ written form.sorts ns) ≡ Ok (form.make ns)
returned forms none k form ns is clear small fit =
    let ss = form.sorts in
    let bs = k ∷ written ss ns in
    let parts : fields bs ≡ (k ∷ []) ∷ pieces ss ns = fields_written (k ∷ []) ss ns (clear, tt) fit in
    let short = written_short ss ns fit in
    let count = length_pieces ss ns fit in
    let name : named forms bs ≡ Some form = cond-true (leb (length bs) 80) (by_first forms (fields bs)) None (le-leb (length bs) 80 (omega arith)) ∙ ap (by_first forms) parts ∙ is in
    line_named forms bs none
    ∙ ap (λ o. by_form o (rest_of (fields bs))) name
    ∙ ap (λ fs. by_form (Some form) (rest_of fs)) parts
    ∙ by_count form (pieces ss ns) (omega arith)
    ∙ read_pieces ss ns 1 form.make fit

-- a plain letter is written as its capital
plain_text : (l : Letter) → Plain l → letter_text l ≡ capital l ∷ []
plain_text l h = encode_ascii (capital l) (omega arith)

pub headers_return : HeadersReturn
headers_return h w =
    ap (λ l. read_line header_form (72 ∷ 9 ∷ (l ++ number h.width []))) (plain_text h.ladder w.0)
    ∙ returned header_form refl 72 the_header (capital h.ladder ∷ h.width ∷ []) refl (λ is. absurd (omega arith)) (omega arith) ((w.0.0, w.0.1), (w.1, tt))
    ∙ ap (λ l. Ok (record { ladder = l; width = h.width })) w.0.2

pub calls_return : CallsReturn
calls_return call.Open w = returned call_form refl 71 (form_of Open) [] refl (λ is. absurd (omega arith)) (omega arith) tt
calls_return (call.Away e q) w =
    returned call_form refl 65 (form_of Away) (e ∷ q.bid ∷ q.bid_size ∷ q.offer ∷ q.offer_size ∷ []) refl (λ is. absurd (omega arith)) (omega arith) (w.0, (w.1, (w.2, (w.3, (w.4, tt)))))
calls_return (call.Order o) w =
    let a = plain_text o.side w.2 in
    let b = plain_text o.origin w.3 in
    let c = plain_text o.kind w.4 in
    let d = plain_text o.mark w.5 in
    let after = number o.limit (number o.size (number o.protection [])) in
    (λ i. read_line call_form (79 ∷ number o.id (number o.firm (9 ∷ ((a i ++ (9 ∷ (b i ++ (9 ∷ (c i ++ (9 ∷ (d i ++ []))))))) ++ after)))))
    ∙ returned call_form refl 79 (form_of Order) (o.id ∷ o.firm ∷ capital o.side ∷ capital o.origin ∷ capital o.kind ∷ capital o.mark ∷ o.limit ∷ o.size ∷ o.protection ∷ []) refl (λ is. absurd (omega arith)) (omega arith) (w.0, (w.1, ((w.2.0, w.2.1), ((w.3.0, w.3.1), ((w.4.0, w.4.1), ((w.5.0, w.5.1), (w.6, (w.7, (w.8, tt)))))))))
    ∙ (λ i. Ok (call.Order (record { id = o.id; firm = o.firm; side = w.2.2 i; origin = w.3.2 i; kind = w.4.2 i; mark = w.5.2 i; limit = o.limit; size = o.size; protection = o.protection })))
calls_return (call.Cancel id) w = returned call_form refl 88 (form_of Cancel) (id ∷ []) refl (λ is. absurd (omega arith)) (omega arith) (w, tt)
calls_return (call.Reply slip filled) w = returned call_form refl 82 (form_of Reply) (slip ∷ filled ∷ []) refl (λ is. absurd (omega arith)) (omega arith) (w.0, (w.1, tt))
