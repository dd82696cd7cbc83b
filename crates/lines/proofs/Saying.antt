-- An accepted line, kind by kind. Assumes nothing.
use Rattle.std.proofs.Common.{◌≡◌, ℕ, cond, eqb, ◌⊎◌, List, [], ◌∷◌, Some, None, Ok, Option, sym, refl, ap, ◌∙◌, subst, inl, inr, arith}
use Rattle.std.proofs.lemmas.Bool.{cases_eq, eq-eqb, ne_eqb}
use Rattle.values.specs.declared.calls.Header.{Header}
use Rattle.values.specs.declared.calls.Call.{Call}
use Rattle.lines.specs.declared.calls.CallKind.{CallKind}
use Rattle.lines.specs.declared.calls.CallKind.TheVariants.{Open, Away, Order, Cancel, Reply}
use Rattle.lines.specs.Words.{fields}
use Rattle.lines.specs.Calls.{Form, sorts_of, call_of, header_sorts, header_of, kind_of, form_of, form_for, the_header, call_form, header_form, read_call_of, read_header_of}
use Rattle.lines.specs.Accepts.{SaysHeader, SaysCall, HeadersSay, CallsSay}
use Rattle.lines.proofs.Accepting.{Ends, listed_is, made_is, digits_say, capital_says, accepted}

-- the letter that names a kind
abbrev pub letter_for : CallKind → ℕ
letter_for Open = 71
letter_for Away = 65
letter_for Order = 79
letter_for Cancel = 88
letter_for Reply = 82

-- a test of the letter, passed or not
step : (c n : ℕ) (j k : CallKind) (o : Option CallKind) → letter_for j ≡ n → cond (eqb c n) (Some j) o ≡ Some k → (c ≡ letter_for k) ⊎ (o ≡ Some k)
step c n j k o is e =
    elim (cases_eq c n) [
      | inl same ↦ let at : Some j ≡ Some k = sym (ap (λ b. cond b (Some j) o) (eq-eqb c n same)) ∙ e in let jk : j ≡ k = cc in inl (same ∙ sym is ∙ ap letter_for jk)
      | inr other ↦ inr (sym (ap (λ b. cond b (Some j) o) (ne_eqb c n other)) ∙ e)
    ]

pub known_letter : (c : ℕ) (k : CallKind) → kind_of c ≡ Some k → c ≡ letter_for k
known_letter c k e =
    elim (step c 71 Open k (cond (eqb c 65) (Some Away) (cond (eqb c 79) (Some Order) (cond (eqb c 88) (Some Cancel) (cond (eqb c 82) (Some Reply) None)))) refl e) [
      | inl at ↦ at
      | inr e1 ↦
          elim (step c 65 Away k (cond (eqb c 79) (Some Order) (cond (eqb c 88) (Some Cancel) (cond (eqb c 82) (Some Reply) None))) refl e1) [
            | inl at ↦ at
            | inr e2 ↦
                elim (step c 79 Order k (cond (eqb c 88) (Some Cancel) (cond (eqb c 82) (Some Reply) None)) refl e2) [
                  | inl at ↦ at
                  | inr e3 ↦
                      elim (step c 88 Cancel k (cond (eqb c 82) (Some Reply) None) refl e3) [
                        | inl at ↦ at
                        | inr e4 ↦ elim (step c 82 Reply k None refl e4) [ inl at ↦ at | inr e5 ↦ let z : ◌≡◌ {A = ℕ} 0 1 = cc in absurd (omega arith) ]
                      ]
                ]
          ]
    ]

form_known : (o : Option CallKind) (form : Form Call) → form_for o ≡ Some form → (k : CallKind) × (o ≡ Some k) × (form_of k ≡ form)
form_known None form e = let z : ◌≡◌ {A = ℕ} 0 1 = cc in absurd (omega arith)
form_known (Some k) form e = (k, refl, cc)

-- the kind of an accepted call, its letter, and its fields
pub record Kinded (bs : List ℕ) (c : Call) : Type 0 where
  pub kind : CallKind
  pub rest : List (List ℕ)
  pub parts : fields bs ≡ (letter_for kind ∷ []) ∷ rest
  pub ends_so : Ends (sorts_of kind) rest (call_of kind) c

pub kinded : (bs : List ℕ) (c : Call) → read_call_of bs ≡ Ok c → Kinded bs c
kinded bs c e =
    let a = accepted call_form refl bs c e in
    let k = form_known (kind_of a.kind) a.form a.known in
    let at = known_letter a.kind k.0 k.1 in
    record {
      kind = k.0;
      rest = a.rest;
      parts = a.parts ∙ ap (λ l. (l ∷ []) ∷ a.rest) at;
      ends_so = subst (λ (form : Form Call). Ends form.sorts a.rest form.make c) (sym k.2) a.ends_so;
    }

-- the two halves of an accepted header
pub record Headed (bs : List ℕ) (h : Header) : Type 0 where
  pub rest : List (List ℕ)
  pub parts : fields bs ≡ (72 ∷ []) ∷ rest
  pub ends_so : Ends header_sorts rest header_of h

the_form : (c : ℕ) (form : Form Header) → header_form c ≡ Some form → (c ≡ 72) × (the_header ≡ form)
the_form c form e =
    elim (cases_eq c 72) [
      | inl same ↦ let at : Some the_header ≡ Some form = sym (ap (λ b. cond b (Some the_header) None) (eq-eqb c 72 same)) ∙ e in (same, cc)
      | inr other ↦ let at : None ≡ Some form = sym (ap (λ b. cond b (Some the_header) None) (ne_eqb c 72 other)) ∙ e in let z : ◌≡◌ {A = ℕ} 0 1 = cc in absurd (omega arith)
    ]

pub headed : (bs : List ℕ) (h : Header) → read_header_of bs ≡ Ok h → Headed bs h
headed bs h e =
    let a = accepted header_form refl bs h e in
    let k = the_form a.kind a.form a.known in
    record {
      rest = a.rest;
      parts = a.parts ∙ ap (λ l. (l ∷ []) ∷ a.rest) k.0;
      ends_so = subst (λ (form : Form Header). Ends form.sorts a.rest form.make h) (sym k.1) a.ends_so;
    }

pub headers_say : HeadersSay
headers_say bs h e =
    let a = headed bs h e in
    let x = a.ends_so in
    let all = listed_is header_sorts a.rest header_of h x in
    subst (λ (v : Header). SaysHeader v (fields bs)) (made_is header_sorts a.rest header_of h x) (x.0, x.5.0, a.parts ∙ ap (λ l. (72 ∷ []) ∷ l) all, capital_says x.0 x.2 x.4, digits_say x.5.0 x.5.2 x.5.4)

calls_say_of : (k : CallKind) (bs : List ℕ) (rest : List (List ℕ)) (c : Call) → fields bs ≡ (letter_for k ∷ []) ∷ rest → Ends (sorts_of k) rest (call_of k) c → SaysCall c (fields bs)
calls_say_of Open bs rest c parts x = subst (λ (v : Call). SaysCall v (fields bs)) x.1 (parts ∙ ap (λ l. (71 ∷ []) ∷ l) x.0)
calls_say_of Away bs rest c parts x =
    let y = x.5 in
    let z = y.5 in
    let u = z.5 in
    let v = u.5 in
    subst (λ (w : Call). SaysCall w (fields bs)) (made_is (sorts_of Away) rest (call_of Away) c x) (x.0, y.0, z.0, u.0, v.0, parts ∙ ap (λ l. (65 ∷ []) ∷ l) (listed_is (sorts_of Away) rest (call_of Away) c x), digits_say x.0 x.2 x.4, digits_say y.0 y.2 y.4, digits_say z.0 z.2 z.4, digits_say u.0 u.2 u.4, digits_say v.0 v.2 v.4)
calls_say_of Order bs rest c parts x =
    let y = x.5 in
    let z = y.5 in
    let u = z.5 in
    let v = u.5 in
    let w = v.5 in
    let r = w.5 in
    let s = r.5 in
    let t = s.5 in
    subst (λ (w : Call). SaysCall w (fields bs)) (made_is (sorts_of Order) rest (call_of Order) c x) (x.0, y.0, z.0, u.0, v.0, w.0, r.0, s.0, t.0, parts ∙ ap (λ l. (79 ∷ []) ∷ l) (listed_is (sorts_of Order) rest (call_of Order) c x), digits_say x.0 x.2 x.4, digits_say y.0 y.2 y.4, capital_says z.0 z.2 z.4, capital_says u.0 u.2 u.4, capital_says v.0 v.2 v.4, capital_says w.0 w.2 w.4, digits_say r.0 r.2 r.4, digits_say s.0 s.2 s.4, digits_say t.0 t.2 t.4)
calls_say_of Cancel bs rest c parts x =
    subst (λ (w : Call). SaysCall w (fields bs)) (made_is (sorts_of Cancel) rest (call_of Cancel) c x) (x.0, parts ∙ ap (λ l. (88 ∷ []) ∷ l) (listed_is (sorts_of Cancel) rest (call_of Cancel) c x), digits_say x.0 x.2 x.4)
calls_say_of Reply bs rest c parts x =
    let y = x.5 in
    subst (λ (w : Call). SaysCall w (fields bs)) (made_is (sorts_of Reply) rest (call_of Reply) c x) (x.0, y.0, parts ∙ ap (λ l. (82 ∷ []) ∷ l) (listed_is (sorts_of Reply) rest (call_of Reply) c x), digits_say x.0 x.2 x.4, digits_say y.0 y.2 y.4)

pub calls_say : CallsSay
calls_say bs c e = let a = kinded bs c e in calls_say_of a.kind bs a.rest c a.parts a.ends_so
