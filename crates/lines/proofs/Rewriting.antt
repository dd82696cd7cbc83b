-- What was read is written as it stood. Assumes nothing.
use Rattle.std.proofs.Common.{◌≡◌, ℕ, ◌<◌, ◌≤◌, List, [], ◌∷◌, ◌++◌, length, decimal, sym, refl, ap, ◌∙◌, inl, inr, arith}
use Rattle.std.proofs.lemmas.Bool.{cases_eq}
use Rattle.values.specs.declared.calls.Call.{Call}
use Rattle.values.specs.Texts.{number, letters_text, header_text, call_text}
use Rattle.lines.specs.declared.calls.CallKind.{CallKind}
use Rattle.lines.specs.declared.calls.CallKind.TheVariants.{Open, Away, Order, Cancel, Reply}
use Rattle.lines.specs.Words.{grown, word_of, fields}
use Rattle.values.specs.Terms.{letter_of}
use Rattle.lines.specs.Calls.{Sort, num, cap, sorts_of, call_of, header_sorts, header_of}
use Rattle.lines.specs.Rounds.{HeadersRewrite, CallsRewrite}
use Rattle.lines.proofs.Cuts.{tab, other, some_field}
use Rattle.lines.proofs.Accepting.{word_for, Ends, numbers, made_is}
use Rattle.lines.proofs.Saying.{letter_for, kinded, headed}
use Rattle.lines.proofs.Numbers.{decimal_back, capital_back, letter_back}

-- fields, each after a tab
abbrev pub tabbed : List (List ℕ) → List ℕ
tabbed [] = []
tabbed (f ∷ fs) = 9 ∷ (f ++ tabbed fs)

tabbed_grown : (b : ℕ) (fs : List (List ℕ)) (bs : List ℕ) → 0 < length fs → tabbed fs ≡ 9 ∷ bs → tabbed (grown b fs) ≡ 9 ∷ b ∷ bs
tabbed_grown b [] bs some e = absurd (omega arith)
tabbed_grown b (f ∷ fs) bs some e = let rest : f ++ tabbed fs ≡ bs = cc in ap (λ l. 9 ∷ b ∷ l) rest

-- the fields of a line are the whole line
tabbed_fields : (bs : List ℕ) → tabbed (fields bs) ≡ 9 ∷ bs
tabbed_fields [] = refl
tabbed_fields (b ∷ bs) =
    elim (cases_eq b 9) [
      | inl is ↦ ap tabbed (tab b bs is) ∙ ap (λ l. 9 ∷ l) (tabbed_fields bs) ∙ ap (λ x. 9 ∷ x ∷ bs) (sym is)
      | inr not ↦ ap tabbed (other b bs not) ∙ tabbed_grown b (fields bs) bs (some_field bs) (tabbed_fields bs)
    ]

whole : (bs : List ℕ) (k : ℕ) (rest : List (List ℕ)) → fields bs ≡ (k ∷ []) ∷ rest → bs ≡ k ∷ tabbed rest
whole bs k rest parts = let e : 9 ∷ bs ≡ 9 ∷ k ∷ tabbed rest = sym (tabbed_fields bs) ∙ ap tabbed parts in cc

-- what a field of each sort is written as
abbrev pub piece : Sort → ℕ → List ℕ
piece num n = decimal n
piece cap c = c ∷ []

abbrev pub written : List Sort → List ℕ → List ℕ
written [] ns = []
written (s ∷ ss) [] = []
written (s ∷ ss) (n ∷ ns) = 9 ∷ (piece s n ++ written ss ns)

piece_back : (s : Sort) (f : List ℕ) (n : ℕ) → word_of f ≡ word_for s n → piece s n ≡ f
piece_back num f n e = decimal_back f n e
piece_back cap f n e = (capital_back f n e).0

written_is : {R : Type 0} (ss : List Sort) (fs : List (List ℕ)) (make : List ℕ → R) (r : R) (h : Ends ss fs make r) → written ss (numbers ss fs make r h) ≡ tabbed fs
written_is [] fs make r h = sym (ap tabbed h.0)
written_is (s ∷ ss) fs make r h =
    let here = piece_back s h.0 h.2 h.4 in
    let after = written_is ss h.1 (λ ns. make (h.2 ∷ ns)) r h.5 in
    ap (λ l. 9 ∷ (l ++ written ss (numbers ss h.1 (λ ns. make (h.2 ∷ ns)) r h.5))) here ∙ ap (λ l. 9 ∷ (h.0 ++ l)) after ∙ sym (ap tabbed h.3)

-- four letter fields side by side
pub letters_back : (a b c d : ℕ) (rest : List ℕ) → a ≤ 90 → b ≤ 90 → c ≤ 90 → d ≤ 90 → letters_text (letter_of a) (letter_of b) (letter_of c) (letter_of d) ++ rest ≡ a ∷ 9 ∷ b ∷ 9 ∷ c ∷ 9 ∷ d ∷ rest
letters_back a b c d rest ha hb hc hd =
    λ i. (letter_back a ha i ++ (9 ∷ (letter_back b hb i ++ (9 ∷ (letter_back c hc i ++ (9 ∷ (letter_back d hd i ++ []))))))) ++ rest

text_is : (k : CallKind) (fs : List (List ℕ)) (c : Call) (h : Ends (sorts_of k) fs (call_of k) c) → call_text (call_of k (numbers (sorts_of k) fs (call_of k) c h)) ≡ letter_for k ∷ written (sorts_of k) (numbers (sorts_of k) fs (call_of k) c h)
text_is Open fs c h = refl
text_is Away fs c h = refl
text_is Order fs c h =
    let z = h.5.5 in
    let u = z.5 in
    let v = u.5 in
    let w = v.5 in
    let r = w.5 in
    let s = r.5 in
    let t = s.5 in
    ap (λ l. 79 ∷ number h.2 (number h.5.2 (9 ∷ l))) (letters_back z.2 u.2 v.2 w.2 (number r.2 (number s.2 (number t.2 []))) (capital_back z.0 z.2 z.4).2 (capital_back u.0 u.2 u.4).2 (capital_back v.0 v.2 v.4).2 (capital_back w.0 w.2 w.4).2)
text_is Cancel fs c h = refl
text_is Reply fs c h = refl

pub calls_rewrite : CallsRewrite
calls_rewrite bs c e =
    let a = kinded bs c e in
    ap call_text (sym (made_is (sorts_of a.kind) a.rest (call_of a.kind) c a.ends_so))
    ∙ text_is a.kind a.rest c a.ends_so
    ∙ ap (λ l. letter_for a.kind ∷ l) (written_is (sorts_of a.kind) a.rest (call_of a.kind) c a.ends_so)
    ∙ sym (whole bs (letter_for a.kind) a.rest a.parts)

pub headers_rewrite : HeadersRewrite
headers_rewrite bs h e =
    let a = headed bs h e in
    let x = a.ends_so in
    ap header_text (sym (made_is header_sorts a.rest header_of h x))
    ∙ ap (λ l. 72 ∷ 9 ∷ (l ++ number x.5.2 [])) (letter_back x.2 (capital_back x.0 x.2 x.4).2)
    ∙ ap (λ l. 72 ∷ l) (written_is header_sorts a.rest header_of h x)
    ∙ sym (whole bs 72 a.rest a.parts)
