-- The lines of a morning, one after the other: what is left to answer completes what was answered. Assumes nothing.
use Rattle.std.proofs.Common.{◌≡◌, ℕ, ◌≤◌, Bool, true, eqb, List, [], ◌∷◌, ◌++◌, length, replicate, Ok, Result, sym, refl, ap, ◌∙◌, subst, ap₂, append_assoc, append-nil}
use Rattle.std.proofs.lemmas.Bool.{le-leb}
use Rattle.market.specs.declared.board.Quote.{Quote}
use Rattle.market.specs.Quotes.{absent, told, quoted}
use Rattle.market.specs.Any.{rungs_of}
use Rattle.values.specs.declared.faults.Fault.{Fault}
use Rattle.checks.specs.declared.checked.Settings.{Settings}
use Rattle.lines.specs.Inputs.{lines_of}
use Rattle.morning.specs.declared.taking.Taken.{Taken}
use Rattle.morning.specs.declared.taking.Taken.TheVariants.{Told}
use Rattle.morning.specs.declared.tops.Tops.{Tops}
use Rattle.morning.specs.Tops.{Top}
use Rattle.opening.specs.Opening.{started}
use Rattle.morning.specs.Mornings.{taken, after}
use Rattle.morning.specs.Words.{quote_line, top_line, agreement, dump_from}
use Rattle.morning.specs.Answers.{Answer, Lines, Over, OverBytes, Begun, Told as ToldBy, Short, Morning}

-- whatever the lines ls are answered with where the boards hold qs, after b was written, is the end of an answer to ls₀ after b₀
abbrev pub Sofar : (ℕ → Bool) → List ℕ → List (List ℕ) → List ℕ → List Quote → List (List ℕ) → Type 0
Sofar R b₀ ls₀ b qs ls = (more b' : List ℕ) → Lines R qs ls more → b' ≡ b ++ more → (all : List ℕ) × Lines R (replicate 15 absent) ls₀ all × (b' ≡ b₀ ++ all)

pub sofar_start : (R : ℕ → Bool) (b : List ℕ) (ls : List (List ℕ)) (qs : List Quote) → qs ≡ replicate 15 absent → Sofar R b ls b qs ls
sofar_start R b ls qs none more b' told e = (more, subst (λ q. Lines R q ls more) none told, e)

pub sofar_more : (R : ℕ → Bool) (b₀ : List ℕ) (ls₀ : List (List ℕ)) (b : List ℕ) (qs : List Quote) (ls : List (List ℕ)) (line : List ℕ) (rest : List (List ℕ)) (first b₁ : List ℕ) (qs₁ : List Quote) → ls ≡ line ∷ rest → Answer R qs (taken R line) first → b₁ ≡ b ++ first → qs₁ ≡ after qs (taken R line) → Sofar R b₀ ls₀ b qs ls → Sofar R b₀ ls₀ b₁ qs₁ rest
sofar_more R b₀ ls₀ b qs ls line rest first b₁ qs₁ is answers wrote moved f more b' told e =
    f (first ++ more) b' (subst (λ l. Lines R qs l (first ++ more)) (sym is) (first, more, answers, subst (λ q. Lines R q rest more) moved told, refl)) (e ∙ ap (λ x. x ++ more) wrote ∙ append_assoc b first more)

pub sofar_end : (R : ℕ → Bool) (b₀ : List ℕ) (ls₀ : List (List ℕ)) (b : List ℕ) (qs : List Quote) (ls : List (List ℕ)) → ls ≡ [] → Sofar R b₀ ls₀ b qs ls → (all : List ℕ) × Lines R (replicate 15 absent) ls₀ all × (b ≡ b₀ ++ all)
sofar_end R b₀ ls₀ b qs ls is f = f [] b (subst (λ l. Lines R qs l []) (sym is) refl) (sym (append-nil b))

-- a quote that was told: the exchange's quote, and the top of the away market
pub told_answer : (R : ℕ → Bool) (qs qs' : List Quote) (e : ℕ) (q said : Quote) (r : Result Taken Fault) (t : Tops) (b₀ b₁ b₂ : List ℕ) → Ok (Told e q) ≡ r → qs' ≡ told qs e q → said ≡ quoted qs' e → Top R qs' t → b₁ ≡ b₀ ++ quote_line e said → b₂ ≡ b₁ ++ top_line t → (b : List ℕ) × (b₂ ≡ b₀ ++ b) × Answer R qs r b
told_answer R qs qs' e q said r t b₀ b₁ b₂ is moved quotes tops first then =
    let text = quote_line e (quoted (told qs e q) e) ++ top_line t in (
      text,
      then ∙ ap (λ l. l ++ top_line t) (first ∙ ap (λ x. b₀ ++ quote_line e x) (quotes ∙ ap (λ x. quoted x e) moved)) ∙ append_assoc b₀ (quote_line e (quoted (told qs e q) e)) (top_line t),
      subst (λ (x : Result Taken Fault). Answer R qs x text) is (t, subst (λ (x : List Quote). Top R x t) moved tops, refl),
    )

-- all the lines are answered, and the boards agree
pub over_all : (n : ℕ) (R : ℕ → Bool) (lines : List (List ℕ)) (b₀ b₁ b₂ agreed : List ℕ) → n ≡ 240 → (all : List ℕ) × Lines R (replicate 15 absent) lines all × (b₁ ≡ b₀ ++ all) → agreed ≡ agreement true → b₂ ≡ b₁ ++ agreed → (b : List ℕ) × (b₂ ≡ b₀ ++ b) × Over n R lines b
over_all n R lines b₀ b₁ b₂ agreed len done same wrote = (
  done.0 ++ agreement true,
  wrote ∙ ap₂ (λ x y. x ++ y) done.2 same ∙ append_assoc b₀ done.0 (agreement true),
  subst (λ x. OverBytes x n R lines (done.0 ++ agreement true)) (sym (ap (λ m. eqb m 240) len)) (done.0, done.1, refl),
)

-- an input that is short enough, and whose first line gives settings
pub morning_of : (n : ℕ) (input first : List ℕ) (rest : List (List ℕ)) (s : Settings) (bytes b₀ b₁ b₂ : List ℕ) → length input ≤ 65536 → lines_of input ≡ first ∷ rest → Ok s ≡ started first → (b : List ℕ) × (b₁ ≡ b₀ ++ b) × Over n (rungs_of s.ladder) rest b → b₂ ≡ b₁ ++ dump_from 0 bytes → (b : List ℕ) × (b₂ ≡ b₀ ++ b) × Morning n input b
morning_of n input first rest s bytes b₀ b₁ b₂ l is ok told wrote =
    let b = told.0 ++ dump_from 0 bytes in (
      b,
      wrote ∙ ap (λ x. x ++ dump_from 0 bytes) told.1 ∙ append_assoc b₀ told.0 (dump_from 0 bytes),
      subst (λ x. Short x n input b) (sym (le-leb (length input) 65536 l)) (subst (λ ls. ToldBy n ls b) (sym is) (subst (λ r. Begun n r rest b) ok (told.0, bytes, told.2, refl))),
    )
