-- The first line of an input, and the lines after it. Assumes nothing.
use Rattle.std.proofs.Common.{◌≡◌, ℕ, ◌<◌, List, [], ◌∷◌, ◌++◌, length, Some, None, Option, MatchOption, Bor, sym, refl, ap, ◌∙◌, arith}
use Rattle.std.proofs.lemmas.Bool.{ne_eqb}
use Rattle.lines.specs.Words.{grown}
use Rattle.lines.specs.Inputs.{lines_of}
use Rattle.lines.specs.Parts.{Lacks, joined}
use Rattle.lines.proofs.Cuts.{lacks_later}

other : (b : ℕ) (bs : List ℕ) → (b ≡ 10 → ⊥) → lines_of (b ∷ bs) ≡ grown b (lines_of bs)
other b bs e = rw (ne_eqb b 10 e)

more : (front bs : List ℕ) → Lacks 10 front → lines_of (front ++ 10 ∷ bs) ≡ front ∷ lines_of bs
more [] bs lacks = refl
more (b ∷ front) bs lacks =
    other b (front ++ 10 ∷ bs) (lacks 0 (omega arith)) ∙ ap (grown b) (more front bs (lacks_later b front lacks))

last : (b : ℕ) (bs : List ℕ) → Lacks 10 (b ∷ bs) → lines_of (b ∷ bs) ≡ (b ∷ bs) ∷ []
last b [] lacks = other b [] (lacks 0 (omega arith))
last b (d ∷ bs) lacks = other b (d ∷ bs) (lacks 0 (omega arith)) ∙ ap (grown b) (last d bs (lacks_later b (d ∷ bs) lacks))

-- some bytes are a line, and the lines after it
pub lines_joined : (front : List ℕ) (rest : Option (Bor (List ℕ))) (after : List ℕ) → Lacks 10 front → 0 < length (joined 10 front rest) → MatchOption rest (after ≡ []) (λ r. after ≡ r.now) → lines_of (joined 10 front rest) ≡ front ∷ lines_of after
lines_joined [] None after lacks some is = absurd (omega arith)
lines_joined (b ∷ front) None after lacks some is = last b front lacks ∙ ap (λ l. (b ∷ front) ∷ lines_of l) (sym is)
lines_joined front (Some rest) after lacks some is = more front rest.now lacks ∙ ap (λ l. front ∷ lines_of l) (sym is)
