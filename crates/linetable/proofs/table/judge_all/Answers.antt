use Rattle.std.proofs.Common.{◌≡◌, ℕ, List, [], ◌∷◌, ◌++◌, string_bytes, sym, ap, ◌∙◌, append_assoc, append-nil}
use Rattle.lines.specs.Inputs.{lines_of}
use Rattle.linetable.specs.declared.table.Stage.{Stage}
use Rattle.linetable.specs.declared.table.Answer.{Answer}
use Rattle.linetable.specs.Table.{judged, told, table}
use Rattle.linetable.proofs.table.judge_all.Goals as goal

-- a line is answered
step : (was : List ℕ) {after all : List ℕ} (line : List ℕ) {lines : List (List ℕ)} (rest : List (List ℕ)) (s : Stage) (r : Answer × Stage) → lines ≡ line ∷ rest → r ≡ judged s line → after ≡ was ++ told r.0 → was ++ table s lines ≡ all → after ++ table r.1 rest ≡ all
unfolding table
step was line rest s r first answer wrote sofar =
    ap (λ l. l ++ table r.1 rest) wrote
    ∙ append_assoc was (told r.0) (table r.1 rest)
    ∙ ap (λ x. was ++ (told x.0 ++ table x.1 rest)) answer
    ∙ ap (λ l. was ++ table s l) (sym first)
    ∙ sofar

-- no line is left
last : (was : List ℕ) {all : List ℕ} (s : Stage) {lines : List (List ℕ)} → lines ≡ [] → was ++ table s lines ≡ all → was ≡ all
unfolding table
last was s none sofar = sym (append-nil was) ∙ ap (λ l. was ++ table s l) (sym none) ∙ sofar

pub loop-line-preserved : goal.loop-line-preserved
loop-line-preserved c =
    step (string_bytes c.loop-line.out) c.in-Some.line.now (lines_of c.next.new.self.rest.now) c.loop-line.stage c.judge-answer.result
    c.in-Some.ensures.steps c.judge-answer.ensures c.in_ok-tell.ensures c.loop-line.invariant

pub returns : goal.returns
returns c = last (string_bytes c.loop-line.out) c.loop-line.stage c.in-None.ensures.steps.0 c.loop-line.invariant
