-- Lines that are said from a new series are those of a day. Assumes nothing.
use Rattle.std.proofs.Common.{◌≡◌, ℕ, ◌≤◌, Bool, true, false, List, [], ◌∷◌, ◌++◌, length, Ok, Err, Result, sym, refl, ap, ◌∙◌, subst, arith}
use Rattle.std.specs.List.{flat_map}
use Rattle.std.specs.Prelude.{nat_le}
use Rattle.std.proofs.lemmas.Bool.Decides.{nat_tests}
use Rattle.market.specs.declared.any.AnyLadder.{AnyLadder}
use Rattle.market.specs.declared.any.AnyLadder.TheVariants.{Cents, CentsThenFives, FivesThenTens}
use Rattle.market.specs.Any.{rungs_of}
use Rattle.rules.specs.Ladders.{Rungs}
use Rattle.rules.specs.States.{State, new}
use Rattle.rules.specs.Steps.Run.{start}
use Rattle.law.proofs.Whole.{law}
use Rattle.std.proofs.lemmas.Bool.{le-leb}
use Rattle.values.specs.declared.faults.Fault.{Fault}
use Rattle.checks.specs.declared.checked.Settings.{Settings}
use Rattle.lines.specs.Inputs.{lines_of}
use Rattle.opening.specs.Opening.{started}
use Rattle.day.specs.Days.{Outcome, text, Answers, Day, Begun, Told, Short, Writes, events}
use Rattle.day.specs.Voices.{Words, telling, Said, SaysDay, SaysFrom, SaysLines, SaysShort, Says, plain}
use Rattle.day.proofs.Onward.{run_on}

any_rungs : (l : AnyLadder) → Rungs (rungs_of l)
any_rungs Cents = record { top = refl; none = refl; most = λ p h. grind (arith, nat_tests) }
any_rungs CentsThenFives = record { top = refl; none = refl; most = λ p h. grind (arith, nat_tests) }
any_rungs FivesThenTens = record { top = refl; none = refl; most = λ p h. grind (arith, nat_tests) }

pub day_of : (say : List ℕ → Outcome → List ℕ) (l : AnyLadder) (wide : Bool) (R : ℕ → Bool) (s s' : State) (lines : List (List ℕ)) (out : List ℕ) → R ≡ rungs_of l → s ≡ new wide → Said say R s lines out s' → SaysDay say (rungs_of l) wide lines out
day_of say l wide R s s' lines out er es a =
    let a₁ = subst (λ (q : ℕ → Bool). Said say q s lines out s') er a in
    let a₂ = subst (λ (t : State). Said say (rungs_of l) t lines out s') es a₁ in
    let r = run_on (rungs_of l) wide a₂.outcomes [] (new wide) s' start a₂.comes in
    let k = law (rungs_of l) (any_rungs l) wide (events a₂.outcomes) s' r in
    record {
      answer = flat_map text a₂.outcomes;
      day = record { outcomes = a₂.outcomes; answers = a₂.answers; written = refl; end = s'; run = r; lawful = k.0; kept = k.1 };
      written = a₂.written;
    }

-- an input that is short enough, and whose first line gives settings
pub says_day : (w : Words) (input first : List ℕ) (rest : List (List ℕ)) (out : List ℕ) (s : Settings) → length input ≤ 65536 → lines_of input ≡ first ∷ rest → Ok s ≡ started first → SaysFrom w first (Ok s) rest out → Says w input out
says_day w input first rest out s l is ok d =
    subst (λ b. SaysShort w b input out) (sym (le-leb (length input) 65536 l)) (subst (λ ls. SaysLines w ls out) (sym is) (subst (λ r. SaysFrom w first r rest out) ok d))

-- the answer itself is what is written for the outcomes, whatever their lines are
plainly : (lines : List (List ℕ)) (os : List Outcome) → Answers lines os → telling plain.say lines os ≡ flat_map text os
plainly [] [] a = refl
plainly [] (o ∷ os) a = absurd a
plainly (line ∷ lines) [] a = absurd a
plainly (line ∷ lines) (o ∷ os) a = ap (λ l. text o ++ l) (plainly lines os a.1)

plain_day : (R : ℕ → Bool) (wide : Bool) (lines : List (List ℕ)) (out : List ℕ) → SaysDay plain.say R wide lines out → Day R wide lines out
plain_day R wide lines out d =
    record {
      outcomes = d.day.outcomes;
      answers = d.day.answers;
      written = d.written ∙ plainly lines d.day.outcomes d.day.answers;
      end = d.day.end;
      run = d.day.run;
      lawful = d.day.lawful;
      kept = d.day.kept;
    }

begun : (first : List ℕ) (r : Result Settings Fault) (lines : List (List ℕ)) (out : List ℕ) → SaysFrom plain first r lines out → Begun r lines out
begun first (Ok s) lines out d = subst (λ b. Day (rungs_of s.ladder) s.wide lines b) (sym d.1) (plain_day (rungs_of s.ladder) s.wide lines d.0 d.2)
begun first (Err f) lines out d = d

told : (lines : List (List ℕ)) (out : List ℕ) → SaysLines plain lines out → Told lines out
told [] out d = d
told (first ∷ rest) out d = begun first (started first) rest out d

short : (b : Bool) (input out : List ℕ) → SaysShort plain b input out → Short b input out
short true input out d = told (lines_of input) out d
short false input out d = d

-- what is said plainly is the answer
pub writes : (input out : List ℕ) → Says plain input out → Writes input out
writes input out d = short (nat_le (length input) 65536) input out d
