-- What one line's answer comes to. Assumes nothing.
use Rattle.std.proofs.Common.{◌≡◌, ℕ, ◌-◌, List, [], ◌++◌, ap, ◌∙◌, ap₂, arith}
use Rattle.values.specs.declared.calls.Call.{Call}
use Rattle.values.specs.declared.reports.Report.{Report}
use Rattle.values.specs.declared.reports.Slip.{Slip}
use Rattle.rules.specs.declared.Room.{Room}
use Rattle.rules.specs.Steps.Event.{did}
use Rattle.day.specs.Days.{Outcome, full}
use Rattle.day.specs.Days.Outcome.{came}

-- the records of a list that was empty are those that the call added
added : {X : Type 0} (old all new seen : List X) → old ≡ [] → all ≡ old ++ new → seen ≡ all → seen ≡ new
added old all new seen e a v = v ∙ a ∙ ap (λ l. l ++ new) e

-- what is said of a call speaks of the records that it added
pub done_said : (say : List ℕ → Outcome → List ℕ) (b₀ b₁ line : List ℕ) (c : Call) (m : Room) (rs rs' new v : List Report) (ss ss' sent w : List Slip) → rs ≡ [] → ss ≡ [] → rs' ≡ rs ++ new → ss' ≡ ss ++ sent → v ≡ rs' → w ≡ ss' → b₁ ≡ b₀ ++ say line (came (did c m v w)) → b₁ ≡ b₀ ++ say line (came (did c m new sent))
done_said say b₀ b₁ line c m rs rs' new v ss ss' sent w er es ar at vr vs told =
    told ∙ ap₂ (λ x y. b₀ ++ say line (came (did c m x y))) (added rs rs' new v er ar vr) (added ss ss' sent w es at vs)

-- lists of 128 and of 15 places that are empty
pub full_room : (c u d v : ℕ) → c ≡ 128 → u ≡ 0 → d ≡ 15 → v ≡ 0 → ◌≡◌ {A = Room} (record { reports = c - u; slips = d - v }) full
full_room c u d v ec eu ed ev =
    let a : c - u ≡ 128 = omega arith in
    let b : d - v ≡ 15 = omega arith in
    ap₂ (λ (x y : ℕ). record { reports = x; slips = y }) a b
