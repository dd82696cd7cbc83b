-- The lines of a day, one after the other: what is left to say completes what was said. Assumes nothing.
use Rattle.std.proofs.Common.{◌≡◌, ℕ, Bool, List, [], ◌∷◌, ◌++◌, sym, refl, ap, ◌∙◌, subst, append_assoc, append-nil}
use Rattle.rules.specs.States.{State}
use Rattle.rules.specs.Steps.{Event, Run}
use Rattle.rules.specs.Steps.Run.{next}
use Rattle.day.specs.Days.{Outcome, Fits, Answers, Moves, Comes, events_on}
use Rattle.day.specs.Days.Outcome.{unread, came}
use Rattle.day.specs.Voices.{telling, Said}

-- whatever is said of the lines ls from the state s, after b was written, is the end of what is said of ls₀ from s₀ after b₀
abbrev pub Onward : (List ℕ → Outcome → List ℕ) → (ℕ → Bool) → List ℕ → State → List (List ℕ) → List ℕ → State → List (List ℕ) → Type 0
Onward say R b₀ s₀ ls₀ b s ls =
    (os : List Outcome) (b' : List ℕ) (s' : State) → Answers ls os → b' ≡ b ++ telling say ls os → Comes R s os s' → (ps : List Outcome) × Answers ls₀ ps × (b' ≡ b₀ ++ telling say ls₀ ps) × Comes R s₀ ps s'

pub onward_start : (say : List ℕ → Outcome → List ℕ) (R : ℕ → Bool) (b : List ℕ) (s : State) (ls : List (List ℕ)) → Onward say R b s ls b s ls
onward_start say R b s ls os b' s' a e c = (os, a, e, c)

pub onward_more : (say : List ℕ → Outcome → List ℕ) (R : ℕ → Bool) (b₀ : List ℕ) (s₀ : State) (ls₀ : List (List ℕ)) (b : List ℕ) (s : State) (ls : List (List ℕ)) (line : List ℕ) (rest : List (List ℕ)) (o : Outcome) (b₁ : List ℕ) (s₁ : State) → ls ≡ line ∷ rest → Fits line o → b₁ ≡ b ++ say line o → Moves R s o s₁ → Onward say R b₀ s₀ ls₀ b s ls → Onward say R b₀ s₀ ls₀ b₁ s₁ rest
onward_more say R b₀ s₀ ls₀ b s ls line rest o b₁ s₁ is fits wrote moves f os b' s' a e c =
    f (o ∷ os) b' s' (subst (λ l. Answers l (o ∷ os)) (sym is) (fits, a)) (subst (λ l. b' ≡ b ++ telling say l (o ∷ os)) (sym is) (e ∙ ap (λ x. x ++ telling say rest os) wrote ∙ append_assoc b (say line o) (telling say rest os))) (s₁, moves, c)

pub onward_end : (say : List ℕ → Outcome → List ℕ) (R : ℕ → Bool) (b₀ : List ℕ) (s₀ : State) (ls₀ : List (List ℕ)) (b : List ℕ) (s : State) (ls : List (List ℕ)) → ls ≡ [] → Onward say R b₀ s₀ ls₀ b s ls → (t : List ℕ) × (b ≡ b₀ ++ t) × Said say R s₀ ls₀ t s
onward_end say R b₀ s₀ ls₀ b s ls is f =
    let r = f [] b s (subst (λ l. Answers l []) (sym is) tt) (subst (λ l. b ≡ b ++ telling say l []) (sym is) (sym (append-nil b))) refl in
    (telling say ls₀ r.0, r.2, record { outcomes = r.0; answers = r.1; written = refl; comes = r.3 })

-- the outcomes are a run on
pub run_on : (R : ℕ → Bool) (wide : Bool) (os : List Outcome) (h : List Event) (s s' : State) → Run R wide h s → Comes R s os s' → Run R wide (events_on h os) s'
run_on R wide [] h s s' r c = subst (Run R wide h) (sym c) r
run_on R wide (unread f ∷ os) h s s' r c = run_on R wide os h c.0 s' (subst (Run R wide h) (sym c.1) r) c.2
run_on R wide (came e ∷ os) h s s' r c = run_on R wide os (e ∷ h) c.0 s' (next r c.1) c.2
