-- A run, ask by ask. Assumes nothing.
use Rattle.std.proofs.Common.{◌≡◌, ℕ, ◌+◌, ◌<◌, ◌≤◌, Bool, List, [], ◌∷◌, map, reverse, length, get_or, take, sym, ap, ◌∙◌, subst}
use Rattle.std.proofs.lemmas.List.{take_more, take_all, map_push, reverse-append}
use Rattle.values.specs.declared.calls.Call.{Call}
use Rattle.values.specs.declared.calls.Call.TheVariants.{Open}
use Rattle.rules.specs.declared.Room.{Room}
use Rattle.rules.specs.Ladders.{Rungs}
use Rattle.rules.specs.States.{State}
use Rattle.rules.specs.Steps.{Event, Run}
use Rattle.rules.specs.Steps.Run.{next}
use Rattle.law.proofs.Whole.{law}
use Rattle.series.specs.declared.runs.Ask.{Ask}
use Rattle.series.specs.Runs.{asked, lent, Asked, Took, Ran}

asked_more : (n k : ℕ) (xs : List Ask) (i : ℕ) (d : Ask) (h : List Event) (e : Event) → i < length xs → Asked n k (take i xs) h → asked e ≡ lent n k (get_or xs i d) → Asked n k (take (i + 1) xs) (e ∷ h)
asked_more n k xs i d h e l sofar is =
    let a = get_or xs i d in
    let whole : reverse (map (lent n k) (take (i + 1) xs)) ≡ lent n k a ∷ reverse (map (lent n k) (take i xs)) =
    ap (λ ys. reverse (map (lent n k) ys)) (take_more xs i d l) ∙ ap reverse (map_push (lent n k) (take i xs) a) ∙ reverse-append (map (lent n k) (take i xs)) (lent n k a ∷ []) in
    ap (λ (x : Call × Room). x ∷ map asked h) is ∙ ap (λ ys. lent n k a ∷ ys) sofar ∙ sym whole

-- the same ladder, and memory of the same length
pub took_as : (R R' : ℕ → Bool) (n n' k k' : ℕ) (a : Ask) (s s' : State) → R ≡ R' → n ≡ n' → k ≡ k' → Took R n k a s s' → Took R' n' k' a s s'
took_as R R' n n' k k' a s s' p q r t =
    subst (λ (y : ℕ). Took R' n' y a s s') r (subst (λ (x : ℕ). Took R' x k a s s') q (subst (λ (S : ℕ → Bool). Took S n k a s s') p t))

abbrev pub no_ask : Ask
no_ask = record { call = Open; report_room = 0; slip_room = 0 }

-- one ask more
pub ran_more : (R : ℕ → Bool) (wide : Bool) (n k : ℕ) (xs : List Ask) (i : ℕ) (d : Ask) (s s' : State) → i < length xs → (h : List Event) × Asked n k (take i xs) h × Run R wide h s → Took R n k (get_or xs i d) s s' → (h : List Event) × Asked n k (take (i + 1) xs) h × Run R wide h s'
ran_more R wide n k xs i d s s' l sofar took = (took.0 ∷ sofar.0, asked_more n k xs i d sofar.0 took.0 l sofar.1 took.1, next sofar.2 took.2)

-- all of them
pub ran_all : (R : ℕ → Bool) (wide : Bool) (n k : ℕ) (xs : List Ask) (i : ℕ) (s : State) → Rungs R → length xs ≤ i → (h : List Event) × Asked n k (take i xs) h × Run R wide h s → Ran R wide n k xs s
ran_all R wide n k xs i s rungs l sofar =
    let kept = law R rungs wide sofar.0 s sofar.2 in
    record {
      history = sofar.0;
      asks = sofar.1 ∙ ap (λ ys. reverse (map (lent n k) ys)) (take_all i xs l);
      run = sofar.2;
      lawful = kept.0;
      kept = kept.1;
    }
