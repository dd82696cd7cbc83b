-- What the reports of a reply come to. Assumes nothing.
--     Said a n m rs      rs report n filled away and m cancelled of the a-th order, and nothing else
--     settled_said       so do those of a reply
use Rattle.std.proofs.Common.{◌≡◌, ℕ, ◌-◌, ◌≤◌, Bool, true, false, cond, ltb, List, [], ◌∷◌, ◌++◌, length, refl, ap, ◌∙◌, arith}
use Rattle.std.proofs.lemmas.Bool.{ltb-false}
use Rattle.std.proofs.lemmas.Bool.Decides.{nat_tests}
use Rattle.std.specs.List.{AllByRecursion}
use Rattle.values.specs.declared.reports.Report.{Report}
use Rattle.values.specs.declared.reports.Report.TheVariants.{FilledAway, Cancelled}
use Rattle.values.specs.declared.reports.Cause.TheVariants.{Unfilled}
use Rattle.values.specs.declared.reports.Slip.{Slip}
use Rattle.rules.specs.declared.Terms.{Terms}
use Rattle.rules.specs.declared.Prices.{Prices}
use Rattle.rules.specs.declared.Bests.{Bests}
use Rattle.rules.specs.Sizes.{share, filled, away, cancelled, latest, news}
use Rattle.rules.specs.States.{settled}
use Rattle.rules.specs.Law.{Fair, StatesRest}

-- none of it is a fill here, a booking or an announcement
pub record Said (a n m : ℕ) (rs : List Report) : Type 0 where
  pub away_is : (x : ℕ) → away x rs ≡ share x a n
  pub cancelled_is : (x : ℕ) → cancelled x rs ≡ share x a m
  pub filled_none : (x : ℕ) → filled x rs ≡ 0
  pub quiet : (x : ℕ) (p : Prices) → latest x p rs ≡ p
  pub no_news : news rs ≡ []
  pub fair : (e : Bests) (look : ℕ → Terms) → AllByRecursion (Fair e look) rs
  pub states : (left : ℕ → ℕ) → StatesRest left rs
  pub few : length rs ≤ 2

share_none : (x a : ℕ) → 0 ≡ share x a 0
share_none x a = grind (arith, nat_tests)

pub settled_said : (x : Slip) (n : ℕ) → n ≤ x.size → Said x.arrival n (x.size - n) (settled x n)
settled_said x n h = go (ltb 0 n) (ltb n x.size) refl refl
  where
    go : (c d : Bool) → ltb 0 n ≡ c → ltb n x.size ≡ d → Said x.arrival n (x.size - n) (cond c (FilledAway x.arrival x.number n ∷ []) [] ++ cond d (Cancelled x.arrival (x.size - n) Unfilled ∷ []) [])
    go true true p q = record { away_is = λ y. omega arith; cancelled_is = λ y. omega arith; filled_none = λ y. refl; quiet = λ y w. refl; no_news = refl; fair = λ e l. (tt, (tt, tt)); states = λ left. tt; few = omega arith }
    go true false p q =
        let z : x.size - n ≡ 0 = omega (arith, ltb-false n x.size q) in
        record { away_is = λ y. omega arith; cancelled_is = λ y. rw z (share_none y x.arrival); filled_none = λ y. refl; quiet = λ y w. refl; no_news = refl; fair = λ e l. (tt, tt); states = λ left. tt; few = omega arith }
    go false true p q =
        let z : n ≡ 0 = omega (arith, ltb-false 0 n p) in
        record { away_is = λ y. share_none y x.arrival ∙ ap (share y x.arrival) (omega (arith, z)); cancelled_is = λ y. omega arith; filled_none = λ y. refl; quiet = λ y w. refl; no_news = refl; fair = λ e l. (tt, tt); states = λ left. tt; few = omega arith }
    go false false p q =
        let z : n ≡ 0 = omega (arith, ltb-false 0 n p) in
        let w : x.size - n ≡ 0 = omega (arith, ltb-false n x.size q) in
        record { away_is = λ y. share_none y x.arrival ∙ ap (share y x.arrival) (omega (arith, z)); cancelled_is = λ y. rw w (share_none y x.arrival); filled_none = λ y. refl; quiet = λ y w. refl; no_news = refl; fair = λ e l. tt; states = λ left. tt; few = omega arith }
