-- Each field's check decides its judgment. Assumes nothing.
use Rattle.std.proofs.Common.{◌≡◌, ℕ, ◌<◌, ◌≤◌, Bool, true, false, cond, ◌&&◌, ◌||◌, eqb, leb, ◌⊎◌, Ok, Err, sym, refl, subst, inl, inr, arith}
use Rattle.std.proofs.lemmas.Bool.Decides.{nat_tests}
use Rattle.values.specs.declared.terms.Letter.{Letter}
use Rattle.values.specs.declared.terms.Letter.TheVariants as letter
use Rattle.values.specs.declared.terms.Kind.{Kind}
use Rattle.values.specs.declared.terms.Kind.TheVariants.{Limit, Market, Immediate, AllOrNone}
use Rattle.values.specs.declared.faults.CheckFault.TheVariants.{OutOfRange, OffLadder}
use Rattle.checks.specs.Fields.{ladder_by, side_by, origin_by, kind_by, mark_by, listed, within, wide_by, size_beside, limit_by, on_ladder, handled}
use Rattle.checks.specs.Law.{judge, SizeFits, LimitFits, EitherLetter, ladder_letter, side_letter, origin_letter, kind_letter, mark_letter}
use Rattle.checks.proofs.Judging.{DecidesOne, by_test}

pub within_decides : (low high field n : ℕ) → DecidesOne (judge 4 field ((low ≤ n) × (n ≤ high))) (λ v. v ≡ n) (within low high field n)
within_decides low high field n =
    by_test (judge 4 field ((low ≤ n) × (n ≤ high))) (λ v. v ≡ n) (leb low n && leb n high) n (OutOfRange field) refl refl
    (λ e. (grind (arith, nat_tests), grind (arith, nat_tests)))
    (λ e fits. grind (arith, nat_tests))

pub up_to_decides : (high field n : ℕ) → DecidesOne (judge 4 field (n ≤ high)) (λ v. v ≡ n) (within 0 high field n)
up_to_decides high field n =
    by_test (judge 4 field (n ≤ high)) (λ v. v ≡ n) (leb 0 n && leb n high) n (OutOfRange field) refl refl
    (λ e. grind (arith, nat_tests))
    (λ e fits. grind (arith, nat_tests))

pub on_ladder_decides : (rung : ℕ → Bool) (field n : ℕ) → DecidesOne (judge 5 field (0 < n → rung n ≡ true)) (λ v. v ≡ n) (on_ladder rung field n)
on_ladder_decides rung field n =
    by_test (judge 5 field (0 < n → rung n ≡ true)) (λ v. v ≡ n) (eqb n 0 || rung n) n (OffLadder field) refl refl
    (λ e above. grind (arith, nat_tests))
    (λ e fits. grind (arith, nat_tests))

pub rung_decides : (rung : ℕ → Bool) (field m n : ℕ) → n ≡ m → DecidesOne (judge 5 field (0 < m → rung m ≡ true)) (λ v. v ≡ n) (on_ladder rung field n)
rung_decides rung field m n e = subst (λ x. DecidesOne (judge 5 field (0 < x → rung x ≡ true)) (λ v. v ≡ n) (on_ladder rung field n)) e (on_ladder_decides rung field n)

-- a number where its price is 0, and where it is not
size_at : (b : Bool) (field price size : ℕ) → eqb price 0 ≡ b → DecidesOne (judge 4 field (SizeFits price size)) (λ v. v ≡ size) (cond b (within 0 0 field size) (within 1 99999 field size))
size_at true field price size e =
    by_test (judge 4 field (SizeFits price size)) (λ v. v ≡ size) (leb 0 size && leb size 0) size (OutOfRange field) refl refl
    (λ t. (grind (arith, nat_tests), λ p. grind (arith, nat_tests), λ s. grind (arith, nat_tests)))
    (λ t fits. grind (arith, nat_tests))
size_at false field price size e =
    by_test (judge 4 field (SizeFits price size)) (λ v. v ≡ size) (leb 1 size && leb size 99999) size (OutOfRange field) refl refl
    (λ t. (grind (arith, nat_tests), λ p. grind (arith, nat_tests), λ s. grind (arith, nat_tests)))
    (λ t fits. grind (arith, nat_tests))

pub size_decides : (field price size : ℕ) → DecidesOne (judge 4 field (SizeFits price size)) (λ v. v ≡ size) (size_beside field price size)
size_decides field price size = size_at (eqb price 0) field price size refl

wide_at : (b d : Bool) (n : ℕ) → eqb n 0 ≡ b → eqb n 1 ≡ d → DecidesOne (judge 4 3 ((n ≡ 0) ⊎ (n ≡ 1))) (λ v. cond v 1 0 ≡ n) (cond b (Ok false) (cond d (Ok true) (Err (OutOfRange 3))))
unfolding DecidesOne
wide_at true d n e g = let z : n ≡ 0 = grind (arith, nat_tests) in (inl z, sym z)
wide_at false true n e g = let z : n ≡ 1 = grind (arith, nat_tests) in (inr z, sym z)
wide_at false false n e g = (refl, λ fits. grind (arith, nat_tests))

pub wide_decides : (n : ℕ) → DecidesOne (judge 4 3 ((n ≡ 0) ⊎ (n ≡ 1))) (λ v. cond v 1 0 ≡ n) (wide_by n)
wide_decides n = wide_at (eqb n 0) (eqb n 1) n refl refl

not_m : (k : Kind) (n : ℕ) → (kind_letter k ≡ letter.M → ⊥) → DecidesOne (judge 4 8 (LimitFits (kind_letter k) n)) (λ v. v ≡ n) (within 1 100000 8 n)
not_m k n other =
    by_test (judge 4 8 (LimitFits (kind_letter k) n)) (λ v. v ≡ n) (leb 1 n && leb n 100000) n (OutOfRange 8) refl refl
    (λ t. (grind (arith, nat_tests), λ m. absurd (other m), λ z. absurd (grind (arith, nat_tests))))
    (λ t fits. let below : n ≤ 100000 = fits.0 in let z : n ≡ 0 = grind (arith, nat_tests) in other (fits.2 z))

limit_at : (k : Kind) (n : ℕ) → DecidesOne (judge 4 8 (LimitFits (kind_letter k) n)) (λ v. v ≡ n) (limit_by k n)
limit_at Market n =
    by_test (judge 4 8 (LimitFits letter.M n)) (λ v. v ≡ n) (leb 0 n && leb n 0) n (OutOfRange 8) refl refl
    (λ t. (grind (arith, nat_tests), λ m. grind (arith, nat_tests), λ z. refl))
    (λ t fits. let z : n ≡ 0 = fits.1 refl in grind (arith, nat_tests))
limit_at Limit n = not_m Limit n (λ e. grind arith)
limit_at Immediate n = not_m Immediate n (λ e. grind arith)
limit_at AllOrNone n = not_m AllOrNone n (λ e. grind arith)

pub limit_decides : (l : Letter) (k : Kind) (n : ℕ) → kind_letter k ≡ l → DecidesOne (judge 4 8 (LimitFits l n)) (λ v. v ≡ n) (limit_by k n)
limit_decides l k n e = subst (λ x. DecidesOne (judge 4 8 (LimitFits x n)) (λ v. v ≡ n) (limit_by k n)) e (limit_at k n)

handled_at : (k : Kind) → DecidesOne (judge 6 6 (EitherLetter letter.I letter.K (kind_letter k) → ⊥)) (λ v. v ≡ k) (handled k)
unfolding DecidesOne
handled_at Limit = (λ h. grind arith, refl)
handled_at Market = (λ h. grind arith, refl)
handled_at Immediate = (refl, λ h. h (inl refl))
handled_at AllOrNone = (refl, λ h. h (inr refl))

pub handled_decides : (l : Letter) (k : Kind) → kind_letter k ≡ l → DecidesOne (judge 6 6 (EitherLetter letter.I letter.K l → ⊥)) (λ v. v ≡ k) (handled k)
handled_decides l k e = subst (λ x. DecidesOne (judge 6 6 (EitherLetter letter.I letter.K x → ⊥)) (λ v. v ≡ k) (handled k)) e (handled_at k)

pub ladder_decides : (l : Letter) → DecidesOne (judge 4 2 ((l ≡ letter.P) ⊎ ((l ≡ letter.M) ⊎ (l ≡ letter.N)))) (λ v. ladder_letter v ≡ l) (listed 2 (ladder_by l))
unfolding DecidesOne
ladder_decides letter.P = (inl refl, refl)
ladder_decides letter.M = (inr (inl refl), refl)
ladder_decides letter.N = (inr (inr refl), refl)
ladder_decides letter.B = (refl, λ h. grind arith)
ladder_decides letter.S = (refl, λ h. grind arith)
ladder_decides letter.C = (refl, λ h. grind arith)
ladder_decides letter.L = (refl, λ h. grind arith)
ladder_decides letter.I = (refl, λ h. grind arith)
ladder_decides letter.K = (refl, λ h. grind arith)
ladder_decides letter.R = (refl, λ h. grind arith)
ladder_decides letter.D = (refl, λ h. grind arith)
ladder_decides (letter.Unlisted c) = (refl, λ h. grind arith)

pub side_decides : (l : Letter) → DecidesOne (judge 4 4 (EitherLetter letter.B letter.S l)) (λ v. side_letter v ≡ l) (listed 4 (side_by l))
unfolding DecidesOne
side_decides letter.P = (refl, λ h. grind arith)
side_decides letter.M = (refl, λ h. grind arith)
side_decides letter.N = (refl, λ h. grind arith)
side_decides letter.B = (inl refl, refl)
side_decides letter.S = (inr refl, refl)
side_decides letter.C = (refl, λ h. grind arith)
side_decides letter.L = (refl, λ h. grind arith)
side_decides letter.I = (refl, λ h. grind arith)
side_decides letter.K = (refl, λ h. grind arith)
side_decides letter.R = (refl, λ h. grind arith)
side_decides letter.D = (refl, λ h. grind arith)
side_decides (letter.Unlisted c) = (refl, λ h. grind arith)

pub origin_decides : (l : Letter) → DecidesOne (judge 4 5 (EitherLetter letter.C letter.N l)) (λ v. origin_letter v ≡ l) (listed 5 (origin_by l))
unfolding DecidesOne
origin_decides letter.P = (refl, λ h. grind arith)
origin_decides letter.M = (refl, λ h. grind arith)
origin_decides letter.N = (inr refl, refl)
origin_decides letter.B = (refl, λ h. grind arith)
origin_decides letter.S = (refl, λ h. grind arith)
origin_decides letter.C = (inl refl, refl)
origin_decides letter.L = (refl, λ h. grind arith)
origin_decides letter.I = (refl, λ h. grind arith)
origin_decides letter.K = (refl, λ h. grind arith)
origin_decides letter.R = (refl, λ h. grind arith)
origin_decides letter.D = (refl, λ h. grind arith)
origin_decides (letter.Unlisted c) = (refl, λ h. grind arith)

pub kind_decides : (l : Letter) → DecidesOne (judge 4 6 (EitherLetter letter.L letter.M l ⊎ EitherLetter letter.I letter.K l)) (λ v. kind_letter v ≡ l) (listed 6 (kind_by l))
unfolding DecidesOne
kind_decides letter.P = (refl, λ h. grind arith)
kind_decides letter.M = (inl (inr refl), refl)
kind_decides letter.N = (refl, λ h. grind arith)
kind_decides letter.B = (refl, λ h. grind arith)
kind_decides letter.S = (refl, λ h. grind arith)
kind_decides letter.C = (refl, λ h. grind arith)
kind_decides letter.L = (inl (inl refl), refl)
kind_decides letter.I = (inr (inl refl), refl)
kind_decides letter.K = (inr (inr refl), refl)
kind_decides letter.R = (refl, λ h. grind arith)
kind_decides letter.D = (refl, λ h. grind arith)
kind_decides (letter.Unlisted c) = (refl, λ h. grind arith)

pub mark_decides : (l : Letter) → DecidesOne (judge 4 7 (EitherLetter letter.R letter.D l)) (λ v. mark_letter v ≡ l) (listed 7 (mark_by l))
unfolding DecidesOne
mark_decides letter.P = (refl, λ h. grind arith)
mark_decides letter.M = (refl, λ h. grind arith)
mark_decides letter.N = (refl, λ h. grind arith)
mark_decides letter.B = (refl, λ h. grind arith)
mark_decides letter.S = (refl, λ h. grind arith)
mark_decides letter.C = (refl, λ h. grind arith)
mark_decides letter.L = (refl, λ h. grind arith)
mark_decides letter.I = (refl, λ h. grind arith)
mark_decides letter.K = (refl, λ h. grind arith)
mark_decides letter.R = (inl refl, refl)
mark_decides letter.D = (inr refl, refl)
mark_decides (letter.Unlisted c) = (refl, λ h. grind arith)
