-- Runs that several pairs share. Assumes nothing.
use Rattle.std.proofs.Common.{◌≡◌, ℕ, ◌<◌, ◌≤◌, false, ◌⊎◌, [], ◌∷◌, refl, inl, inr, arith}
use Rattle.market.specs.Rungs.{cents}
use Rattle.values.specs.declared.terms.Side.TheVariants.{Buy, Sell}
use Rattle.values.specs.declared.terms.Kind.TheVariants.{Limit}
use Rattle.rules.specs.States.{State}
use Rattle.rules.specs.Steps.{Run}
use Rattle.rules.specs.Steps.Step.{entered as enters}
use Rattle.rules.specs.Steps.Run.{next}
use Rattle.edges.specs.Calls.{quoting, Comes}
use Rattle.edges.proofs.Series.{open_with, terms, checked, rests}
use Rattle.edges.proofs.Steps.{rulebook, market_run}
use Rattle.bites.specs.Wrong.{sell_rests, hit_at}

abbrev pub at_sell : State
at_sell = open_with false (quoting 108 112) (rests 1 (terms Sell 71 110 0 10) 110 110 10 ∷ []) 1

pub sell_run : Run cents false sell_rests at_sell
unfolding rulebook
sell_run = next (market_run false 108 112 refl refl) (enters 0 (checked Limit Sell 71 110 10 0) refl refl (omega arith) refl)

pub hit_run : Comes cents false (hit_at 110 10)
unfolding rulebook
hit_run = (_, next sell_run (enters 1 (checked Limit Buy 72 115 10 0) refl refl (omega arith) refl))

-- a price above a bound that is there
pub above_bound : (b p : ℕ) → 0 < b → b < p → (b ≡ 0) ⊎ (p ≤ b) → ⊥
above_bound b p h k = elim [ inl e ↦ omega arith | inr l ↦ omega arith ]
