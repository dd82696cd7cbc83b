-- Boards that are compared exchange by exchange. Assumes nothing.
use Rattle.std.proofs.Common.{◌≡◌, ℕ, ◌+◌, ◌<◌, Bool, true, List, length, get_or, sym, ◌∙◌, subst, arith}
use Rattle.std.specs.Bool.{MatchBool}
use Rattle.std.specs.List.{AllWithin, range_with_len}
use Rattle.std.proofs.lemmas.List.{ext_get_or}
use Rattle.std.proofs.lemmas.List.FromFn.{get_or-range_with_len}
use Rattle.market.specs.declared.board.Quote.{Quote}
use Rattle.market.specs.Quotes.{absent, quoted}
use Rattle.market.proofs.Packs.{quoted_next}

-- the quotes of each exchange are the same
abbrev pub AllCompared : List Quote → List Quote → Type 0
AllCompared xs ys = AllWithin (λ k. quoted xs k ≡ quoted ys k) (range_with_len 1 15) 0 15

pub compared_all : (No : Type 0) (xs ys : List Quote) (r : Bool) → length xs ≡ 15 → length ys ≡ 15 → r ≡ true → MatchBool r (AllCompared xs ys) No → xs ≡ ys
compared_all No xs ys r ex ey same found =
    ext_get_or absent xs ys (ex ∙ sym ey) (λ i h. sym (quoted_next xs i (omega arith)) ∙ at i (omega arith) ∙ quoted_next ys i (omega arith))
  where
    all : AllCompared xs ys
    all = subst (λ b. MatchBool b (AllCompared xs ys) No) same found

    at : (i : ℕ) → i < 15 → quoted xs (i + 1) ≡ quoted ys (i + 1)
    at i l = let e : get_or (range_with_len 1 15) i 0 ≡ i + 1 = omega (arith, get_or-range_with_len 1 15 i 0 l) in subst (λ k. quoted xs k ≡ quoted ys k) e (all i 0 (omega arith) (omega arith))
