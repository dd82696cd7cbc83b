-- How the telling of a call closes. Assumes nothing.
use Rattle.std.proofs.Common.{◌≡◌, ◌<◌, List, [], ◌∷◌, length, codes, refl, arith}
use Rattle.values.specs.declared.reports.Report.{Report}
use Rattle.telling.specs.Paragraphs.{closing}

pub closing_none : (rs : List Report) → length rs ≡ 0 → codes " No order changes.\n" ≡ closing rs
closing_none [] e = refl
closing_none (r ∷ rs) e = absurd (omega arith)

pub closing_some : (rs : List Report) → 0 < length rs → codes "\n" ≡ closing rs
closing_some [] h = absurd (omega arith)
closing_some (r ∷ rs) h = refl
