use Rattle.std.proofs.Common.{List, refl, ap, ◌∙◌}
use Rattle.market.specs.declared.board.Quote.{Quote}
use Rattle.series.specs.States.{state}
use Rattle.series.proofs.Coming.{began}
use Rattle.series.proofs.series.Series.new.Goals as goal

pub returns : goal.returns
returns g c =
    let e = ap (λ (qs : List Quote). state qs c.new.result) c.clear.ensures ∙ c.new.ensures in
    record { state = e; ladder = refl; begins = began _ _ _ e }
