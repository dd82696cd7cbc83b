use Rattle.std.proofs.Common.{◌++◌, string_bytes, ◌∙◌, ap₂}
use Rattle.std.proofs.lemmas.Result.{IfOk-weaker}
use Rattle.telling.specs.Paragraphs.{settled, settings_words}
use Rattle.telling.proofs.paragraphs.put_settled.Goals as goal

pub returns : goal.returns
unfolding settled
returns c = IfOk-weaker c.writeln.result _ _ (λ _ e. e ∙ ap₂ (λ p w. string_bytes c.args.out.now ++ settings_words p w) c.ladder_words-prices.ensures c.width_words-wide.ensures) c.writeln.ensures.bytes
