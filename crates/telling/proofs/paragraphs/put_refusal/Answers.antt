use Rattle.std.proofs.Common.{◌≡◌, ◌++◌, string_bytes, ap, ◌∙◌, rules}
use Rattle.std.proofs.lemmas.Result.{IfOk-weaker}
use Rattle.values.specs.declared.faults.Code.{Code}
use Rattle.values.specs.Codes.{code}
use Rattle.telling.specs.Fields.{field_of, field_part}
use Rattle.telling.specs.Paragraphs.{number_words, refusal}
use Rattle.telling.proofs.Steps.{three}
use Rattle.telling.proofs.paragraphs.put_refusal.Goals.{in-Some+in_ok-put_at_field, in_default}
use Rattle.telling.proofs.paragraphs.put_refusal.Goals as goal

pub returns : goal.returns
unfolding refusal
returns c =
    let numbered = ap (λ (k : Code). string_bytes c.args.out.now ++ number_words k.number) c.code-number.ensures in
    let field : string_bytes c.match-field_of.out ≡ string_bytes c.write.new.self ++ field_part c.args.line.now (field_of c.args.fault) =
    elim c.match-field_of.branch [
      | in-Some+in_ok-put_at_field w ↦ search rules
      | in_default w ↦ search rules
    ] in
    IfOk-weaker c.writeln.result _ _ (λ _ e. three (string_bytes c.args.out.now) _ _ _ (number_words (code c.args.fault).number) _ _ (c.in_ok-write.ensures.bytes ∙ numbered) field e) c.writeln.ensures.bytes
