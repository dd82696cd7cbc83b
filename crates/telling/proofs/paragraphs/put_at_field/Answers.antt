use Rattle.std.proofs.Common.{◌≡◌, [], ◌++◌, get_or, take, string_bytes, ap, ◌∙◌, rules}
use Rattle.std.specs.List.{flat_map}
use Rattle.std.proofs.lemmas.Result.{IfOk-weaker}
use Rattle.lines.specs.Words.{fields}
use Rattle.phrases.specs.declared.names.FieldName.{FieldName}
use Rattle.phrases.specs.Names.{field_named}
use Rattle.telling.specs.Fields.{visible, at_field, place_words}
use Rattle.telling.proofs.Steps.{three}
use Rattle.telling.proofs.paragraphs.put_at_field.Goals as goal

pub returns : goal.returns
unfolding at_field place_words
returns c =
    let kind : c.unwrap_or-kind.result ≡ get_or c.args.line.now 0 0 = search rules in
    let named =
    ap (λ (n : FieldName). string_bytes c.args.out.now ++ place_words n c.args.place) (c.field_named-name.ensures ∙ ap (λ k. field_named k c.args.place) kind) in
    let shown = c.shown.ensures ∙ ap (take 80) (c.field_after.ensures ∙ ap (λ n. get_or (fields c.args.line.now) n []) c.saturating_sub.ensures) in
    IfOk-weaker c.write-2.result _ _
    (λ _ e. three (string_bytes c.args.out.now) _ _ _ (place_words (field_named (get_or c.args.line.now 0 0) c.args.place) c.args.place) _ _ (c.in_ok-write.ensures.bytes ∙ named) (c.in_ok-put_each.ensures ∙ ap (λ l. string_bytes c.write.new.self ++ flat_map visible l) shown) e)
    c.write-2.ensures.bytes
