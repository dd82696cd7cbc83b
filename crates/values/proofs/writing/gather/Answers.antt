use Rattle.std.proofs.Common.{[], ◌∷◌, sym, ap, ◌∙◌, arith}
use Rattle.std.proofs.lemmas.List.{nil_from_length}
use Rattle.values.specs.Texts.{numbered, text_from}
use Rattle.values.proofs.Lines.{numbered-append}
use Rattle.values.proofs.writing.gather.Goals as goal

pub returns-clause-text : goal.returns-clause-text
returns-clause-text g c =
    let none = nil_from_length c.loop-left.left.now (omega arith) in
    let all = ap (λ ns. numbered ns (text_from c.loop-left.at c.loop-left.line)) (sym none) ∙ c.loop-left.invariant.0 in
    c.put_byte.ensures.text ∙ ap (λ l. c.args.letter ∷ l) (all ∙ sym (numbered-append c.args.numbers [] (10 ∷ [])))
