use Rattle.std.proofs.Common.{◌++◌, ◌-◌, take, drop, ap, ◌∙◌, arith}
use Rattle.std.proofs.lemmas.List.{take_all}
use Rattle.values.proofs.Lines.{sliced}
use Rattle.values.proofs.writing.append_bytes.Goals as goal

pub returns : goal.returns
returns c =
    let text = take (64 - c.args.start) (drop c.args.start c.args.line.now) in
    c.loop-byte.invariant ∙ ap (λ bs. c.args.out.now.items ++ bs) (take_all c.loop-byte.byte-index text (omega (arith, c.loop-byte-test.false)) ∙ sliced c.args.line.now c.args.start c.requires)
