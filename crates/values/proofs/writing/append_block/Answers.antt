use Rattle.std.proofs.Common.{◌≡◌, ◌+◌, ◌-◌, length, take, drop, vec_items, vec_len, ap, ◌∙◌, arith, rules}
use Rattle.std.proofs.lemmas.List.{length-take-le, length-drop}
use Rattle.values.proofs.Lines.{cut}
use Rattle.values.proofs.writing.append_block.Goals as goal

pub returns : goal.returns
returns c =
    let start = c.args.start in
    let line = c.args.line.now in
    let more = c.in_ok-extend_from_slice.ensures in
    let m : start + 64 - start ≡ 64 = omega arith in
    let count : length (take (start + 64 - start) (drop start line)) ≡ start + 64 - start = length-take-le _ (drop start line) (omega (arith, length-drop start line)) in
    let long : length (vec_items c.args.out.now) ≡ vec_len c.args.out.now = search rules in
    let n : c.len.result - start ≡ length (vec_items c.args.out.now) + (64 - start) = omega arith in
    c.truncate.ensures.items ∙ ap (take (c.len.result - start)) more.items ∙ cut _ line start _ _ c.requires m n
