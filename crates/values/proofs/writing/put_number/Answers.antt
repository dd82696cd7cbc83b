use Rattle.std.proofs.Common.{◌/◌, ◌^◌, ◌<◌, ◌≤◌, length, decimal, refl, arith, rules}
use Rattle.std.proofs.lemmas.Fmt.{length-decimal-le, decimal_nonempty}
use Rattle.values.proofs.Lines.{put_last, put_first, length_front}
use Rattle.values.proofs.writing.put_number.Goals as goal

pub loop-front-init : goal.loop-front-init
loop-front-init c =
    let h : length (decimal c.args.n) ≤ 10 = search (rules, length-decimal-le 10) in
    (refl, omega arith, omega arith, omega arith, omega arith, search rules)

pub loop-front-preserved : goal.loop-front-preserved
loop-front-preserved c =
    let i = c.loop-front.invariant in
    let front = c.loop-front.front in
    let n : c.args.n < 2 ^ 32 = search rules in
    let h : front < 2 ^ 64 = omega arith in
    let l = length_front front c.loop-front-test.true h in
    let some : 0 < length (decimal (front / 10)) = decimal_nonempty _ (omega arith) in
    (put_last front c.loop-front.at _ c.loop-front.line c.loop-front-test.true h (omega arith) (omega arith) (omega arith) i.0, omega arith, omega arith, omega arith, omega arith, search rules)

pub returns : goal.returns
returns c =
    let i = c.loop-front.invariant in
    let n : c.args.n < 2 ^ 32 = search rules in
    let some : 0 < length (decimal c.loop-front.front) = decimal_nonempty _ (omega arith) in
    record {
      text = put_first c.loop-front.front c.loop-front.at _ c.loop-front.line c.loop-front-test.false (omega arith) (omega arith) (omega arith) i.0;
      place = (omega arith, omega arith);
    }
