use Rattle.std.proofs.Common.{◌+◌, ◌*◌, ◌≤◌, [], arith, rules}
use Rattle.series.specs.States.{state}
use Rattle.series.proofs.Sending.{sent_few, admitted}
use Rattle.series.proofs.ledger.Ledger.enter.Goals as goal

pub file_from-count-requires : goal.file_from-count-requires
file_from-count-requires c =
    let dealt = c.enter.ensures c.requires.ladder.0 c.requires.ladder.1 in
    sent_few _ _ _ _ _ _ _ _ _ _ _ _ (search rules) dealt.sent c.used-first.ensures

pub overflow_add-self : goal.overflow_add-self
overflow_add-self c =
    let dealt = c.enter.ensures c.requires.ladder.0 c.requires.ladder.1 in
    let few = sent_few _ _ _ _ _ _ _ _ _ _ _ _ (search rules) dealt.sent c.used-first.ensures in
    omega (arith, few.1, c.file_from-count.ensures.count, c.args.self.now.numbers, c.requires.arrivals)

pub invariant_of-self : goal.invariant_of-self
invariant_of-self c =
    let dealt = c.enter.ensures c.requires.ladder.0 c.requires.ladder.1 in
    let sent = sent_few _ _ _ _ _ _ _ _ _ _ _ _ (search rules) dealt.sent c.used-first.ensures in
    let few : c.args.self.now.arrivals + 1 ≤ 1000000 = omega (arith, c.requires.arrivals) in
    let numbers : c.args.self.now.numbered + c.file_from-count.result ≤ 15 * (c.args.self.now.arrivals + 1) = omega (arith, sent.1, c.file_from-count.ensures.count, c.args.self.now.numbers) in
    record { few = few; numbers = numbers }

pub returns : goal.returns
returns c R on =
    admitted _ R _ _ _ _ _ (state [] c.args.self.now) _ _ _ _ c.used-first.result _ _ _ _ c.routable.ensures (c.enter.ensures R on) c.file_from-count.ensures.filed c.file_from-count.ensures.count c.used-first.ensures c.args.slips.now.within
