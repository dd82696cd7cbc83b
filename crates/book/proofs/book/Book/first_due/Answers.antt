use Rattle.std.proofs.Common.{◌≡◌, ◌+◌, ◌<◌, Some, length, sym, ap, ◌∙◌, subst, rules, arith, length-take}
use Rattle.std.proofs.lemmas.List.{get_or-take}
use Rattle.std.proofs.lemmas.Slice.Zip.{zip_turn, zip_end}
use Rattle.rules.specs.Book.{free, at}
use Rattle.book.specs.Books.{orders_of}
use Rattle.book.proofs.Idling.{Seen, due_is, seen_idle, seen_due, seen_more, seen_all}
use Rattle.book.proofs.book.Book.first_due.Goals as goal

pub loop-order-preserved-then-is_due : goal.loop-order-preserved-then-is_due
loop-order-preserved-then-is_due c =
    let b = orders_of c.args.self.now in
    let old = c.args.before.now in
    let xs = c.loop-order.yielded in
    let n = length xs in
    let d = c.loop-order.due in
    let turn = zip_turn c.used.result.now old xs c.into_iter-order-iterator.result c.loop-order.order-iterator c.next.new.self c.next.result (search rules) (search rules) c.loop-order.yielded_by (c.in-Some.order, c.in-Some.before) c.in-Some.is c.next.ensures.steps in
    let same : c.in-Some.order.now ≡ at b n = turn.2 free ∙ ap (λ ks. at ks n) c.used.ensures.places ∙ get_or-take c.args.self.now.orders.extent b n free (search rules) in
    let test = due_is c.args.market c.args.last old b d c.loop-order.end n c.is_due.result c.in-Some.before.now c.in-Some.order.now c.is_due.ensures.due (turn.3 free) same (omega arith) c.loop-order.invariant.1 in
    let seen = seen_due c.args.market c.args.last old b n d (test ∙ c.if-is_due.true) c.loop-order.invariant.0 in
    (seen_more c.args.market c.args.last old b xs _ (Some c.in-Some.order.now.arrival) (subst (λ o. Seen c.args.market c.args.last old b (n + 1) (Some o.arrival)) (sym same) seen), let up : c.args.last < c.in-Some.order.now.arrival = subst (λ o. c.args.last < o.arrival) (sym same) seen.0 in omega arith)

pub loop-order-preserved : goal.loop-order-preserved
loop-order-preserved c =
    let b = orders_of c.args.self.now in
    let old = c.args.before.now in
    let xs = c.loop-order.yielded in
    let n = length xs in
    let d = c.loop-order.due in
    let turn = zip_turn c.used.result.now old xs c.into_iter-order-iterator.result c.loop-order.order-iterator c.next.new.self c.next.result (search rules) (search rules) c.loop-order.yielded_by (c.in-Some.order, c.in-Some.before) c.in-Some.is c.next.ensures.steps in
    let same : c.in-Some.order.now ≡ at b n = turn.2 free ∙ ap (λ ks. at ks n) c.used.ensures.places ∙ get_or-take c.args.self.now.orders.extent b n free (search rules) in
    let test = due_is c.args.market c.args.last old b d c.loop-order.end n c.is_due.result c.in-Some.before.now c.in-Some.order.now c.is_due.ensures.due (turn.3 free) same (omega arith) c.loop-order.invariant.1 in
    (seen_more c.args.market c.args.last old b xs _ d (seen_idle c.args.market c.args.last old b n d (test ∙ c.if-is_due.false) c.loop-order.invariant.0), c.loop-order.invariant.1)

pub returns : goal.returns
returns c =
    let b = orders_of c.args.self.now in
    let old = c.args.before.now in
    let xs = c.loop-order.yielded in
    let ks = c.used.result.now in
    let end = zip_end ks old xs c.into_iter-order-iterator.result c.loop-order.order-iterator c.next.new.self c.next.result (search rules) (search rules) c.loop-order.yielded_by c.in-None.is c.next.ensures.steps in
    let long : length xs ≡ length ks = omega (arith, end, ap length c.used.ensures.places, length-take c.args.self.now.orders.extent b, c.args.self.now.orders.inside, c.args.self.now.orders.full) in
    let all : Seen c.args.market c.args.last old b (length ks) c.loop-order.due = subst (λ n. Seen c.args.market c.args.last old b n c.loop-order.due) long c.loop-order.invariant.0 in
    seen_all c.args.market c.args.last old b (length ks) c.loop-order.due c.used.ensures.beyond all
