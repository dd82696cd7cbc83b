use Rattle.std.proofs.Common.{[], ◌≡◌, ◌<◌, true, length, count_by, sym, refl, ap, ◌∙◌, subst, rules, arith}
use Rattle.std.proofs.lemmas.List.Sums.{count_by-le-length}
use Rattle.records.proofs.Growing.{grown_none, grown_more}
use Rattle.trading_laws.proofs.Telling.{later_parts}
use Rattle.rules.specs.Book.{at}
use Rattle.rules.specs.Quoting.{later, turns}
use Rattle.table.specs.Away.{On}
use Rattle.table.specs.Reach.{widened}
use Rattle.book.specs.Books.{orders_of}
use Rattle.book.specs.Idle.{Bounds}
use Rattle.book.specs.Rests.{Came}
use Rattle.book.proofs.Idling.{idle_turn}
use Rattle.book.proofs.Sweep.{waits_since, somebody_waits, starts, goes_on, ends}
use Rattle.book.proofs.book.Book.turns.Goals as goal

pub loop-i-init : goal.loop-i-init
loop-i-init c =
    let few = count_by-le-length (later 0) (orders_of c.args.self.now) in
    (omega (arith, few, c.args.self.now.orders.full), search rules, refl, c.requires.1, λ R on. ([], grown_none _, starts _ R _ _))

pub turn-requires : goal.turn-requires
turn-requires c =
    let b = orders_of c.loop-i.self in
    let i = c.in-Some.i in
    let last = c.loop-i.last in
    let due = c.in-Some.ensures.next in
    let waits : later last (at b i) ≡ true = waits_since last due.0 b i due.1 due.3 in
    let some = somebody_waits last b i waits in
    (search rules, ((later_parts last (at b i) waits).0, (omega (arith, some, c.requires, c.loop-i.invariant.0, c.loop-i.invariant.1), c.loop-i.invariant.3)))

pub loop-i-preserved : goal.loop-i-preserved
loop-i-preserved c =
    let its = c.turn.ensures in
    let b = orders_of c.loop-i.self in
    let i = c.in-Some.i in
    let last = c.loop-i.last in
    let due = c.in-Some.ensures.next in
    let less : count_by (later c.order-last.result.arrival) (orders_of c.turn.new.self) < count_by (later last) b =
    subst (λ o. count_by (later o.arrival) (orders_of c.turn.new.self) < count_by (later last) b) (sym c.order-last.ensures) (its.fewer last (waits_since last due.0 b i due.1 due.3))
    in (
      omega (arith, less, its.spent, c.loop-i.invariant.0),
      its.room ∙ c.loop-i.invariant.1,
      c.loop-i.invariant.2,
      subst (λ x. Bounds x (orders_of c.turn.new.self)) (sym (c.widened-market.ensures ∙ ap (λ o. widened o c.loop-i.market.reach) c.order.ensures)) its.reach,
      λ R on.
          let inv = c.loop-i.invariant.4 R on in (
            _,
            grown_more _ _ _ _ _ inv.1 (its.turned R on).reported,
            goes_on _ R c.args.before.now _ last due.0 b _ inv.0 i _ due.1 (λ j l up. idle_turn R c.loop-i.market on c.args.before.now b c.loop-i.invariant.3 j (later_parts _ (at b j) l).0 (due.2 j l up)) due.3 (search rules) (its.turned R on).book inv.2,
          ),
    )

pub loop-i-smaller : goal.loop-i-smaller
loop-i-smaller c =
    let b = orders_of c.loop-i.self in
    let due = c.in-Some.ensures.next in
    let last = c.loop-i.last in
    let less : count_by (later c.order-last.result.arrival) (orders_of c.turn.new.self) < count_by (later last) b =
    subst (λ o. count_by (later o.arrival) (orders_of c.turn.new.self) < count_by (later last) b) (sym c.order-last.ensures) (c.turn.ensures.fewer last (waits_since last due.0 b c.in-Some.i due.1 due.3))
    in less

pub returns : goal.returns
returns c R on =
    let same = c.loop-i.invariant.2 in
    let here = subst (On R) (sym same) on in
    let inv = c.loop-i.invariant.4 R here in
    let old = c.args.before.now in
    let start = orders_of c.args.self.now in
    let b = orders_of c.loop-i.self in
    let end = ends _ R old _ _ b inv.0 (λ j l. idle_turn R c.loop-i.market here old b c.loop-i.invariant.3 j (later_parts _ (at b j) l).0 (c.in_default.ensures.next j l)) inv.2 in
    let came : Came (turns (length start) c.loop-i.market.away.best R 0 old start) b c.args.reports.now c.loop-i.reports = record { book = end.0; reported = rw end.1 at inv.1 } in
    subst (λ a. Came (turns (length start) a.best R 0 old start) b c.args.reports.now c.loop-i.reports) same came
