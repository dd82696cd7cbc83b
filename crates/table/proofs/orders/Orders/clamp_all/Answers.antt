use Rattle.std.proofs.Common.{◌≡◌, ◌<◌, length, set, sym, refl, ap, ◌∙◌, get_or-set_same, rules}
use Rattle.rules.specs.Book.{free}
use Rattle.table.specs.Away.{clamped}
use Rattle.table.specs.Reach.{widened, reach}
use Rattle.table.proofs.Picks.{reach_none, reach_next, reach_all}
use Rattle.table.proofs.Mapped.{Over, over_more, over_all, clamped_free, clamps_on}
use Rattle.table.proofs.orders.Orders.clamp_all.Goals as goal

pub loop-i-init : goal.loop-i-init
loop-i-init c = (refl, sym (reach_none _), refl)

pub loop-i-preserved : goal.loop-i-preserved
loop-i-preserved c =
    let ys = c.loop-i.self.places in
    let i = c.loop-i.i in
    let o = c.clamp-order.new.order in
    let h : i < length ys = search rules in (
      ap (set ys i) c.clamp-order.ensures.clamped ∙ over_more (clamped c.args.away) c.args.self.now.places ys i (search rules) h c.loop-i.invariant.0,
      c.widened-reach.ensures ∙ ap (λ x. widened x c.loop-i.reach) (c.clamp-order.ensures.now ∙ sym (get_or-set_same ys i o free h)) ∙ reach_next ys (set ys i o) i o c.loop-i.reach h refl c.loop-i.invariant.1,
      c.loop-i.invariant.2,
    )

pub invariant_of-self : goal.invariant_of-self
invariant_of-self c = record { full = search rules; clean = search rules; inside = c.loop-i.self.inside; beyond = search rules }

pub returns : goal.returns
returns c =
    let xs = c.args.self.now.places in
    let ys = c.loop-i.self.places in
    let n = c.args.self.now.extent in
    let end : c.loop-i.i ≡ n = search rules in
    let whole = c.loop-i.invariant.0 ∙ ap (Over (clamped c.args.away) xs) end ∙ over_all (clamped c.args.away) (clamped_free c.args.away) xs n c.args.self.now.beyond in
    record {
      clamped = whole;
      rungs = λ R on. whole ∙ clamps_on R c.args.away xs on;
      reach = c.loop-i.invariant.1 ∙ ap (reach ys) (end ∙ sym c.loop-i.invariant.2) ∙ sym (reach_all ys c.loop-i.self.extent (length ys) (search rules) c.loop-i.self.beyond);
    }
