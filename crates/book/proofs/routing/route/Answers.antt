use Rattle.std.proofs.Common.{◌≡◌, true, false, sym, ◌∙◌}
use Rattle.book.specs.Shares.{goes_out}
use Rattle.book.proofs.Sharing.{stays_grown, stays_left, goes_grown, goes_left}
use Rattle.book.proofs.routing.route.Goals as goal

pub returns-then-not-goes_out : goal.returns-then-not-goes_out
returns-then-not-goes_out c =
    let no : goes_out c.args.routable c.args.best c.args.order ≡ false = sym c.goes_out.ensures ∙ c.if-not-goes_out.true in
    record { slips = stays_grown _ _ _ _ _ _ no; left = stays_left _ c.args.quotes.now _ _ _ no }

pub returns : goal.returns
returns c =
    let yes : goes_out c.args.routable c.args.best c.args.order ≡ true = sym c.goes_out.ensures ∙ c.if-not-goes_out.false in
    record {
      slips = goes_grown _ _ _ _ _ _ c.met.ensures yes _ _ c.share_out-remaining.ensures.slips;
      left = goes_left _ c.args.quotes.now _ _ _ _ c.met.ensures yes _ c.share_out-remaining.ensures.left;
    }
