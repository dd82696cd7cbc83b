use Rattle.std.proofs.Common.{◌+◌, sym, ◌∙◌, arith, rules}
use Rattle.std.proofs.lemmas.List.{ext_get_or}
use Rattle.market.specs.Quotes.{absent, quoted}
use Rattle.market.proofs.Packs.{made_by}
use Rattle.market.proofs.Packs.{quoted_next}
use Rattle.series.proofs.sight.quotes_of.Goals as goal

pub returns : goal.returns
returns g c =
    let qs = g.B.Board.quotes c.args.board.now in
    let all = c.from_fn.ensures.items in
    ext_get_or absent c.from_fn.result qs (all.long ∙ sym (g.B.Board.fifteen c.args.board.now)) (λ k l. made_by _ (λ i. quoted qs (i + 1)) _ (λ i y q call. search rules) _ 0 15 all.each k (omega arith) (omega (arith, all.long)) ∙ quoted_next qs k (omega (arith, all.long)))
