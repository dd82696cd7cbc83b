use Rattle.std.proofs.Common.{◌≡◌, refl, rules, tests}
use Rattle.std.specs.Bool.{⊤}
use Rattle.std.proofs.lemmas.Iterator.{YieldsList-from_range, cases_from_all}
use Rattle.market.specs.Quotes.{quoted}
use Rattle.morning.proofs.Agreeing.{compared_all}
use Rattle.morning.proofs.answers.agree.Goals as goal

pub returns-clause-only : goal.returns-clause-only
returns-clause-only g c same =
    let xs = g.X.Board.quotes c.args.one.now in
    let ys = g.Y.Board.quotes c.args.other.now in
    let found = cases_from_all _ _ _ (λ k. quoted xs k ≡ quoted ys k) (λ _. ⊤) c.all.ensures.ran (YieldsList-from_range 1 16 15 refl refl) (λ x q k. search (rules, tests)) (λ x q k. tt) in
    compared_all _ xs ys _ (g.X.Board.fifteen c.args.one.now) (g.Y.Board.fifteen c.args.other.now) same found
