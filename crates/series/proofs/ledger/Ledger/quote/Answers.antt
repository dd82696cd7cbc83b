use Rattle.std.proofs.Common.{List, [], ap}
use Rattle.rules.specs.declared.Order.{Order}
use Rattle.series.specs.States.{state, requoted}
use Rattle.series.proofs.ledger.Ledger.quote.Goals as goal

pub returns : goal.returns
returns c R on =
    let r = c.quote.ensures R on in
    record {
      after = ap (λ (os : List Order). requoted (state [] c.args.self.now) [] (record { book = os; out = [] })) r.book;
      reported = r.reported;
    }
