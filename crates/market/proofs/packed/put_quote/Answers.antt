use Rattle.std.proofs.Common.{rules}
use Rattle.market.proofs.Overwrites.{four_words}
use Rattle.market.proofs.packed.put_quote.Goals as goal

pub returns : goal.returns
returns c =
    record {
      there = search rules;
      before = search rules;
      after = search rules;
      exact = four_words c.args.bytes.now _ _ _ _ c.args.at c.args.quote c.requires c.put_word.ensures.exact c.put_word-2.ensures.exact c.put_word-3.ensures.exact c.put_word-4.ensures.exact;
    }
