use Rattle.std.proofs.Common.{arith}
use Rattle.std.proofs.lemmas.List.Sums.{count_by-le-length}
use Rattle.rules.specs.Book.{live}
use Rattle.book.proofs.Idling.{bounds_reach}
use Rattle.book.proofs.Sweep.{quote_comes}
use Rattle.book.proofs.book.Book.quote.Goals as goal

pub turns-requires : goal.turns-requires
turns-requires c =
    let most = count_by-le-length live c.clamp_all-reach.new.self.places in
    (omega (arith, most, c.clamp_all-reach.new.self.full, c.requires), bounds_reach _ _ c.clamp_all-reach.ensures.reach)

pub returns : goal.returns
returns c R on = quote_comes _ R _ _ _ _ _ _ c.all-before.ensures.all (c.clamp_all-reach.ensures.rungs R on) (c.turns.ensures R on)
