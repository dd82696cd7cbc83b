use Rattle.words.specs.Answers.{standing_words}
use Rattle.words.proofs.answers.StandingDisplay.fmt.Goals as goal

pub returns-in-UnderOffer-clause-writes : goal.returns-in-UnderOffer-clause-writes
unfolding standing_words
returns-in-UnderOffer-clause-writes g c = rw c.in-UnderOffer.is c.write.ensures.writes

pub returns-in-OverBid-clause-writes : goal.returns-in-OverBid-clause-writes
unfolding standing_words
returns-in-OverBid-clause-writes g c = rw c.in-OverBid.is c.write-in-OverBid.ensures.writes

pub returns-in-Unseen-clause-writes : goal.returns-in-Unseen-clause-writes
unfolding standing_words
returns-in-Unseen-clause-writes g c = rw c.in-Unseen.is c.write-in-Unseen.ensures.writes
