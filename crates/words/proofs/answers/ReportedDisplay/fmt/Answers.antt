use Rattle.words.specs.Answers.{report_words}
use Rattle.words.proofs.answers.ReportedDisplay.fmt.Goals as goal

pub returns-in-Cancelled-clause-writes : goal.returns-in-Cancelled-clause-writes
unfolding report_words
returns-in-Cancelled-clause-writes g c = rw c.in-Cancelled.is c.write-in-Cancelled.ensures.writes
