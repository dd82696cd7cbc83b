use Rattle.trading_laws.proofs.Turn.{turn_after}
use Rattle.trading_laws.proofs.Entry.{enter_entered}
use Rattle.trading_laws.proofs.Telling.{quote_told}
use Rattle.trading_laws.proofs.book_laws_stand.Goals as goal

pub returns : goal.returns
returns c = λ e R look. (turn_after e R look, enter_entered e R look, λ d. quote_told e R d look)
