-- An order passed by the monitor. Assumes nothing.
--     passed o g          o, with the kind and the limit g that the monitor grants it
--     judged v o          what the monitor's verdict v makes of o
--     terms_of p          what the order p is entered with
use Rattle.std.specs.Prelude.{ℕ, Ok, Err, Result}
use Rattle.values.specs.declared.terms.Kind.{Kind}
use Rattle.values.specs.declared.faults.MonitorFault.{MonitorFault}
use Rattle.rules.specs.declared.Terms.{Terms}
use Rattle.book.specs.declared.monitor.Entered.{Entered}
use Rattle.book.specs.declared.monitor.Passed.{Passed}

abbrev pub passed : Entered → Kind × ℕ → Passed
passed o g = record { terms = record { id = o.id; firm = o.firm; side = o.side; kind = g.0; limit = g.1; protection = o.protection; size = o.size } }

abbrev pub judged : Result (Kind × ℕ) MonitorFault → Entered → Result Passed MonitorFault
judged (Ok g) o = Ok (passed o g)
judged (Err f) o = Err f

abbrev pub terms_of : Passed → Terms
terms_of p = p.terms
