use Rattle.std.proofs.Common.{refl}
use Rattle.lines.specs.Calls.{header_form}
use Rattle.lines.proofs.Refusing.{refusals}
use Rattle.lines.proofs.laws.header_refusals_stand.Goals as goal

pub returns : goal.returns
returns c = refusals header_form refl
