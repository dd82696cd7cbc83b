use Rattle.std.proofs.Common.{refl}
use Rattle.lines.specs.Calls.{call_form}
use Rattle.lines.proofs.Refusing.{refusals}
use Rattle.lines.proofs.laws.call_refusals_stand.Goals as goal

pub returns : goal.returns
returns c = refusals call_form refl
