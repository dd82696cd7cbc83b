use Rattle.edges.proofs.Table.{edges}
use Rattle.edges.proofs.edges_stand.Goals as goal

pub returns : goal.returns
returns c = edges
