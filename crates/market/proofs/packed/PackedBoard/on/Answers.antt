use Rattle.std.proofs.Common.{refl}
use Rattle.market.specs.Packing.{record_bytes}
use Rattle.market.proofs.Packs.{unpacked_zeros}
use Rattle.market.proofs.packed.PackedBoard.on.Goals as goal

pub returns-clause-absent : goal.returns-clause-absent
returns-clause-absent c = unpacked_zeros

pub returns-clause-packed : goal.returns-clause-packed
unfolding record_bytes
returns-clause-packed c = refl
