use Rattle.std.proofs.Common.{◌≡◌, ◌++◌, take}
use Rattle.values.proofs.writing.append_bytes.Given as goal

abbrev pub invariant-loop-byte : goal.invariant-loop-byte
invariant-loop-byte l = l.out.items ≡ l.initial.out.items ++ take l.byte-index l.byte-items
