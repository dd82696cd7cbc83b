use Rattle.std.proofs.Common.{◌≡◌, ◌++◌, drop, string_bytes}
use Rattle.morning.specs.Words.{dump_from}
use Rattle.morning.proofs.text.put_bytes.Given as goal

abbrev pub invariant-loop-i : goal.invariant-loop-i
invariant-loop-i l = string_bytes l.out ++ dump_from l.i (drop l.i l.bytes) ≡ string_bytes l.initial.out ++ dump_from 0 l.bytes
