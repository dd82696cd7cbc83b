-- The field that a fault speaks of. Assumes nothing.
--     field_of f          its place, counted from 1; none where the fault is of the series, the monitor or a board
--     visible b           a byte as it is shown: itself where it can be printed, else its number
--     field_part line f   the field's place, name and bytes, eighty at most
use Rattle.std.specs.Prelude.{ℕ, ◌-◌, cond, ◌&&◌, List, [], ◌∷◌, ◌++◌, take, Some, None, codes, decimal, Option, nat_le, slice_index, slice_index_or}
use Rattle.std.proofs.Math.Utf8.{encode}
use Rattle.std.specs.List.{flat_map}
use Rattle.values.specs.declared.faults.LineFault.TheVariants.{NoCall, FieldCount, Unreadable}
use Rattle.values.specs.declared.faults.CheckFault.TheVariants.{OutOfRange, OffLadder, KindNotHandled}
use Rattle.values.specs.declared.faults.Fault.{Fault}
use Rattle.values.specs.declared.faults.Fault.TheVariants as fault
use Rattle.lines.specs.Words.{fields}
use Rattle.words.specs.Money.{say}
use Rattle.phrases.specs.declared.names.FieldName.{FieldName}
use Rattle.phrases.specs.Names.{field_named, name_words}

-- the kind of the line where the line is no call or has another number of fields
abbrev pub field_of : Fault → Option ℕ
field_of (fault.Line NoCall) = Some 1
field_of (fault.Line (FieldCount found)) = Some 1
field_of (fault.Line (Unreadable field)) = Some field
field_of (fault.Check (OutOfRange field)) = Some field
field_of (fault.Check (OffLadder field)) = Some field
field_of (fault.Check KindNotHandled) = Some 6
field_of (fault.Series f) = None
field_of (fault.Monitor f) = None
field_of (fault.Board f) = None

abbrev pub numbered : ℕ → List ℕ
numbered b = say (codes "<" ∷ decimal b ∷ codes ">" ∷ [])

unfoldable pub visible : ℕ → List ℕ
visible b = cond (nat_le 32 b && nat_le b 126) (encode b) (numbered b)

unfoldable pub place_words : FieldName → ℕ → List ℕ
place_words n p = say (codes "field " ∷ decimal p ∷ codes ", " ∷ name_words n ∷ codes ", is \"" ∷ [])

-- field 8, limit, is "301":
unfoldable pub at_field : List ℕ → ℕ → List ℕ
at_field line p = place_words (field_named (slice_index line 0) p) p ++ (flat_map visible (take 80 (slice_index_or (fields line) (p - 1) [])) ++ codes "\": ")

abbrev pub field_part : List ℕ → Option ℕ → List ℕ
field_part line None = []
field_part line (Some p) = at_field line p
