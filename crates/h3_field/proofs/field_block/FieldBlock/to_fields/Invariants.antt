use Rattle.std.proofs.Common.{◌≡◌, take}
use Rattle.h3_field.proofs.field_block.FieldBlock.to_fields.Given as goal

abbrev pub invariant-loop-place : goal.invariant-loop-place
invariant-loop-place l = l.list.items ≡ take l.place l.self
