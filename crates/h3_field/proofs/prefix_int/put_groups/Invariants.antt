use Rattle.std.proofs.Common.{◌≡◌, ◌+◌, ℕ, List, length}
use Rattle.std.specs.Prelude.{vec_len, vec_capacity}
use Rattle.h3_field.specs.IntegerSteps.{Left}
use Rattle.h3_field.proofs.prefix_int.put_groups.Given as goal

-- The vector has grown by as many bytes as stand behind those of before, in the room that was there.
pub record Invariant (start items : List ℕ) (first all left len_before len room_before room : ℕ) : Type 0 where
  pub written : Left start items first all left
  pub grown : len + length start ≡ len_before + length items
  pub same_room : room ≡ room_before

abbrev pub invariant-loop-left : goal.invariant-loop-left
invariant-loop-left l = Invariant l.fn.buf.items l.buf.items l.first l.rest l.left (vec_len l.fn.buf) (vec_len l.buf) (vec_capacity l.fn.buf) (vec_capacity l.buf)

abbrev pub decreases-loop-left : goal.decreases-loop-left
decreases-loop-left l = l.left
