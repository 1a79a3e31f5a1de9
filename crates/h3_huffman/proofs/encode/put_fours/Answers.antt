use Rattle.std.proofs.Common.{arith, lit<, refl}
use Rattle.h3_huffman.proofs.Writing.{sum_of}
use Rattle.h3_huffman.proofs.Pending.{none_pending}
use Rattle.h3_huffman.proofs.encode.put_fours.Goals as goal

pub fours-init : goal.fours-init
fours-init c = record { standing = none_pending _ _ c.requires; few = lit< tt; within = omega arith; same = refl }

pub flush-pending-requires-clause-room : goal.flush-pending-requires-clause-room
flush-pending-requires-clause-room c = (sum_of _ _ _ _ _ _ (c.in-Some.ensures.standing _ c.fours.invariant.standing).standing).2
