use Rattle.std.proofs.Common.{take}
use Rattle.h3_connection.specs.WaitingPieces.{bytes_of}
use Rattle.h3_outgoing.proofs.HeldFronts.{Done}
use Rattle.h3_outgoing.proofs.frames.put_queue.Given as goal

abbrev pub invariant-loop-index : goal.invariant-loop-index
invariant-loop-index l = Done (bytes_of (take l.index l.frames.items)) l.fn.out l.out l.at
