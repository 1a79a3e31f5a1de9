use Rattle.std.proofs.Common.{rules}
use Rattle.h3_connection.specs.WaitingPieces.{bytes_of}
use Rattle.h3_outgoing.proofs.HeldFronts.{full_put}
use Rattle.h3_outgoing.proofs.outgoing.OutgoingStream.fill.Goals as goal

pub returns : goal.returns
returns c = full_put (bytes_of c.args.self.now.pieces) c.args.out.now c.copy_to-copied.new.out c.copy_to-copied.result.0 c.copy_to-copied.ensures.copied (search rules)
