use Rattle.std.proofs.Common.{length}
use Rattle.std.specs.List.{concat}
use Rattle.h3_frames.specs.Pieces.{IsRest}
use Rattle.h3_connection.specs.Incoming.{is_body}
use Rattle.h3_connection.specs.StrictConnection.{kinds_of}
use Rattle.h3_incoming.specs.Finding.{PassesFrames}
use Rattle.h3_incoming.proofs.stream.front.front.Given as goal

-- frames that give nothing were passed
abbrev pub invariant-loop-found : goal.invariant-loop-found
invariant-loop-found l = PassesFrames (kinds_of l.announced) (is_body l.place) (concat l.fn.unread.pieces) (concat l.unread.pieces) × IsRest l.fn.unread.pieces l.unread.pieces

abbrev pub decreases-loop-found : goal.decreases-loop-found
decreases-loop-found l = length (concat l.unread.pieces)
