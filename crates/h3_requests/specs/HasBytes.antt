-- Whether bytes or an end wait on a request stream.
use Rattle.std.specs.Prelude.{Bool, false, length, nat_lt, Option, Some, None}
use Rattle.h3_connection.specs.State.{RequestState}
use Rattle.h3_connection.specs.WaitingPieces.{bytes_of}
use Rattle.h3_outgoing.specs.Sent.{end_waits, is_end_next, takes_end}

-- on one that is not there none do
abbrev pub has_bytes : Option RequestState → Bool
has_bytes None = false
has_bytes (Some r) = nat_lt 0 (length (bytes_of r.outgoing.pieces))

abbrev pub has_end : Option RequestState → Bool
has_end None = false
has_end (Some r) = end_waits r.outgoing

-- it is next
abbrev pub gives_end : Option RequestState → Bool
gives_end None = false
gives_end (Some r) = is_end_next r.outgoing

-- it may be finished
abbrev pub may_end : Option RequestState → Bool
may_end None = false
may_end (Some r) = takes_end r.outgoing
