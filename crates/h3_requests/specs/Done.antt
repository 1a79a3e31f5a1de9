-- Streams on which nothing is left to be done.
use Rattle.std.specs.Prelude.{Bool, true, false, not, ◌&&◌, ◌||◌, Option, Some, None, is_some}
use Rattle.h3_connection.specs.State.{RequestState}
use Rattle.h3_outgoing.specs.Sent.{is_sent_off}
use Rattle.h3_requests.specs.HasBytes.{has_bytes, has_end}

-- its end was handed out, or it was given up, and sending has ended
abbrev pub is_done : RequestState → Bool
is_done r = (r.incoming.is_over || is_some r.incoming.fault) && is_sent_off r.outgoing

-- whether a stream is there, or of those alone that are not done one
abbrev pub is_sought : (undone : Bool) → Option RequestState → Bool
is_sought undone None = false
is_sought undone (Some r) = not (undone && is_done r)

-- bytes or its end wait on it, or it is not done
abbrev pub is_unfinished : Option RequestState → Bool
is_unfinished r = has_bytes r || has_end r || is_sought true r
