-- What is left of a stream to be read.
use Rattle.std.specs.Prelude.{Bool, not, ◌&&◌, ◌==◌, length, is_some}
use Rattle.h3_connection.specs.Incoming.{Incoming}

-- nothing: no bytes, no field section, and no payload under way; and it waits for nothing
abbrev pub is_drained : Incoming → Bool
is_drained i = (length i.unread == 0) && not (is_some i.section) && (i.body_left == 0) && (i.waits_for == 0)
