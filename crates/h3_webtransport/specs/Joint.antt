-- The sessions of a connection, and what each stream is to them.
use Rattle.std.specs.Prelude.{ℕ, ◌%◌, ◌==◌, Bool, false, not, ◌&&◌, ◌||◌, Option, is_some}
use Rattle.h3_proto.specs.StreamIds.{is_request_stream}
use Rattle.h3_proto.specs.declared.stream.Side.{Side}
use Rattle.h3_proto.specs.declared.stream.Side.TheVariants.{Client, Server}
use Rattle.h3_connection.specs.State.{kept_at}
use Rattle.h3_webtransport_streams.specs.SessionStream.{SessionStream, receiver_of}
use Rattle.h3_webtransport_streams.specs.Sessions.{SessionsState, no_streams}

-- what a contract sees of `Sessions`
pub record Joint : Type 0 where
  pub sessions : SessionsState
  pub side : Side
  pub is_on : Bool
  -- a stream of a session sends next, where a request's does too
  pub is_next : Bool

abbrev pub first_joint : Side → Bool → Joint
first_joint side is_on = record { sessions = no_streams side; side = side; is_on = is_on; is_next = false }

abbrev pub stored_at : Joint → ℕ → Option SessionStream
stored_at s id = kept_at s.sessions.streams id

-- a stream of a session
abbrev pub has_stream : Joint → ℕ → Bool
has_stream s id = s.is_on && is_some (stored_at s id)

-- a stream both ways that a server opened, at its client
abbrev pub is_server_opened : Side → ℕ → Bool
is_server_opened Client id = id % 4 == 1
is_server_opened Server id = false

-- what comes on it is read beside the endpoint
abbrev pub is_read : Joint → ℕ → Bool
is_read s id = s.is_on && (is_some (receiver_of (stored_at s id)) || (is_server_opened s.side id && not (is_some (stored_at s id))))

-- the peer opens streams of this id that its endpoint reads
abbrev pub is_begun_by_peer : Side → ℕ → Bool
is_begun_by_peer Client id = id % 4 == 3
is_begun_by_peer Server id = id % 4 == 0 || id % 4 == 2

-- what the endpoint reads on it may turn out to be of a session
abbrev pub may_begin : Joint → ℕ → Bool
may_begin s id = s.is_on && not (is_some (stored_at s id)) && is_begun_by_peer s.side id

-- the endpoint reads it as a stream that goes one way, or nothing comes on it
abbrev pub is_one_way : Joint → ℕ → Bool
is_one_way s id = has_stream s id && not (is_some (receiver_of (stored_at s id))) && not (is_request_stream id)
