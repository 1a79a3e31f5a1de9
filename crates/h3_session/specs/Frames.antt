-- The bytes of a stream of frames that were not read, as they lie.
use Rattle.std.specs.Prelude.{◌≡◌, ℕ, Bool, true, false, Option, Some, option_map}
use Rattle.std.specs.List.{concat}
use Rattle.h3_frames.specs.UnreadFrames.{UnreadFrames}
use Rattle.h3_connection.specs.Endpoint.{is_read_as}
use Rattle.h3_connection.specs.State.{EndpointState, kept_at}

-- of the peer's control stream, and of a request stream where it is there
abbrev pub FramesAt : Bool → EndpointState → ℕ → Option UnreadFrames → Type 0
FramesAt true s id lent = option_map (λ frames. concat frames.pieces) lent ≡ Some s.peer.unread
FramesAt false s id lent = option_map (λ frames. frames.pieces) lent ≡ option_map (λ r. r.incoming.unread) (kept_at s.requests id)

-- `frames`: none of any other stream
abbrev pub LendsFrames : EndpointState → ℕ → Option UnreadFrames → Type 0
LendsFrames s id lent = FramesAt (is_read_as s.control_on id) s id lent
