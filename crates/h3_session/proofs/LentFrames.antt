-- What is lent of the bytes that were not read.
use Rattle.std.proofs.Common.{◌≡◌, ℕ, Bool, true, false, Option, Some, ap, subst}
use Rattle.std.specs.Prelude.{option_map}
use Rattle.std.specs.List.{concat}
use Rattle.h3_frames.specs.UnreadFrames.{UnreadFrames}
use Rattle.h3_connection.specs.Endpoint.{is_read_as}
use Rattle.h3_connection.specs.State.{EndpointState, kept_at}
use Rattle.h3_session.specs.Frames.{FramesAt, LendsFrames}

lends_at : (s now : EndpointState) (id : ℕ) (lent : Option UnreadFrames) (control : Bool) → s ≡ now → control ≡ is_read_as s.control_on id → FramesAt control s id lent → LendsFrames now id lent
lends_at s now id lent control view is h = subst (λ v. LendsFrames v id lent) view (subst (λ b. FramesAt b s id lent) is h)

pub lends_control : (s now : EndpointState) (id : ℕ) (frames : UnreadFrames) → s ≡ now → true ≡ is_read_as s.control_on id → concat frames.pieces ≡ s.peer.unread → LendsFrames now id (Some frames)
lends_control s now id frames view is bytes = lends_at s now id (Some frames) true view is (ap Some bytes)

pub lends_stream : (s now : EndpointState) (id : ℕ) (lent : Option UnreadFrames) → s ≡ now → false ≡ is_read_as s.control_on id
    → option_map (λ frames. frames.pieces) lent ≡ option_map (λ r. r.incoming.unread) (kept_at s.requests id) → LendsFrames now id lent
lends_stream s now id lent view is there = lends_at s now id lent false view is there
