-- The reading of a control stream, step by step.
use Rattle.std.proofs.Common.{◌≡◌, ℕ, false, List, None, refl, ap, sym, ◌∙◌}
use Rattle.h3_proto.specs.declared.stream.Side.{Side}
use Rattle.h3_frames.specs.ExcessiveFrames.{is_excessive_by}
use Rattle.h3_frames.specs.Frames.{Front, Whole, Unknown, Refused, Unfinished, frame_by}
use Rattle.h3_frames.specs.Known.{known_by, IsWaiting}
use Rattle.h3_connection.specs.PeerReadingLaws.{step_within}
use Rattle.h3_connection.specs.PeerReading.{Peer, with_unread, at_front, read_peer}
use Rattle.h3_frames.specs.declared.frame.kinds.FrameKinds.{FrameKinds}

-- the bytes end before a frame
pub peer_waits : (kinds : FrameKinds) (limit : ℕ) (side : Side) (p : Peer) (left : List ℕ) → is_excessive_by kinds limit (known_by kinds p.unread) ≡ false → left ≡ known_by kinds p.unread → IsWaiting (frame_by kinds left) → read_peer kinds limit side p ≡ (with_unread p left, None)
peer_waits kinds limit side p left small is h =
    step_within kinds limit side p small ∙ ap (λ l. at_front (read_peer kinds limit side) side p l (frame_by kinds l)) (sym is) ∙ waits (frame_by kinds left) h
  where
    waits : (x : Front) → IsWaiting x → at_front (read_peer kinds limit side) side p left x ≡ (with_unread p left, None)
    waits (Unfinished least) h = refl
    waits (Whole f rest) h = absurd h
    waits (Unknown kind rest) h = absurd h
    waits (Refused e) h = absurd h
