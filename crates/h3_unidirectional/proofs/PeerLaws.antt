-- The reading of a control stream, step by step.
use Rattle.std.proofs.Common.{◌≡◌, ℕ, List, Some, ap, sym, ◌∙◌, ◌<◌, length, Option, arith, true, None, false}
use Rattle.h3_proto.specs.declared.stream.Side.{Side}
use Rattle.h3_frames.specs.ExcessiveFrames.{is_excessive_by}
use Rattle.h3_frames.specs.Frames.{Refused, frame_by, Whole}
use Rattle.h3_frames.specs.Known.{known_by}
use Rattle.h3_frames.specs.declared.proto.frame.FrameError.{FrameError}
use Rattle.h3_connection.specs.PeerReadingLaws.{step_within, frame_keeps}
use Rattle.h3_connection.specs.PeerReading.{Peer, with_unread, having_frame, at_front, read_peer, refused_code, PeerFound, read_frame, unless_fault}
use Rattle.h3_frames.specs.declared.proto.frame.PayloadLen.{PayloadLen}
use Rattle.h3_frames.specs.declared.proto.frame.Frame.{Frame}
use Rattle.h3_connection.specs.SkippingLaws.{rest_shorter}
use Rattle.std.specs.Option.{is_some}
use Rattle.h3_frames.specs.declared.frame.kinds.FrameKinds.{FrameKinds}

-- a frame is refused
pub peer_refused : (kinds : FrameKinds) (limit : ℕ) (side : Side) (p : Peer) (left : List ℕ) (e : FrameError) → is_excessive_by kinds limit (known_by kinds p.unread) ≡ false → left ≡ known_by kinds p.unread → frame_by kinds left ≡ Refused e
    → read_peer kinds limit side p ≡ (with_unread p left, Some (refused_code p.settings e))
peer_refused kinds limit side p left e small is h =
    step_within kinds limit side p small ∙ ap (λ l. at_front (read_peer kinds limit side) side p l (frame_by kinds l)) (sym is) ∙ ap (λ x. at_front (read_peer kinds limit side) side p left x) h

pub peer_frame : (kinds : FrameKinds) (limit : ℕ) (side : Side) (p : Peer) (f : Frame PayloadLen) (rest : List ℕ) (x : PeerFound) → is_excessive_by kinds limit (known_by kinds p.unread) ≡ false → frame_by kinds (known_by kinds p.unread) ≡ Whole f rest
    → read_frame side (having_frame p f (known_by kinds p.unread) rest) p.settings f ≡ x → read_peer kinds limit side p ≡ unless_fault x (read_peer kinds limit side)
peer_frame kinds limit side p f rest x small h e =
    step_within kinds limit side p small ∙ ap (λ y. at_front (read_peer kinds limit side) side p (known_by kinds p.unread) y) h ∙ ap (λ y. unless_fault y (read_peer kinds limit side)) e

-- a frame is a fault
pub peer_fault : (kinds : FrameKinds) (limit : ℕ) (side : Side) (p new : Peer) (f : Frame PayloadLen) (rest : List ℕ) (code : ℕ) → is_excessive_by kinds limit (known_by kinds p.unread) ≡ false → frame_by kinds (known_by kinds p.unread) ≡ Whole f rest
    → read_frame side (having_frame p f (known_by kinds p.unread) rest) p.settings f ≡ (new, Some code) → read_peer kinds limit side p ≡ (new, Some code)
peer_fault kinds limit side p new f rest code small h e = peer_frame kinds limit side p f rest (new, Some code) small h e

-- fewer bytes are left then
pub peer_less : (kinds : FrameKinds) (side : Side) (p new : Peer) (f : Frame PayloadLen) (rest : List ℕ) (fault : Option ℕ) → frame_by kinds (known_by kinds p.unread) ≡ Whole f rest → read_frame side (having_frame p f (known_by kinds p.unread) rest) p.settings f ≡ (new, fault) → length new.unread < length p.unread
peer_less kinds side p new f rest fault h e =
    let less = rest_shorter kinds p.unread rest f h in
    let same : new.unread ≡ rest = ap (λ (x : PeerFound). x.0.unread) (sym e) ∙ frame_keeps side (having_frame p f (known_by kinds p.unread) rest) p.settings f in
    omega (arith, less, ap length same)

-- a frame is judged by whether the settings came
pub judged_later : (side : Side) (p : Peer) (o : Option (List (ℕ × ℕ))) (f : Frame PayloadLen) (x : PeerFound) → is_some o ≡ true
    → ((pairs : List (ℕ × ℕ)) → read_frame side p (Some pairs) f ≡ x) → read_frame side p o f ≡ x
judged_later side p None f x e h = absurd (cc)
judged_later side p (Some pairs) f x e h = h pairs

pub judged_first : (side : Side) (p : Peer) (o : Option (List (ℕ × ℕ))) (f : Frame PayloadLen) (x : PeerFound) → is_some o ≡ false → read_frame side p None f ≡ x → read_frame side p o f ≡ x
judged_first side p None f x e h = h
judged_first side p (Some pairs) f x e h = absurd (cc)
