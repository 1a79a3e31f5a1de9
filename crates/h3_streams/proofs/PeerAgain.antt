-- A control stream that was read whole, without a fault, gives nothing more; and settings that came stay.
use Rattle.std.proofs.Common.{◌≡◌, ℕ, zero, suc, ◌<◌, Bool, true, false, if◌then◌else◌, List, length, Option, Some, None, refl, ap, sym, ◌∙◌, subst, arith}
use Rattle.h3_proto.specs.declared.stream.Side.{Side}
use Rattle.h3_proto.specs.declared.stream.Side.TheVariants.{Client, Server}
use Rattle.h3_frames.specs.ExcessiveFrames.{is_excessive_by}
use Rattle.h3_frames.specs.Frames.{Front, Whole, Unknown, Refused, Unfinished, frame_by}
use Rattle.h3_frames.specs.Known.{known_by, IsWaiting}
use Rattle.h3_frames.specs.KnownLaws.{known_is, known_known}
use Rattle.h3_frames.specs.Fronts.{IsKnown}
use Rattle.h3_frames.specs.declared.proto.frame.PayloadLen.{PayloadLen}
use Rattle.h3_frames.specs.declared.proto.frame.Frame.{Frame}
use Rattle.h3_frames.specs.declared.proto.frame.Frame.TheVariants as frame
use Rattle.h3_connection.specs.PeerReading.{Peer, PeerFound, having_frame, with_unread, read_max_push, read_frame, unless_fault, at_front, read_peer}
use Rattle.h3_connection.specs.PeerReadingLaws.{peer_step, step_excessive, step_within, frame_keeps, update_settings}
use Rattle.h3_connection.specs.SkippingLaws.{rest_shorter}
use Rattle.h3_unidirectional.specs.PeerLaws.{peer_waits}
use Rattle.h3_frames.specs.declared.frame.kinds.FrameKinds.{FrameKinds}

-- what holds of both ways
if_both : (P : PeerFound → Type 0) (b : Bool) (x y : PeerFound) → P x → P y → P (if b then x else y)
if_both P true x y h k = h
if_both P false x y h k = k

abbrev Keeps : Peer → PeerFound → Type 0
Keeps p x = x.0.settings ≡ None → p.settings ≡ None

push_keeps : (side : Side) (p : Peer) (id : ℕ) → Keeps p (read_max_push side p id)
push_keeps Client p id h = h
push_keeps Server p id h = if_both (Keeps p) _ _ _ (λ k. k) (λ k. k) h

-- a frame takes no settings back
settings_kept : (side : Side) (p : Peer) (f : Frame PayloadLen) (o : Option (List (ℕ × ℕ))) → p.settings ≡ o → Keeps p (read_frame side p o f)
settings_kept side p f None is h = is
settings_kept side p (frame.Data len) (Some pairs) is h = h
settings_kept side p (frame.Headers section) (Some pairs) is h = h
settings_kept side p (frame.CancelPush id) (Some pairs) is h = h
settings_kept side p (frame.Settings others) (Some pairs) is h = h
settings_kept side p (frame.PushPromise promise) (Some pairs) is h = h
settings_kept side p (frame.PriorityUpdate u) (Some pairs) is h = sym (update_settings side p u) ∙ h
settings_kept side p (frame.Goaway id) (Some pairs) is h = if_both (Keeps p) _ _ _ (λ k. k) (λ k. k) h
settings_kept side p (frame.MaxPushId id) (Some pairs) is h = push_keeps side p id h
settings_kept side p (frame.WebTransportStream id) (Some pairs) is h = h
settings_kept side p (frame.Grease kind) (Some pairs) is h = h

-- by how many bytes are unread
along_within : (P : Peer → Type 0) → ((p : Peer) → ((q : Peer) → length q.unread < length p.unread → P q) → P p) → (n : ℕ) (p : Peer) → length p.unread < n → P p
along_within P step zero p few = absurd (omega (arith, few))
along_within P step (suc n) p few = step p (λ q less. along_within P step n q (omega (arith, few, less)))

along : (P : Peer → Type 0) → ((p : Peer) → ((q : Peer) → length q.unread < length p.unread → P q) → P p) → (p : Peer) → P p
along P step p = along_within P step (suc (length p.unread)) p (omega arith)

-- a peer after a frame has fewer bytes
fewer_after : (kinds : FrameKinds) (side : Side) (p : Peer) (f : Frame PayloadLen) (rest : List ℕ) → frame_by kinds (known_by kinds p.unread) ≡ Whole f rest → length (read_frame side (having_frame p f (known_by kinds p.unread) rest) p.settings f).0.unread < length p.unread
fewer_after kinds side p f rest is =
    let size : length (read_frame side (having_frame p f (known_by kinds p.unread) rest) p.settings f).0.unread ≡ length rest = ap length (frame_keeps side (having_frame p f (known_by kinds p.unread) rest) p.settings f) in
    omega (arith, rest_shorter kinds p.unread rest f is, size)

-- what is found behind a frame
kept_behind : (p : Peer) (x : PeerFound) (go : Peer → PeerFound) → Keeps p x → (Keeps x.0 (go x.0)) → Keeps p (unless_fault x go)
kept_behind p (q, Some code) go h k = h
kept_behind p (q, None) go h k = λ later. h (k later)

settings_front : (kinds : FrameKinds) (limit : ℕ) (side : Side) (p : Peer) (x : Front) → frame_by kinds (known_by kinds p.unread) ≡ x → ((q : Peer) → length q.unread < length p.unread → Keeps q (read_peer kinds limit side q))
    → Keeps p (at_front (read_peer kinds limit side) side p (known_by kinds p.unread) x)
settings_front kinds limit side p (Whole f rest) is each =
    kept_behind p (read_frame side (having_frame p f (known_by kinds p.unread) rest) p.settings f) (read_peer kinds limit side) (settings_kept side (having_frame p f (known_by kinds p.unread) rest) f p.settings refl)
    (each (read_frame side (having_frame p f (known_by kinds p.unread) rest) p.settings f).0 (fewer_after kinds side p f rest is))
settings_front kinds limit side p (Unknown kind rest) is each = λ h. h
settings_front kinds limit side p (Refused e) is each = λ h. h
settings_front kinds limit side p (Unfinished least) is each = λ h. h

-- Settings that came stay.
pub settings_stay : (kinds : FrameKinds) (limit : ℕ) (side : Side) (p : Peer) → (read_peer kinds limit side p).0.settings ≡ None → p.settings ≡ None
settings_stay kinds limit side =
    along (λ p. Keeps p (read_peer kinds limit side p))
    (λ p each. rw (peer_step kinds limit side p) (if_both (Keeps p) (is_excessive_by kinds limit (known_by kinds p.unread)) _ _ (λ h. h) (settings_front kinds limit side p (frame_by kinds (known_by kinds p.unread)) refl each)))

abbrev Again : FrameKinds → ℕ → Side → PeerFound → Type 0
Again kinds limit side x = x.1 ≡ None → read_peer kinds limit side x.0 ≡ (x.0, None)

again_behind : (kinds : FrameKinds) (limit : ℕ) (side : Side) (x : PeerFound) → Again kinds limit side (read_peer kinds limit side x.0) → Again kinds limit side (unless_fault x (read_peer kinds limit side))
again_behind kinds limit side (q, Some code) h = λ none. absurd (cc)
again_behind kinds limit side (q, None) h = h

again_front : (kinds : FrameKinds) (limit : ℕ) (side : Side) (p : Peer) (x : Front) → frame_by kinds (known_by kinds p.unread) ≡ x → is_excessive_by kinds limit (known_by kinds p.unread) ≡ false
    → ((q : Peer) → length q.unread < length p.unread → Again kinds limit side (read_peer kinds limit side q)) → Again kinds limit side (at_front (read_peer kinds limit side) side p (known_by kinds p.unread) x)
again_front kinds limit side p (Whole f rest) is small each =
    again_behind kinds limit side (read_frame side (having_frame p f (known_by kinds p.unread) rest) p.settings f) (each (read_frame side (having_frame p f (known_by kinds p.unread) rest) p.settings f).0 (fewer_after kinds side p f rest is))
again_front kinds limit side p (Unknown kind rest) is small each = λ none. absurd (subst IsKnown is (known_is kinds p.unread))
again_front kinds limit side p (Refused e) is small each = λ none. absurd (cc)
again_front kinds limit side p (Unfinished least) is small each =
    λ none. peer_waits kinds limit side (with_unread p (known_by kinds p.unread)) (known_by kinds p.unread) (ap (is_excessive_by kinds limit) (known_known kinds p.unread) ∙ small) (sym (known_known kinds p.unread)) (subst IsWaiting (sym is) tt)

again_by : (kinds : FrameKinds) (large : Bool) (limit : ℕ) (side : Side) (p : Peer) → is_excessive_by kinds limit (known_by kinds p.unread) ≡ large → ((q : Peer) → length q.unread < length p.unread → Again kinds limit side (read_peer kinds limit side q))
    → Again kinds limit side (read_peer kinds limit side p)
again_by kinds true limit side p e each = rw (step_excessive kinds limit side p e) (λ none. absurd (cc))
again_by kinds false limit side p e each = rw (step_within kinds limit side p e) (again_front kinds limit side p (frame_by kinds (known_by kinds p.unread)) refl e each)

-- What was read whole gives nothing more.
pub read_again : (kinds : FrameKinds) (limit : ℕ) (side : Side) (p : Peer) → (read_peer kinds limit side p).1 ≡ None → read_peer kinds limit side (read_peer kinds limit side p).0 ≡ ((read_peer kinds limit side p).0, None)
read_again kinds limit side = along (λ p. Again kinds limit side (read_peer kinds limit side p)) (λ p each. again_by kinds (is_excessive_by kinds limit (known_by kinds p.unread)) limit side p refl each)
