-- What a peer's control stream says is read alike where none of its PRIORITY_UPDATE frames is kept.
use Rattle.std.proofs.Common.{◌≡◌, ℕ, zero, suc, Bool, true, false, if◌then◌else◌, List, [], ◌∷◌, ◌++◌, refl, ap, ◌∙◌, length, Option, Some, None}
use Rattle.std.specs.Prelude.{◌||◌}
use Rattle.h3_priority.specs.Priority.{PriorityParameters, priority_of}
use Rattle.h3_proto.specs.declared.stream.Side.{Side}
use Rattle.h3_proto.specs.declared.stream.Side.TheVariants.{Client, Server}
use Rattle.h3_frames.specs.ExcessiveFrames.{is_excessive_by}
use Rattle.h3_frames.specs.Frames.{Front, Whole, Unknown, Refused, Unfinished, frame_by}
use Rattle.h3_frames.specs.Known.{known_by}
use Rattle.h3_frames.specs.Update.{Update}
use Rattle.h3_frames.specs.declared.frame.kinds.FrameKinds.{FrameKinds}
use Rattle.h3_frames.specs.declared.proto.frame.PayloadLen.{PayloadLen}
use Rattle.h3_frames.specs.declared.proto.frame.Frame.{Frame}
use Rattle.h3_frames.specs.declared.proto.frame.Frame.TheVariants as frame
use Rattle.h3_connection.specs.Codes.{excessive_load, id_error}
use Rattle.h3_connection.specs.Lasts.{last_id}
use Rattle.h3_connection.specs.PeerReading.{Peer, PeerFound, at_front, having_frame, is_above, is_below, is_no_element, is_no_goaway, read_frame, read_goaway, read_max_push, read_peer, read_priority, read_update, read_within, unless_excessive, unless_fault, with_unread}
use Rattle.h3_connection.specs.Updates.{no_updates}

abbrev pub unheard : Peer → Peer
unheard p = record p { updates = no_updates 0 }

abbrev pub so_heard : PeerFound → PeerFound
so_heard (p, fault) = (unheard p, fault)

heard_if : (b : Bool) (one two : PeerFound) → (if b then so_heard one else so_heard two) ≡ so_heard (if b then one else two)
heard_if true one two = refl
heard_if false one two = refl

-- a frame
goaway_unheard : (side : Side) (p : Peer) (id : ℕ) → read_goaway side (unheard p) id ≡ so_heard (read_goaway side p id)
goaway_unheard side p id = heard_if (is_no_goaway side id || is_above id (last_id p.goaways)) (p, Some id_error) (record p { goaways = p.goaways ++ id ∷ [] }, None)

max_push_unheard : (side : Side) (p : Peer) (id : ℕ) → read_max_push side (unheard p) id ≡ so_heard (read_max_push side p id)
max_push_unheard Client p id = refl
max_push_unheard Server p id = heard_if (is_below id p.most_pushes) (p, Some id_error) (record p { most_pushes = Some id }, None)

priority_unheard : (p : Peer) (id : ℕ) (o : Option PriorityParameters) → read_priority (unheard p) id o ≡ so_heard (read_priority p id o)
priority_unheard p id None = refl
priority_unheard p id (Some priority) = refl

update_unheard : (side : Side) (p : Peer) (u : Update) → read_update side (unheard p) u ≡ so_heard (read_update side p u)
update_unheard Client p u = refl
update_unheard Server p u =
    ap (λ x. if is_no_element u then (unheard p, Some id_error) else x) (priority_unheard p u.id (priority_of u.value))
    ∙ heard_if (is_no_element u) (p, Some id_error) (read_priority p u.id (priority_of u.value))

frame_unheard : (side : Side) (p : Peer) (settings : Option (List (ℕ × ℕ))) (f : Frame PayloadLen) → read_frame side (unheard p) settings f ≡ so_heard (read_frame side p settings f)
frame_unheard side p None (frame.Data payload) = refl
frame_unheard side p None (frame.Headers section) = refl
frame_unheard side p None (frame.CancelPush id) = refl
frame_unheard side p None (frame.Settings pairs) = refl
frame_unheard side p None (frame.PushPromise promise) = refl
frame_unheard side p None (frame.PriorityUpdate u) = refl
frame_unheard side p None (frame.Goaway id) = refl
frame_unheard side p None (frame.MaxPushId id) = refl
frame_unheard side p None (frame.WebTransportStream session) = refl
frame_unheard side p None (frame.Grease kind) = refl
frame_unheard side p (Some known) (frame.Data payload) = refl
frame_unheard side p (Some known) (frame.Headers section) = refl
frame_unheard side p (Some known) (frame.CancelPush id) = refl
frame_unheard side p (Some known) (frame.Settings pairs) = refl
frame_unheard side p (Some known) (frame.PushPromise promise) = refl
frame_unheard side p (Some known) (frame.PriorityUpdate u) = update_unheard side p u
frame_unheard side p (Some known) (frame.Goaway id) = goaway_unheard side p id
frame_unheard side p (Some known) (frame.MaxPushId id) = max_push_unheard side p id
frame_unheard side p (Some known) (frame.WebTransportStream session) = refl
frame_unheard side p (Some known) (frame.Grease kind) = refl

-- what follows
goes_unheard : (go : Peer → PeerFound) → ((p : Peer) → go (unheard p) ≡ so_heard (go p)) → (found : PeerFound) → unless_fault (so_heard found) go ≡ so_heard (unless_fault found go)
goes_unheard go later (p, Some code) = refl
goes_unheard go later (p, None) = later p

front_unheard : (go : Peer → PeerFound) → ((p : Peer) → go (unheard p) ≡ so_heard (go p)) → (side : Side) (p : Peer) (bytes : List ℕ) (f : Front) → at_front go side (unheard p) bytes f ≡ so_heard (at_front go side p bytes f)
front_unheard go later side p bytes (Whole f rest) =
    let q = having_frame p f bytes rest in
    ap (λ x. unless_fault x go) (frame_unheard side q p.settings f) ∙ goes_unheard go later (read_frame side q p.settings f)
front_unheard go later side p bytes (Unknown kind rest) = refl
front_unheard go later side p bytes (Refused e) = refl
front_unheard go later side p bytes (Unfinished least) = refl

excessive_unheard : (kinds : FrameKinds) (limit : ℕ) (bytes : List ℕ) (p : Peer) (found : PeerFound) → unless_excessive kinds limit bytes (unheard p) (so_heard found) ≡ so_heard (unless_excessive kinds limit bytes p found)
excessive_unheard kinds limit bytes p found = heard_if (is_excessive_by kinds limit bytes) (with_unread p [], Some excessive_load) found

within_unheard : (kinds : FrameKinds) (most limit : ℕ) (side : Side) (p : Peer) → read_within kinds most limit side (unheard p) ≡ so_heard (read_within kinds most limit side p)
within_unheard kinds zero limit side p = refl
within_unheard kinds (suc most) limit side p =
    let bytes = known_by kinds p.unread in
    let go = read_within kinds most limit side in
    ap (λ x. unless_excessive kinds limit bytes (unheard p) x) (front_unheard go (λ q. within_unheard kinds most limit side q) side p bytes (frame_by kinds bytes))
    ∙ excessive_unheard kinds limit bytes p (at_front go side p bytes (frame_by kinds bytes))

-- **All frames that came are read alike.**
pub peer_unheard : (kinds : FrameKinds) (limit : ℕ) (side : Side) (p : Peer) → read_peer kinds limit side (unheard p) ≡ so_heard (read_peer kinds limit side p)
unfolding read_peer
peer_unheard kinds limit side p = within_unheard kinds (length p.unread) limit side p
