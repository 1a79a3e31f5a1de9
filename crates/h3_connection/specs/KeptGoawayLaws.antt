-- A reading of the peer's control stream looks at the last id alone: what is kept reads as the whole would.
use Rattle.std.proofs.Common.{◌≡◌, ℕ, zero, suc, Bool, true, false, if◌then◌else◌, ◌||◌, List, [], ◌∷◌, ◌++◌, length, Option, Some, None, refl, ap, sym, ◌∙◌}
use Rattle.h3_proto.specs.declared.stream.Side.{Side}
use Rattle.h3_proto.specs.declared.stream.Side.TheVariants.{Client, Server}
use Rattle.h3_frames.specs.ExcessiveFrames.{is_excessive_by}
use Rattle.h3_frames.specs.Frames.{Front, Whole, Unknown, Refused, Unfinished, frame_by}
use Rattle.h3_frames.specs.Known.{known_by}
use Rattle.h3_priority.specs.Priority.{PriorityParameters, priority_of}
use Rattle.h3_frames.specs.Update.{Update}
use Rattle.h3_frames.specs.declared.proto.frame.PayloadLen.{PayloadLen}
use Rattle.h3_frames.specs.declared.proto.frame.Frame.{Frame}
use Rattle.h3_frames.specs.declared.proto.frame.Frame.TheVariants as frame
use Rattle.h3_connection.specs.Codes.{excessive_load, id_error}
use Rattle.h3_connection.specs.KeptGoaways.{alone, kept_goaways, kept_peer, kept_found}
use Rattle.h3_connection.specs.Lasts.{last_id}
use Rattle.h3_connection.specs.LastLaws.{last_appended}
use Rattle.h3_connection.specs.PeerReading.{Peer, PeerFound, with_unread, having_frame, is_above, is_below, is_no_element, is_no_goaway, read_goaway, read_max_push, read_priority, read_update, read_frame, unless_fault, at_front, read_within, read_peer}
use Rattle.h3_connection.specs.Updates.{with_update}
use Rattle.h3_frames.specs.declared.frame.kinds.FrameKinds.{FrameKinds}

last_alone : (o : Option ℕ) → last_id (alone o) ≡ o
last_alone None = refl
last_alone (Some id) = refl

-- the last id is kept
pub last_kept : (last : Bool) (ids : List ℕ) → last_id (kept_goaways last ids) ≡ last_id ids
last_kept true ids = last_alone (last_id ids)
last_kept false ids = refl

-- of what is kept all is kept
pub kept_twice : (last : Bool) (ids : List ℕ) → kept_goaways last (kept_goaways last ids) ≡ kept_goaways last ids
kept_twice true ids = ap alone (last_alone (last_id ids))
kept_twice false ids = refl

-- and with one more
pub kept_more : (last : Bool) (ids : List ℕ) (id : ℕ) → kept_goaways last (kept_goaways last ids ++ id ∷ []) ≡ kept_goaways last (ids ++ id ∷ [])
kept_more true ids id = ap alone (last_appended (alone (last_id ids)) id ∙ sym (last_appended ids id))
kept_more false ids id = refl

pub peer_twice : (last : Bool) (p : Peer) → kept_peer last (kept_peer last p) ≡ kept_peer last p
peer_twice last p = ap (λ ids. record p { goaways = ids }) (kept_twice last p.goaways)

-- a finding that says nothing of GOAWAY frames
same_found : (last : Bool) (p : Peer) (fault : Option ℕ) → kept_found last (kept_peer last p, fault) ≡ kept_found last (p, fault)
same_found last p fault = ap (λ (q : Peer). (let x : PeerFound = (q, fault) in x)) (peer_twice last p)

same_if : (last b : Bool) (x y z w : PeerFound) → kept_found last x ≡ kept_found last z → kept_found last y ≡ kept_found last w → kept_found last (if b then x else y) ≡ kept_found last (if b then z else w)
same_if last true x y z w h k = h
same_if last false x y z w h k = k

-- a GOAWAY frame
goaway_found : (last : Bool) (p : Peer) (id : ℕ) → kept_found last (record (kept_peer last p) { goaways = kept_goaways last p.goaways ++ id ∷ [] }, None) ≡ kept_found last (record p { goaways = p.goaways ++ id ∷ [] }, None)
goaway_found last p id = ap (λ ids. (let x : PeerFound = (record p { goaways = ids }, None) in x)) (kept_more last p.goaways id)

goaway_same : (last : Bool) (side : Side) (p : Peer) (id : ℕ) → kept_found last (read_goaway side (kept_peer last p) id) ≡ kept_found last (read_goaway side p id)
goaway_same last side p id =
    ap (λ o. kept_found last (if is_no_goaway side id || is_above id o then (kept_peer last p, Some id_error) else (record (kept_peer last p) { goaways = kept_goaways last p.goaways ++ id ∷ [] }, None))) (last_kept last p.goaways)
    ∙ same_if last (is_no_goaway side id || is_above id (last_id p.goaways)) (kept_peer last p, Some id_error) _ (p, Some id_error) _ (same_found last p (Some id_error)) (goaway_found last p id)

-- a MAX_PUSH_ID frame
push_same : (last : Bool) (side : Side) (p : Peer) (id : ℕ) → kept_found last (read_max_push side (kept_peer last p) id) ≡ kept_found last (read_max_push side p id)
push_same last Client p id = same_found last p _
push_same last Server p id = same_if last (is_below id p.most_pushes) _ _ _ _ (same_found last p _) (same_found last (record p { most_pushes = Some id }) None)

-- a PRIORITY_UPDATE frame
update_same : (last : Bool) (side : Side) (p : Peer) (u : Update) → kept_found last (read_update side (kept_peer last p) u) ≡ kept_found last (read_update side p u)
update_same last Client p u = same_found last p _
update_same last Server p u = same_if last (is_no_element u) _ _ _ _ (same_found last p _) (by_text (priority_of u.value))
  where
    by_text : (o : Option PriorityParameters) → kept_found last (read_priority (kept_peer last p) u.id o) ≡ kept_found last (read_priority p u.id o)
    by_text None = same_found last p _
    by_text (Some priority) = same_found last (record p { updates = with_update p.updates u.id priority }) None

-- any frame
frame_same : (last : Bool) (side : Side) (p : Peer) (o : Option (List (ℕ × ℕ))) (f : Frame PayloadLen) → kept_found last (read_frame side (kept_peer last p) o f) ≡ kept_found last (read_frame side p o f)
frame_same last side p None (frame.Data len) = same_found last p _
frame_same last side p None (frame.Headers section) = same_found last p _
frame_same last side p None (frame.CancelPush id) = same_found last p _
frame_same last side p None (frame.Settings pairs) = same_found last (record p { settings = Some pairs }) _
frame_same last side p None (frame.PushPromise promise) = same_found last p _
frame_same last side p None (frame.PriorityUpdate u) = same_found last p _
frame_same last side p None (frame.Goaway id) = same_found last p _
frame_same last side p None (frame.MaxPushId id) = same_found last p _
frame_same last side p None (frame.WebTransportStream id) = same_found last p _
frame_same last side p None (frame.Grease kind) = same_found last p _
frame_same last side p (Some pairs) (frame.Data len) = same_found last p _
frame_same last side p (Some pairs) (frame.Headers section) = same_found last p _
frame_same last side p (Some pairs) (frame.CancelPush id) = same_found last p _
frame_same last side p (Some pairs) (frame.Settings others) = same_found last p _
frame_same last side p (Some pairs) (frame.PushPromise promise) = same_found last p _
frame_same last side p (Some pairs) (frame.PriorityUpdate u) = update_same last side p u
frame_same last side p (Some pairs) (frame.Goaway id) = goaway_same last side p id
frame_same last side p (Some pairs) (frame.MaxPushId id) = push_same last side p id
frame_same last side p (Some pairs) (frame.WebTransportStream id) = same_found last p _
frame_same last side p (Some pairs) (frame.Grease kind) = same_found last p _

-- and what follows it
then_same : (last : Bool) (x y : PeerFound) (go : Peer → PeerFound) → ((q : Peer) → kept_found last (go (kept_peer last q)) ≡ kept_found last (go q)) → kept_found last x ≡ kept_found last y → kept_found last (unless_fault x go) ≡ kept_found last (unless_fault y go)
then_same last (p, Some code) (q, Some other) go alike h = h
then_same last (p, None) (q, None) go alike h = sym (alike p) ∙ ap (λ (x : PeerFound). kept_found last (go x.0)) h ∙ alike q
then_same last (p, Some code) (q, None) go alike h = let wrong : Some code ≡ None = ap (λ (x : PeerFound). x.1) h in absurd (cc)
then_same last (p, None) (q, Some code) go alike h = let wrong : None ≡ Some code = ap (λ (x : PeerFound). x.1) h in absurd (cc)

front_same : (last : Bool) (go : Peer → PeerFound) (side : Side) (p : Peer) (bytes : List ℕ) (x : Front) → ((q : Peer) → kept_found last (go (kept_peer last q)) ≡ kept_found last (go q)) → kept_found last (at_front go side (kept_peer last p) bytes x) ≡ kept_found last (at_front go side p bytes x)
front_same last go side p bytes (Whole f rest) alike = then_same last _ _ go alike (frame_same last side (having_frame p f bytes rest) p.settings f)
front_same last go side p bytes (Refused e) alike = same_found last (with_unread p bytes) _
front_same last go side p bytes (Unknown kind rest) alike = same_found last (with_unread p bytes) None
front_same last go side p bytes (Unfinished least) alike = same_found last (with_unread p bytes) None

within_same : (kinds : FrameKinds) (most : ℕ) (last : Bool) (limit : ℕ) (side : Side) (p : Peer) → kept_found last (read_within kinds most limit side (kept_peer last p)) ≡ kept_found last (read_within kinds most limit side p)
within_same kinds zero last limit side p = same_found last p None
within_same kinds (suc most) last limit side p =
    same_if last (is_excessive_by kinds limit (known_by kinds p.unread)) _ _ _ _ (same_found last (with_unread p []) (Some excessive_load))
    (front_same last (read_within kinds most limit side) side p (known_by kinds p.unread) (frame_by kinds (known_by kinds p.unread)) (within_same kinds most last limit side))

-- all that came
pub reads_alike : (kinds : FrameKinds) (last : Bool) (limit : ℕ) (side : Side) (p : Peer) → kept_found last (read_peer kinds limit side (kept_peer last p)) ≡ kept_found last (read_peer kinds limit side p)
unfolding read_peer
reads_alike kinds last limit side p = within_same kinds (length p.unread) last limit side p
