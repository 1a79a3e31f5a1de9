-- The reading of a control stream, step by step.
use Rattle.std.proofs.Common.{◌≡◌, ℕ, zero, suc, ◌≤◌, Bool, true, false, if◌then◌else◌, List, [], length, Option, Some, None, refl, ap, sym, ◌∙◌, arith}
use Rattle.std.specs.Prelude.{◌||◌, ◌&&◌}
use Rattle.h3_coding.specs.Varint.{varint_at}
use Rattle.h3_proto.specs.Config.{is_limit}
use Rattle.std.proofs.lemmas.List.{nil_from_length}
use Rattle.h3_coding.specs.VarintLaws.{none_at_end}
use Rattle.h3_proto.specs.declared.stream.Side.{Side}
use Rattle.h3_proto.specs.declared.stream.Side.TheVariants.{Client, Server}
use Rattle.h3_frames.specs.ExcessiveFrames.{is_excessive_by, says_long_update, says_too_much}
use Rattle.h3_frames.specs.ExcessiveLaws.{no_kind}
use Rattle.h3_frames.specs.Frames.{Front, Whole, Unknown, Refused, Unfinished, frame_by}
use Rattle.h3_frames.specs.FrameLaws.{frame_by-nil}
use Rattle.h3_frames.specs.Known.{known_by}
use Rattle.h3_priority.specs.Priority.{PriorityParameters, priority_of}
use Rattle.h3_frames.specs.Update.{Update}
use Rattle.h3_frames.specs.declared.proto.frame.PayloadLen.{PayloadLen}
use Rattle.h3_frames.specs.declared.proto.frame.Frame.{Frame}
use Rattle.h3_frames.specs.declared.proto.frame.Frame.TheVariants as frame
use Rattle.h3_connection.specs.Codes.{excessive_load}
use Rattle.h3_connection.specs.Lasts.{last_id}
use Rattle.h3_connection.specs.PeerReading.{Peer, PeerFound, with_unread, having_frame, is_no_element, is_no_goaway, is_above, is_below, read_max_push, read_priority, read_update, read_frame, unless_fault, at_front, unless_excessive, read_within, read_peer}
use Rattle.h3_connection.specs.SkippingLaws.{rest_shorter, known-nil}
use Rattle.h3_frames.specs.declared.frame.kinds.FrameKinds.{FrameKinds}

kept_if : (b : Bool) (x y : PeerFound) (bytes : List ℕ) → x.0.unread ≡ bytes → y.0.unread ≡ bytes → (if b then x else y).0.unread ≡ bytes
kept_if true x y bytes e f = e
kept_if false x y bytes e f = f

push_keeps : (side : Side) (p : Peer) (id : ℕ) → (read_max_push side p id).0.unread ≡ p.unread
push_keeps Client p id = refl
push_keeps Server p id = kept_if _ _ _ p.unread refl refl

update_keeps : (side : Side) (p : Peer) (u : Update) → (read_update side p u).0.unread ≡ p.unread
update_keeps Client p u = refl
update_keeps Server p u = kept_if (is_no_element u) _ _ p.unread refl (by_text (priority_of u.value))
  where
    by_text : (o : Option PriorityParameters) → (read_priority p u.id o).0.unread ≡ p.unread
    by_text None = refl
    by_text (Some priority) = refl

-- a frame changes no bytes
pub frame_keeps : (side : Side) (p : Peer) (o : Option (List (ℕ × ℕ))) (f : Frame PayloadLen) → (read_frame side p o f).0.unread ≡ p.unread
frame_keeps side p None (frame.Data len) = refl
frame_keeps side p None (frame.Headers section) = refl
frame_keeps side p None (frame.CancelPush id) = refl
frame_keeps side p None (frame.Settings pairs) = refl
frame_keeps side p None (frame.PushPromise promise) = refl
frame_keeps side p None (frame.PriorityUpdate u) = refl
frame_keeps side p None (frame.Goaway id) = refl
frame_keeps side p None (frame.MaxPushId id) = refl
frame_keeps side p None (frame.WebTransportStream id) = refl
frame_keeps side p None (frame.Grease kind) = refl
frame_keeps side p (Some pairs) (frame.Data len) = refl
frame_keeps side p (Some pairs) (frame.Headers section) = refl
frame_keeps side p (Some pairs) (frame.CancelPush id) = refl
frame_keeps side p (Some pairs) (frame.Settings others) = refl
frame_keeps side p (Some pairs) (frame.PushPromise promise) = refl
frame_keeps side p (Some pairs) (frame.PriorityUpdate u) = update_keeps side p u
frame_keeps side p (Some pairs) (frame.Goaway id) = kept_if _ _ _ p.unread refl refl
frame_keeps side p (Some pairs) (frame.MaxPushId id) = push_keeps side p id
frame_keeps side p (Some pairs) (frame.WebTransportStream id) = refl
frame_keeps side p (Some pairs) (frame.Grease kind) = refl

unless_same : (x : PeerFound) (go other : Peer → PeerFound) → ((q : Peer) → q ≡ x.0 → go q ≡ other q) → unless_fault x go ≡ unless_fault x other
unless_same (p, Some code) go other h = refl
unless_same (p, None) go other h = h p refl

front_same : (go other : Peer → PeerFound) (side : Side) (p : Peer) (bytes : List ℕ) (x : Front) → ((f : Frame PayloadLen) (rest : List ℕ) → x ≡ Whole f rest → (q : Peer) → q.unread ≡ rest → go q ≡ other q)
    → at_front go side p bytes x ≡ at_front other side p bytes x
front_same go other side p bytes (Whole f rest) h =
    unless_same (read_frame side (having_frame p f bytes rest) p.settings f) go other
    (λ q is. h f rest refl q (ap (λ (x : Peer). x.unread) is ∙ frame_keeps side (having_frame p f bytes rest) p.settings f))
front_same go other side p bytes (Unknown kind rest) h = refl
front_same go other side p bytes (Refused e) h = refl
front_same go other side p bytes (Unfinished least) h = refl

neither : (updates limited : Bool) → ((updates && (limited && false)) || (limited && false)) ≡ false
neither true true = refl
neither true false = refl
neither false true = refl
neither false false = refl

-- where no length is there nothing is too long
pub no_length : (kinds : FrameKinds) (limit : ℕ) (bytes : List ℕ) → says_long_update kinds limit (varint_at bytes) ≡ false → says_too_much limit (varint_at bytes) ≡ false → is_excessive_by kinds limit bytes ≡ false
no_length kinds limit bytes long much =
    ap (λ b. (kinds.updates && (is_limit limit && b)) || (is_limit limit && says_too_much limit (varint_at bytes))) long
    ∙ ap (λ b. (kinds.updates && (is_limit limit && false)) || (is_limit limit && b)) much ∙ neither kinds.updates (is_limit limit)

-- no bytes say a length
none_said : (kinds : FrameKinds) (limit : ℕ) → is_excessive_by kinds limit [] ≡ false
none_said kinds limit = ap (is_excessive_by kinds limit) (sym (known-nil kinds)) ∙ no_kind kinds limit [] none_at_end

nothing_left : (kinds : FrameKinds) (most limit : ℕ) (side : Side) (p : Peer) → p.unread ≡ [] → read_within kinds most limit side p ≡ (p, None)
nothing_left kinds zero limit side p e = refl
nothing_left kinds (suc most) limit side p e =
    let empty : known_by kinds p.unread ≡ [] = ap (known_by kinds) e ∙ known-nil kinds in
    ap (λ bytes. unless_excessive kinds limit bytes p (at_front (read_within kinds most limit side) side p bytes (frame_by kinds bytes))) empty
    ∙ ap (λ b. if b then (with_unread p [], Some excessive_load) else at_front (read_within kinds most limit side) side p [] (frame_by kinds [])) (none_said kinds limit)
    ∙ ap (λ x. at_front (read_within kinds most limit side) side p [] x) (frame_by-nil kinds)
    ∙ ap (λ bytes. (with_unread p bytes, None)) (sym e)

-- no count of steps but the least matters
within_same : (kinds : FrameKinds) (n m limit : ℕ) (side : Side) (p : Peer) → length p.unread ≤ n → length p.unread ≤ m → read_within kinds n limit side p ≡ read_within kinds m limit side p
within_same kinds zero m limit side p h k = sym (nothing_left kinds m limit side p (nil_from_length p.unread (omega (arith, h))))
within_same kinds (suc n) zero limit side p h k = nothing_left kinds (suc n) limit side p (nil_from_length p.unread (omega (arith, k)))
within_same kinds (suc n) (suc m) limit side p h k =
    ap (unless_excessive kinds limit (known_by kinds p.unread) p)
    (front_same (read_within kinds n limit side) (read_within kinds m limit side) side p (known_by kinds p.unread) (frame_by kinds (known_by kinds p.unread))
    (λ f rest e q is.
    let less = rest_shorter kinds p.unread rest f e in
    let size : length q.unread ≡ length rest = ap length is in
    within_same kinds n m limit side q (omega (arith, less, size, h)) (omega (arith, less, size, k))))

-- one frame, and then the rest
pub peer_step : (kinds : FrameKinds) (limit : ℕ) (side : Side) (p : Peer)
    → read_peer kinds limit side p ≡ unless_excessive kinds limit (known_by kinds p.unread) p (at_front (read_peer kinds limit side) side p (known_by kinds p.unread) (frame_by kinds (known_by kinds p.unread)))
unfolding read_peer
peer_step kinds limit side p =
    within_same kinds (length p.unread) (suc (length p.unread)) limit side p (omega arith) (omega arith)
    ∙ ap (unless_excessive kinds limit (known_by kinds p.unread) p)
    (front_same (read_within kinds (length p.unread) limit side) (λ q. read_within kinds (length q.unread) limit side q) side p (known_by kinds p.unread) (frame_by kinds (known_by kinds p.unread))
    (λ f rest e q is.
    let less = rest_shorter kinds p.unread rest f e in
    let size : length q.unread ≡ length rest = ap length is in
    within_same kinds (length p.unread) (length q.unread) limit side q (omega (arith, less, size)) (omega arith)))

-- the same where its length is known to be within the limit, or not
pub step_within : (kinds : FrameKinds) (limit : ℕ) (side : Side) (p : Peer) → is_excessive_by kinds limit (known_by kinds p.unread) ≡ false
    → read_peer kinds limit side p ≡ at_front (read_peer kinds limit side) side p (known_by kinds p.unread) (frame_by kinds (known_by kinds p.unread))
step_within kinds limit side p small =
    peer_step kinds limit side p
    ∙ ap (λ b. if b then (with_unread p [], Some excessive_load) else at_front (read_peer kinds limit side) side p (known_by kinds p.unread) (frame_by kinds (known_by kinds p.unread))) small

pub step_excessive : (kinds : FrameKinds) (limit : ℕ) (side : Side) (p : Peer) → is_excessive_by kinds limit (known_by kinds p.unread) ≡ true → read_peer kinds limit side p ≡ (with_unread p [], Some excessive_load)
step_excessive kinds limit side p large =
    peer_step kinds limit side p
    ∙ ap (λ b. if b then (with_unread p [], Some excessive_load) else at_front (read_peer kinds limit side) side p (known_by kinds p.unread) (frame_by kinds (known_by kinds p.unread))) large

-- no bytes are read
pub nothing_read_on : (kinds : FrameKinds) (limit : ℕ) (side : Side) (p : Peer) → read_peer kinds limit side (with_unread p []) ≡ (with_unread p [], None)
unfolding read_peer
nothing_read_on kinds limit side p = nothing_left kinds 0 limit side (with_unread p []) refl

-- settings that came stay
settings_if : (b : Bool) (x y : PeerFound) (o : Option (List (ℕ × ℕ))) → x.0.settings ≡ o → y.0.settings ≡ o → (if b then x else y).0.settings ≡ o
settings_if true x y o e f = e
settings_if false x y o e f = f

push_settings : (side : Side) (p : Peer) (id : ℕ) → (read_max_push side p id).0.settings ≡ p.settings
push_settings Client p id = refl
push_settings Server p id = settings_if (is_below id p.most_pushes) _ _ p.settings refl refl

pub update_settings : (side : Side) (p : Peer) (u : Update) → (read_update side p u).0.settings ≡ p.settings
update_settings Client p u = refl
update_settings Server p u = settings_if (is_no_element u) _ _ p.settings refl (by_text (priority_of u.value))
  where
    by_text : (o : Option PriorityParameters) → (read_priority p u.id o).0.settings ≡ p.settings
    by_text None = refl
    by_text (Some priority) = refl

frame_settings : (side : Side) (p : Peer) (pairs : List (ℕ × ℕ)) (f : Frame PayloadLen) → (read_frame side p (Some pairs) f).0.settings ≡ p.settings
frame_settings side p pairs (frame.Data len) = refl
frame_settings side p pairs (frame.Headers section) = refl
frame_settings side p pairs (frame.CancelPush id) = refl
frame_settings side p pairs (frame.Settings others) = refl
frame_settings side p pairs (frame.PushPromise promise) = refl
frame_settings side p pairs (frame.PriorityUpdate u) = update_settings side p u
frame_settings side p pairs (frame.Goaway id) = settings_if (is_no_goaway side id || is_above id (last_id p.goaways)) _ _ p.settings refl refl
frame_settings side p pairs (frame.MaxPushId id) = push_settings side p id
frame_settings side p pairs (frame.WebTransportStream id) = refl
frame_settings side p pairs (frame.Grease kind) = refl

stay_found : (pairs : List (ℕ × ℕ)) (x : PeerFound) (go : Peer → PeerFound) → x.0.settings ≡ Some pairs → ((q : Peer) → q.settings ≡ Some pairs → (go q).0.settings ≡ Some pairs) → (unless_fault x go).0.settings ≡ Some pairs
stay_found pairs (q, Some code) go h later = h
stay_found pairs (q, None) go h later = later q h

stay_front : (side : Side) (p : Peer) (pairs : List (ℕ × ℕ)) (bytes : List ℕ) (x : Front) (go : Peer → PeerFound) → p.settings ≡ Some pairs → ((q : Peer) → q.settings ≡ Some pairs → (go q).0.settings ≡ Some pairs)
    → (at_front go side p bytes x).0.settings ≡ Some pairs
stay_front side p pairs bytes (Whole f rest) go h later =
    stay_found pairs (read_frame side (having_frame p f bytes rest) p.settings f) go
    (ap (λ o. (read_frame side (having_frame p f bytes rest) o f).0.settings) h ∙ frame_settings side (having_frame p f bytes rest) pairs f ∙ h) later
stay_front side p pairs bytes (Unknown kind rest) go h later = h
stay_front side p pairs bytes (Refused e) go h later = h
stay_front side p pairs bytes (Unfinished least) go h later = h

pub stay_within : (kinds : FrameKinds) (n limit : ℕ) (side : Side) (p : Peer) (pairs : List (ℕ × ℕ)) → p.settings ≡ Some pairs → (read_within kinds n limit side p).0.settings ≡ Some pairs
stay_within kinds zero limit side p pairs h = h
stay_within kinds (suc n) limit side p pairs h =
    settings_if (is_excessive_by kinds limit (known_by kinds p.unread)) _ _ (Some pairs) h
    (stay_front side p pairs (known_by kinds p.unread) (frame_by kinds (known_by kinds p.unread)) (read_within kinds n limit side) h (λ q is. stay_within kinds n limit side q pairs is))

pub settings_stay : (kinds : FrameKinds) (limit : ℕ) (side : Side) (p : Peer) (pairs : List (ℕ × ℕ)) → p.settings ≡ Some pairs → (read_peer kinds limit side p).0.settings ≡ Some pairs
unfolding read_peer
settings_stay kinds limit side p pairs h = stay_within kinds (length p.unread) limit side p pairs h
