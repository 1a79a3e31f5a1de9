-- What is read of a control stream by its front.
use Rattle.std.proofs.Common.{◌≡◌, ℕ, ◌<◌, Bool, true, false, if◌then◌else◌, List, [], ◌∷◌, ◌++◌, append-nil, append_assoc, length, Option, Some, None, Result, Ok, Err, refl, ap, sym, ◌∙◌, subst}
use Rattle.std.specs.Prelude.{OnOk}
use Rattle.h3_proto.specs.declared.stream.Side.{Side}
use Rattle.h3_proto.specs.declared.stream.Side.TheVariants.{Client, Server}
use Rattle.h3_frames.specs.ExcessiveFrames.{is_excessive_by}
use Rattle.h3_frames.specs.ExcessiveLaws.{excessive_more}
use Rattle.h3_frames.specs.Frames.{Front, Whole, Unknown, Refused, Unfinished, frame_by}
use Rattle.h3_frames.specs.Known.{known_by, Gives}
use Rattle.h3_frames.specs.declared.frame.errors.FrameStreamError.{FrameStreamError}
use Rattle.h3_frames.specs.declared.frame.errors.FrameStreamError.TheVariants as stream
use Rattle.h3_frames.specs.KnownLaws.{known-other}
use Rattle.h3_frames.specs.Fronts.{IsFinished, IsKnown}
use Rattle.h3_priority.specs.Priority.{PriorityParameters, priority_of}
use Rattle.h3_frames.specs.Update.{Update}
use Rattle.h3_frames.specs.declared.proto.frame.PayloadLen.{PayloadLen}
use Rattle.h3_frames.specs.declared.proto.frame.Frame.{Frame}
use Rattle.h3_frames.specs.declared.proto.frame.Frame.TheVariants as frame
use Rattle.h3_connection.specs.Codes.{excessive_load, id_error}
use Rattle.h3_connection.specs.OtherSettings.{with_others}
use Rattle.h3_connection.specs.OtherSettingsLaws.{others_more}
use Rattle.h3_connection.specs.PeerReading.{Peer, PeerFound, having_frame, with_unread, is_no_element, read_max_push, read_priority, read_update, read_frame, at_front, unless_excessive, read_peer}
use Rattle.h3_connection.specs.Updates.{Updates, with_update}
use Rattle.h3_unidirectional.proofs.PeerLaws.{peer_frame, peer_fault, peer_less}
use Rattle.h3_unidirectional.specs.Fronts.{ReadsFront}
use Rattle.h3_unidirectional.specs.Judged.{TellsOthers, others_by}
use Rattle.h3_unidirectional.proofs.OthersTold.{having_as, having_settings, tells_kept}
use Rattle.h3_unidirectional.proofs.FrameFronts.{Precedes, followed_by, frame_front, unknown_front}
use Rattle.h3_connection.specs.PeerReadingLaws.{frame_keeps, peer_step, step_excessive}
use Rattle.h3_frames.specs.declared.frame.kinds.FrameKinds.{FrameKinds}

-- the same finding, over other bytes
abbrev over : PeerFound → List ℕ → PeerFound
over x bytes = (with_unread x.0 bytes, x.1)

over_if : (b : Bool) (x y : PeerFound) (bytes : List ℕ) → (if b then over x bytes else over y bytes) ≡ over (if b then x else y) bytes
over_if true x y bytes = refl
over_if false x y bytes = refl

push_over : (side : Side) (p : Peer) (id : ℕ) (bytes : List ℕ) → read_max_push side (with_unread p bytes) id ≡ over (read_max_push side p id) bytes
push_over Client p id bytes = refl
push_over Server p id bytes = over_if _ _ _ bytes

update_over : (side : Side) (p : Peer) (u : Update) (bytes : List ℕ) → read_update side (with_unread p bytes) u ≡ over (read_update side p u) bytes
update_over Client p u bytes = refl
update_over Server p u bytes = by_text (priority_of u.value)
  where
    by_text : (o : Option PriorityParameters)
        → (if is_no_element u then (with_unread p bytes, Some id_error) else read_priority (with_unread p bytes) u.id o) ≡ over (if is_no_element u then (p, Some id_error) else read_priority p u.id o) bytes
    by_text None = over_if (is_no_element u) _ _ bytes
    by_text (Some priority) = over_if (is_no_element u) _ _ bytes

-- what a frame does rests on no bytes
frame_over : (side : Side) (p : Peer) (o : Option (List (ℕ × ℕ))) (f : Frame PayloadLen) (bytes : List ℕ) → read_frame side (with_unread p bytes) o f ≡ over (read_frame side p o f) bytes
frame_over side p None (frame.Data len) bytes = refl
frame_over side p None (frame.Headers section) bytes = refl
frame_over side p None (frame.CancelPush id) bytes = refl
frame_over side p None (frame.Settings pairs) bytes = refl
frame_over side p None (frame.PushPromise promise) bytes = refl
frame_over side p None (frame.PriorityUpdate u) bytes = refl
frame_over side p None (frame.Goaway id) bytes = refl
frame_over side p None (frame.MaxPushId id) bytes = refl
frame_over side p None (frame.WebTransportStream id) bytes = refl
frame_over side p None (frame.Grease kind) bytes = refl
frame_over side p (Some pairs) (frame.Data len) bytes = refl
frame_over side p (Some pairs) (frame.Headers section) bytes = refl
frame_over side p (Some pairs) (frame.CancelPush id) bytes = refl
frame_over side p (Some pairs) (frame.Settings others) bytes = refl
frame_over side p (Some pairs) (frame.PushPromise promise) bytes = refl
frame_over side p (Some pairs) (frame.PriorityUpdate u) bytes = update_over side p u bytes
frame_over side p (Some pairs) (frame.Goaway id) bytes = over_if _ _ _ bytes
frame_over side p (Some pairs) (frame.MaxPushId id) bytes = push_over side p id bytes
frame_over side p (Some pairs) (frame.WebTransportStream id) bytes = refl
frame_over side p (Some pairs) (frame.Grease kind) bytes = refl

front_over : (go : Peer → PeerFound) (side : Side) (p : Peer) (a b bytes : List ℕ) (x : Front) → at_front go side (with_unread p a) bytes x ≡ at_front go side (with_unread p b) bytes x
front_over go side p a b bytes (Whole f rest) = refl
front_over go side p a b bytes (Unknown kind rest) = refl
front_over go side p a b bytes (Refused e) = refl
front_over go side p a b bytes (Unfinished least) = refl

-- unknown frames at the front do not matter
known_alike : (kinds : FrameKinds) (limit : ℕ) (side : Side) (p : Peer) (a b : List ℕ) → known_by kinds a ≡ known_by kinds b → read_peer kinds limit side (with_unread p a) ≡ read_peer kinds limit side (with_unread p b)
known_alike kinds limit side p a b e =
    peer_step kinds limit side (with_unread p a) ∙ ap (λ l. unless_excessive kinds limit l p (at_front (read_peer kinds limit side) side (with_unread p a) l (frame_by kinds l))) e
    ∙ ap (unless_excessive kinds limit (known_by kinds b) p) (front_over (read_peer kinds limit side) side p a b (known_by kinds b) (frame_by kinds (known_by kinds b))) ∙ sym (peer_step kinds limit side (with_unread p b))

-- a front, by what it leaves to whatever follows
pub from_front : (kinds : FrameKinds) (limit : ℕ) (side : Side) (old new : Peer) (front : List ℕ) → old.unread ≡ front ++ new.unread
    → ((more : List ℕ) → read_peer kinds limit side (with_unread old (front ++ more)) ≡ read_peer kinds limit side (with_unread new more)) → ReadsFront kinds limit side old new
from_front kinds limit side old new front split goes_on =
    record {
      front = front;
      split = split;
      goes_on = goes_on;
    }

-- nothing is read
pub no_front : (kinds : FrameKinds) (limit : ℕ) (side : Side) (p : Peer) → ReadsFront kinds limit side p p
no_front kinds limit side p = from_front kinds limit side p p [] refl (λ more. refl)

-- unknown frames are passed
pub unknown_passed : (kinds : FrameKinds) (limit : ℕ) (side : Side) (p : Peer) (left : List ℕ) → left ≡ known_by kinds p.unread → ReadsFront kinds limit side p (with_unread p left)
unknown_passed kinds limit side p left is =
    let u = unknown_front kinds p.unread in
    from_front kinds limit side p (with_unread p left) u.front (u.split ∙ ap (λ l. u.front ++ l) (sym is)) (λ more. known_alike kinds limit side p (u.front ++ more) more (u.alike more))

-- the head of a whole frame says its length, whatever follows
front_small : (kinds : FrameKinds) (limit : ℕ) (front rest more : List ℕ) (f : Frame PayloadLen) → front ++ [] ≡ front → frame_by kinds (front ++ []) ≡ Whole f [] → is_excessive_by kinds limit (front ++ rest) ≡ false → is_excessive_by kinds limit (front ++ more) ≡ false
front_small kinds limit front rest more f same whole small =
    let there : IsFinished (frame_by kinds front) = subst IsFinished (sym (ap (frame_by kinds) (sym same) ∙ whole)) tt in
    excessive_more kinds limit front more there ∙ sym (excessive_more kinds limit front rest there) ∙ small

-- a frame is read
pub frame_read : (kinds : FrameKinds) (limit : ℕ) (side : Side) (p new : Peer) (f : Frame PayloadLen) (rest : List ℕ) → is_excessive_by kinds limit (known_by kinds p.unread) ≡ false → frame_by kinds (known_by kinds p.unread) ≡ Whole f rest → read_frame side (having_frame p f (known_by kinds p.unread) rest) p.settings f ≡ (new, None) → ReadsFront kinds limit side p new
frame_read kinds limit side p new f rest small gives does =
    let u = unknown_front kinds p.unread in
    let w = frame_front kinds (known_by kinds p.unread) rest (subst (λ x. Precedes x rest) (sym gives) refl) in
    let whole_of : (more : List ℕ) → frame_by kinds (w.front ++ more) ≡ Whole f more = λ more. w.alike more ∙ ap (λ x. followed_by x more) gives in
    let had : Peer = having_frame p f (known_by kinds p.unread) rest in
    let keeps : new.unread ≡ rest = ap (λ (x : PeerFound). x.0.unread) (sym does) ∙ frame_keeps side had p.settings f in
    let alone_of : (more : List ℕ) → known_by kinds (w.front ++ more) ≡ w.front ++ more = λ more. known-other kinds (w.front ++ more) (subst IsKnown (sym (whole_of more)) tt) in
    let front_whole : frame_by kinds w.front ≡ Whole f [] = ap (frame_by kinds) (sym (append-nil w.front)) ∙ whole_of [] in
    let same_others : (more : List ℕ) → with_others p.settings f p.others (known_by kinds (w.front ++ more)) ≡ had.others = λ more.
    ap (with_others p.settings f p.others) (alone_of more) ∙ others_more kinds p.settings f p.others w.front more [] front_whole
    ∙ sym (ap (with_others p.settings f p.others) w.split ∙ others_more kinds p.settings f p.others w.front rest [] front_whole) in
    from_front kinds limit side p new (u.front ++ w.front)
    (u.split ∙ ap (λ l. u.front ++ l) (w.split ∙ ap (λ l. w.front ++ l) (sym keeps)) ∙ sym (append_assoc u.front w.front new.unread))
    (λ more.
    let whole = whole_of more in
    let alone : known_by kinds (w.front ++ more) ≡ w.front ++ more = alone_of more in
    let here : frame_by kinds (known_by kinds (w.front ++ more)) ≡ Whole f more = ap (frame_by kinds) alone ∙ whole in
    let short : is_excessive_by kinds limit (known_by kinds (w.front ++ more)) ≡ false =
    ap (is_excessive_by kinds limit) alone ∙ front_small kinds limit w.front rest more f (append-nil w.front) (whole_of []) (ap (is_excessive_by kinds limit) (sym w.split) ∙ small) in
    let again : read_frame side (having_frame (with_unread p (w.front ++ more)) f (known_by kinds (w.front ++ more)) more) p.settings f ≡ (with_unread new more, None) =
    ap (λ o. read_frame side (record p { unread = more; others = o }) p.settings f) (same_others more) ∙ frame_over side had p.settings f more ∙ ap (λ x. over x more) does in
    known_alike kinds limit side p ((u.front ++ w.front) ++ more) (w.front ++ more) (ap (known_by kinds) (append_assoc u.front w.front more) ∙ u.alike (w.front ++ more))
    ∙ peer_frame kinds limit side (with_unread p (w.front ++ more)) f more (with_unread new more, None) short here again)

-- room for another GOAWAY frame and for another update changes none
same_kept : (side : Side) (p : Peer) (goaways rest : List ℕ) (updates : Updates) (f : Frame PayloadLen) (x : PeerFound) → goaways ≡ p.goaways → updates ≡ p.updates
    → read_frame side (record p { unread = rest; goaways = goaways; updates = updates }) p.settings f ≡ x → read_frame side (with_unread p rest) p.settings f ≡ x
same_kept side p goaways rest updates f x same kept does =
    subst (λ u. read_frame side (record p { unread = rest; updates = u }) p.settings f ≡ x) kept
    (subst (λ g. read_frame side (record p { unread = rest; goaways = g; updates = updates }) p.settings f ≡ x) same does)

-- a frame is read, and fewer bytes are left
pub one_read : (kinds : FrameKinds) (limit : ℕ) (side : Side) (p new : Peer) (goaways rest : List ℕ) (updates : Updates) (f : Frame PayloadLen) → is_excessive_by kinds limit (known_by kinds p.unread) ≡ false → goaways ≡ p.goaways → updates ≡ p.updates
    → frame_by kinds (known_by kinds p.unread) ≡ Whole f rest → read_frame side (record p { unread = rest; goaways = goaways; updates = updates }) p.settings f ≡ (new, None) → new.settings ≡ p.settings
    → ReadsFront kinds limit side p new × (length new.unread < length p.unread)
one_read kinds limit side p new goaways rest updates f small same kept gives does stays =
    let here = having_as side p f (known_by kinds p.unread) rest (new, None) (same_kept side p goaways rest updates f (new, None) same kept does) (λ none. stays) in
    (frame_read kinds limit side p new f rest small gives here, peer_less kinds side p new f rest None gives here)

-- a frame is a fault
pub one_fault : (kinds : FrameKinds) (limit : ℕ) (side : Side) (p new : Peer) (goaways rest : List ℕ) (updates : Updates) (f : Frame PayloadLen) (code : ℕ) → is_excessive_by kinds limit (known_by kinds p.unread) ≡ false
    → goaways ≡ p.goaways → updates ≡ p.updates → frame_by kinds (known_by kinds p.unread) ≡ Whole f rest
    → read_frame side (record p { unread = rest; goaways = goaways; updates = updates }) p.settings f ≡ (new, Some code) → read_peer kinds limit side p ≡ (new, Some code)
one_fault kinds limit side p new goaways rest updates f code small same kept gives does =
    peer_fault kinds limit side p new f rest code small gives
    (having_as side p f (known_by kinds p.unread) rest (new, Some code) (same_kept side p goaways rest updates f (new, Some code) same kept does) (λ none. absurd (cc)))

-- a GOAWAY frame is read
pub goaway_read : (kinds : FrameKinds) (limit : ℕ) (side : Side) (p : Peer) (goaways after rest : List ℕ) (updates : Updates) (id : ℕ) (f : Frame PayloadLen) → is_excessive_by kinds limit (known_by kinds p.unread) ≡ false
    → goaways ≡ p.goaways → updates ≡ p.updates → after ≡ goaways ++ id ∷ [] → frame_by kinds (known_by kinds p.unread) ≡ Whole f rest
    → read_frame side (record p { unread = rest; goaways = goaways; updates = updates }) p.settings f ≡ (record p { unread = rest; goaways = goaways ++ id ∷ []; updates = updates }, None)
    → ReadsFront kinds limit side p (record p { unread = rest; goaways = after; updates = updates }) × (length rest < length p.unread)
goaway_read kinds limit side p goaways after rest updates id f small same kept more gives does =
    one_read kinds limit side p (record p { unread = rest; goaways = after; updates = updates }) goaways rest updates f small same kept gives
    (subst (λ g. read_frame side (record p { unread = rest; goaways = goaways; updates = updates }) p.settings f ≡ (record p { unread = rest; goaways = g; updates = updates }, None)) (sym more) does) refl

-- a PRIORITY_UPDATE frame is read
pub update_read : (kinds : FrameKinds) (limit : ℕ) (side : Side) (p : Peer) (goaways rest : List ℕ) (updates after : Updates) (id : ℕ) (priority : PriorityParameters) (f : Frame PayloadLen) → is_excessive_by kinds limit (known_by kinds p.unread) ≡ false
    → goaways ≡ p.goaways → updates ≡ p.updates → after ≡ with_update updates id priority → frame_by kinds (known_by kinds p.unread) ≡ Whole f rest
    → read_frame side (record p { unread = rest; goaways = goaways; updates = updates }) p.settings f ≡ (record p { unread = rest; goaways = goaways; updates = with_update updates id priority }, None)
    → ReadsFront kinds limit side p (record p { unread = rest; goaways = goaways; updates = after }) × (length rest < length p.unread)
update_read kinds limit side p goaways rest updates after id priority f small same kept more gives does =
    one_read kinds limit side p (record p { unread = rest; goaways = goaways; updates = after }) goaways rest updates f small same kept gives
    (subst (λ u. read_frame side (record p { unread = rest; goaways = goaways; updates = updates }) p.settings f ≡ (record p { unread = rest; goaways = goaways; updates = u }, None)) (sym more) does) refl

-- a SETTINGS frame is read, with its settings of no meaning
pub settings_read : (kinds : FrameKinds) (limit : ℕ) (side : Side) (p new : Peer) (goaways rest : List ℕ) (updates : Updates) (pairs : List (ℕ × ℕ)) (told : Option (List (ℕ × ℕ))) (f : Frame PayloadLen)
    → is_excessive_by kinds limit (known_by kinds p.unread) ≡ false → goaways ≡ p.goaways → updates ≡ p.updates → frame_by kinds (known_by kinds p.unread) ≡ Whole f rest
    → read_frame side (record p { unread = rest; goaways = goaways; updates = updates }) p.settings f ≡ (record p { unread = rest; goaways = goaways; updates = updates; settings = Some pairs }, None)
    → TellsOthers kinds (record p { goaways = goaways; updates = updates }) told → new ≡ record p { unread = rest; goaways = goaways; updates = updates; settings = Some pairs; others = others_by told p.others }
    → ReadsFront kinds limit side p new × (length new.unread < length p.unread)
settings_read kinds limit side p new goaways rest updates pairs told f small same kept gives does tells is =
    let came : Peer = record p { unread = rest; settings = Some pairs; others = others_by told p.others } in
    let alone : read_frame side (with_unread p rest) p.settings f ≡ (record p { unread = rest; settings = Some pairs }, None) =
    same_kept side p goaways rest updates f (record p { unread = rest; settings = Some pairs }, None) same kept
    (does ∙ ap (λ g. (let x : PeerFound = (record p { unread = rest; goaways = g; updates = updates; settings = Some pairs }, None) in x)) same ∙ ap (λ u. (let x : PeerFound = (record p { unread = rest; updates = u; settings = Some pairs }, None) in x)) kept) in
    let here : read_frame side (having_frame p f (known_by kinds p.unread) rest) p.settings f ≡ (came, None) = having_settings kinds side p f rest pairs told (tells_kept kinds p goaways updates told tells) alone in
    let same_new : came ≡ new =
    sym (is ∙ ap (λ g. record p { unread = rest; goaways = g; updates = updates; settings = Some pairs; others = others_by told p.others }) same ∙ ap (λ u. record p { unread = rest; updates = u; settings = Some pairs; others = others_by told p.others }) kept) in
    subst (λ (n : Peer). ReadsFront kinds limit side p n × (length n.unread < length p.unread)) same_new (frame_read kinds limit side p came f rest small gives here, peer_less kinds side p came f rest None gives here)

left_known : (kinds : FrameKinds) (e : FrameStreamError) (old new : List ℕ) → Gives kinds (Err e) old new → new ≡ known_by kinds old
left_known kinds (stream.Proto e) old new h = h.0
left_known kinds stream.OutOfMemory old new h = h.0
left_known kinds (stream.Quic e) old new h = absurd h
left_known kinds stream.UnexpectedEnd old new h = absurd h

-- a frame is too long: what came is let go
pub one_excessive : (kinds : FrameKinds) (limit : ℕ) (side : Side) (p : Peer) (goaways left : List ℕ) → is_excessive_by kinds limit (known_by kinds p.unread) ≡ true → goaways ≡ p.goaways → left ≡ []
    → read_peer kinds limit side p ≡ (record p { unread = left; goaways = goaways }, Some excessive_load)
one_excessive kinds limit side p goaways left large same none =
    step_excessive kinds limit side p large ∙ ap (λ g. (record p { unread = []; goaways = g }, Some excessive_load)) (sym same)
    ∙ ap (λ l. (record p { unread = l; goaways = goaways }, Some excessive_load)) (sym none)

-- where memory is refused, unknown frames alone are passed
same_front : (kinds : FrameKinds) (limit : ℕ) (side : Side) (p : Peer) (goaways left : List ℕ) (updates : Updates) → goaways ≡ p.goaways → updates ≡ p.updates → ReadsFront kinds limit side p (with_unread p left)
    → ReadsFront kinds limit side p (record p { unread = left; goaways = goaways; updates = updates })
same_front kinds limit side p goaways left updates same kept front =
    subst (λ g. ReadsFront kinds limit side p (record p { unread = left; goaways = g; updates = updates })) (sym same)
    (subst (λ u. ReadsFront kinds limit side p (record p { unread = left; updates = u })) (sym kept) front)

pub refused_front : (kinds : FrameKinds) (limit : ℕ) (side : Side) (p : Peer) (goaways left : List ℕ) (updates : Updates) (e : FrameStreamError) → goaways ≡ p.goaways → updates ≡ p.updates → Gives kinds (Err e) p.unread left
    → ReadsFront kinds limit side p (record p { unread = left; goaways = goaways; updates = updates })
refused_front kinds limit side p goaways left updates e same kept gives = same_front kinds limit side p goaways left updates same kept (unknown_passed kinds limit side p left (left_known kinds e p.unread left gives))

pub no_room : (kinds : FrameKinds) (limit : ℕ) (side : Side) (p : Peer) (goaways : List ℕ) (updates : Updates) → goaways ≡ p.goaways → updates ≡ p.updates → ReadsFront kinds limit side p (record p { goaways = goaways; updates = updates })
no_room kinds limit side p goaways updates same kept = same_front kinds limit side p goaways p.unread updates same kept (no_front kinds limit side p)

-- more bytes are kept behind what is unread
pub kept_more : {A E : Type 0} (r : Result A E) (stored p : Peer) (unread bytes : List ℕ) → stored ≡ p → OnOk r (unread ≡ stored.unread ++ bytes) → OnOk r (with_unread stored unread ≡ with_unread p (p.unread ++ bytes))
kept_more (Ok value) stored p unread bytes is h = ap (with_unread stored) h ∙ ap (λ (x : Peer). with_unread x (x.unread ++ bytes)) is
kept_more (Err e) stored p unread bytes is h = tt
