-- The reading of a control stream, cut anywhere, and the settings that stay.
use Rattle.std.proofs.Common.{◌≡◌, ℕ, zero, suc, ◌<◌, ◌≤◌, Bool, true, false, if◌then◌else◌, List, [], ◌++◌, length, Option, Some, None, refl, ap, sym, ◌∙◌, subst, arith, inl, inr}
use Rattle.std.specs.Prelude.{◌||◌, ◌&&◌, ◌⊎◌, nat_lt}
use Rattle.std.proofs.lemmas.Bool.{and_parts}
use Rattle.h3_coding.specs.Varint.{varint_at}
use Rattle.h3_coding.specs.VarintLaws.{cases_number, reads_more}
use Rattle.h3_proto.specs.Config.{is_limit}
use Rattle.h3_proto.specs.declared.stream.Side.{Side}
use Rattle.h3_proto.specs.declared.stream.Side.TheVariants.{Client, Server}
use Rattle.h3_frames.specs.ExcessiveFrames.{is_excessive_by, is_kept_whole, is_long_update, is_too_long, says_long_update, says_too_much}
use Rattle.h3_frames.specs.ExcessiveLaws.{excessive_more, said_of, stays_kept, stays_update}
use Rattle.h3_frames.specs.Frames.{Front, Whole, Unknown, Refused, Unfinished, frame_by, is_update}
use Rattle.h3_frames.specs.FrameLaws.{frame_by-more}
use Rattle.h3_frames.specs.Fronts.{IsFinished, with_more, IsKnown}
use Rattle.h3_frames.specs.Known.{known_by}
use Rattle.h3_frames.specs.KnownLaws.{known-other, known-more, known_is}
use Rattle.h3_priority.specs.Priority.{PriorityParameters, priority_of}
use Rattle.h3_frames.specs.Update.{Update}
use Rattle.h3_frames.specs.declared.proto.frame.PayloadLen.{PayloadLen}
use Rattle.h3_frames.specs.declared.proto.frame.Frame.{Frame}
use Rattle.h3_frames.specs.declared.proto.frame.Frame.TheVariants as frame
use Rattle.h3_connection.specs.PeerReading.{Peer, PeerFound, with_unread, having_frame, is_no_element, is_no_goaway, is_above, is_below, read_max_push, read_priority, read_update, read_frame, unless_fault, at_front, unless_excessive, read_peer}
use Rattle.h3_connection.specs.OtherSettingsLaws.{others_more}
use Rattle.h3_connection.specs.Lasts.{last_id}
use Rattle.h3_connection.specs.SkippingLaws.{rest_shorter, skipped_step}
use Rattle.h3_connection.specs.PeerReadingLaws.{no_length, peer_step, step_excessive, step_within}
use Rattle.h3_connection.specs.Skipping.{skip_front, skipped}
use Rattle.h3_frames.specs.declared.frame.kinds.FrameKinds.{FrameKinds}

-- only what `known` leaves counts
front_of : (kinds : FrameKinds) (limit : ℕ) (side : Side) (p : Peer) (other bytes : List ℕ) (x : Front) → at_front (read_peer kinds limit side) side p bytes x ≡ at_front (read_peer kinds limit side) side (with_unread p other) bytes x
front_of kinds limit side p other bytes (Whole f rest) = refl
front_of kinds limit side p other bytes (Unknown kind rest) = refl
front_of kinds limit side p other bytes (Refused e) = refl
front_of kinds limit side p other bytes (Unfinished least) = refl

pub peer_known : (kinds : FrameKinds) (limit : ℕ) (side : Side) (p : Peer) (bytes : List ℕ) → known_by kinds p.unread ≡ known_by kinds bytes → read_peer kinds limit side p ≡ read_peer kinds limit side (with_unread p bytes)
peer_known kinds limit side p bytes e =
    peer_step kinds limit side p ∙ ap (λ l. unless_excessive kinds limit l p (at_front (read_peer kinds limit side) side p l (frame_by kinds l))) e
    ∙ ap (unless_excessive kinds limit (known_by kinds bytes) p) (front_of kinds limit side p bytes (known_by kinds bytes) (frame_by kinds (known_by kinds bytes)))
    ∙ sym (peer_step kinds limit side (with_unread p bytes))

-- a frame does the same whatever is unread
abbrev with_rest : List ℕ → PeerFound → PeerFound
with_rest bytes (p, fault) = (with_unread p bytes, fault)

rest_if : (b : Bool) (x y u v : PeerFound) (bytes : List ℕ) → u ≡ with_rest bytes x → v ≡ with_rest bytes y → (if b then u else v) ≡ with_rest bytes (if b then x else y)
rest_if true x y u v bytes e f = e
rest_if false x y u v bytes e f = f

push_with : (side : Side) (p : Peer) (bytes : List ℕ) (id : ℕ) → read_max_push side (with_unread p bytes) id ≡ with_rest bytes (read_max_push side p id)
push_with Client p bytes id = refl
push_with Server p bytes id = rest_if (is_below id p.most_pushes) _ _ _ _ bytes refl refl

update_with : (side : Side) (p : Peer) (bytes : List ℕ) (u : Update) → read_update side (with_unread p bytes) u ≡ with_rest bytes (read_update side p u)
update_with Client p bytes u = refl
update_with Server p bytes u = rest_if (is_no_element u) _ _ _ _ bytes refl (by_text (priority_of u.value))
  where
    by_text : (o : Option PriorityParameters) → read_priority (with_unread p bytes) u.id o ≡ with_rest bytes (read_priority p u.id o)
    by_text None = refl
    by_text (Some priority) = refl

frame_with : (side : Side) (p : Peer) (bytes : List ℕ) (o : Option (List (ℕ × ℕ))) (f : Frame PayloadLen) → read_frame side (with_unread p bytes) o f ≡ with_rest bytes (read_frame side p o f)
frame_with side p bytes None (frame.Data len) = refl
frame_with side p bytes None (frame.Headers section) = refl
frame_with side p bytes None (frame.CancelPush id) = refl
frame_with side p bytes None (frame.Settings pairs) = refl
frame_with side p bytes None (frame.PushPromise promise) = refl
frame_with side p bytes None (frame.PriorityUpdate u) = refl
frame_with side p bytes None (frame.Goaway id) = refl
frame_with side p bytes None (frame.MaxPushId id) = refl
frame_with side p bytes None (frame.WebTransportStream id) = refl
frame_with side p bytes None (frame.Grease kind) = refl
frame_with side p bytes (Some pairs) (frame.Data len) = refl
frame_with side p bytes (Some pairs) (frame.Headers section) = refl
frame_with side p bytes (Some pairs) (frame.CancelPush id) = refl
frame_with side p bytes (Some pairs) (frame.Settings others) = refl
frame_with side p bytes (Some pairs) (frame.PushPromise promise) = refl
frame_with side p bytes (Some pairs) (frame.PriorityUpdate u) = update_with side p bytes u
frame_with side p bytes (Some pairs) (frame.Goaway id) = rest_if (is_no_goaway side id || is_above id (last_id p.goaways)) _ _ _ _ bytes refl refl
frame_with side p bytes (Some pairs) (frame.MaxPushId id) = push_with side p bytes id
frame_with side p bytes (Some pairs) (frame.WebTransportStream id) = refl
frame_with side p bytes (Some pairs) (frame.Grease kind) = refl

-- the first known frame, or a refused one, stays as it is when more follows
more_known : (x : Front) (more : List ℕ) → IsKnown x → IsKnown (with_more x more)
more_known (Whole f rest) more h = tt
more_known (Unknown kind rest) more h = absurd h
more_known (Refused e) more h = tt
more_known (Unfinished least) more h = tt

known_longer : (kinds : FrameKinds) (bytes more : List ℕ) → IsFinished (frame_by kinds (known_by kinds bytes)) → known_by kinds (bytes ++ more) ≡ known_by kinds bytes ++ more
known_longer kinds bytes more h =
    let there : frame_by kinds (known_by kinds bytes ++ more) ≡ with_more (frame_by kinds (known_by kinds bytes)) more = frame_by-more kinds (known_by kinds bytes) more h in
    known-more kinds bytes more ∙ known-other kinds (known_by kinds bytes ++ more) (subst IsKnown (sym there) (more_known (frame_by kinds (known_by kinds bytes)) more (known_is kinds bytes)))

-- a frame that is too long is so whatever comes behind its head
said_more : (kinds : FrameKinds) (limit : ℕ) (bytes more : List ℕ) → is_excessive_by kinds limit bytes ≡ true → is_excessive_by kinds limit (known_by kinds (bytes ++ more)) ≡ true
said_more kinds limit bytes more large = elim (cases_number bytes) [
  | inl none ↦ absurd (no_head (no_length kinds limit bytes (ap (says_long_update kinds limit) none) (ap (says_too_much limit) none)))
  | inr (kind, mid, e) ↦ by_number kind mid e (cases_number mid)
]
  where
    no_head : is_excessive_by kinds limit bytes ≡ false → ⊥
    no_head small = let wrong : true ≡ false = sym large ∙ small in cc

    by_number : (kind : ℕ) (mid : List ℕ) → varint_at bytes ≡ Some (kind, mid) → (varint_at mid ≡ None) ⊎ ((v : ℕ) × (rest : List ℕ) × (varint_at mid ≡ Some (v, rest))) → is_excessive_by kinds limit (known_by kinds (bytes ++ more)) ≡ true
    by_number kind mid e (inl none) =
        absurd (no_head (no_length kinds limit bytes (ap (says_long_update kinds limit) e ∙ ap (is_long_update kinds limit kind) none) (ap (says_too_much limit) e ∙ ap (is_too_long limit kind) none)))
    by_number kind mid e (inr (number, behind, k)) =
        let there = reads_more kind bytes mid more e in
        let length_there = reads_more number mid behind more k in
        let said : (is_limit limit && ((is_kept_whole kind || is_update kinds kind) && nat_lt limit number)) ≡ true = sym (said_of kinds limit kind number bytes mid behind e k) ∙ large in
        let kept = (and_parts (is_kept_whole kind || is_update kinds kind) (nat_lt limit number) (and_parts (is_limit limit) ((is_kept_whole kind || is_update kinds kind) && nat_lt limit number) said).1).0 in
        ap (is_excessive_by kinds limit) (by_type (is_kept_whole kind) refl kept there length_there)
        ∙ said_of kinds limit kind number (bytes ++ more) (mid ++ more) (behind ++ more) there length_there ∙ said
      where
        by_type : (b : Bool) → is_kept_whole kind ≡ b → (b || is_update kinds kind) ≡ true → varint_at (bytes ++ more) ≡ Some (kind, mid ++ more) → varint_at (mid ++ more) ≡ Some (number, behind ++ more)
            → known_by kinds (bytes ++ more) ≡ bytes ++ more
        by_type true is h there length_there = stays_kept kinds kind number (bytes ++ more) (mid ++ more) (behind ++ more) is there length_there
        by_type false is h there length_there = stays_update kinds kind number (bytes ++ more) (mid ++ more) (behind ++ more) h there length_there

excessive_behind : (kinds : FrameKinds) (limit : ℕ) (bytes more : List ℕ) → is_excessive_by kinds limit (known_by kinds bytes) ≡ true → is_excessive_by kinds limit (known_by kinds (bytes ++ more)) ≡ true
excessive_behind kinds limit bytes more large = ap (is_excessive_by kinds limit) (known-more kinds bytes more) ∙ said_more kinds limit (known_by kinds bytes) more large

-- What more bytes do behind a reading: a fault stays, and these are left then.
abbrev pub then_peer : FrameKinds → ℕ → Side → List ℕ → List ℕ → PeerFound → PeerFound
then_peer kinds limit side more left (p, Some code) = (with_unread p left, Some code)
then_peer kinds limit side more left (p, None) = read_peer kinds limit side (with_unread p (p.unread ++ more))

abbrev pub ReadsMore : FrameKinds → ℕ → Side → List ℕ → PeerFound → PeerFound → Type 0
ReadsMore kinds limit side more all front = (left : List ℕ) × (all ≡ then_peer kinds limit side more left front)

found_more : (kinds : FrameKinds) (limit : ℕ) (side : Side) (more rest : List ℕ) (x : PeerFound)
    → ((q : Peer) → ReadsMore kinds limit side more (read_peer kinds limit side (with_unread q (rest ++ more))) (read_peer kinds limit side (with_unread q rest)))
    → ReadsMore kinds limit side more (unless_fault (with_rest (rest ++ more) x) (read_peer kinds limit side)) (unless_fault (with_rest rest x) (read_peer kinds limit side))
found_more kinds limit side more rest (q, Some code) h = (rest ++ more, refl)
found_more kinds limit side more rest (q, None) h = h q

waits_more : (kinds : FrameKinds) (limit : ℕ) (side : Side) (p : Peer) (bytes more : List ℕ) → read_peer kinds limit side (with_unread p bytes) ≡ (with_unread p (known_by kinds bytes), None)
    → ReadsMore kinds limit side more (read_peer kinds limit side (with_unread p (bytes ++ more))) (read_peer kinds limit side (with_unread p bytes))
waits_more kinds limit side p bytes more waits =
    ([], peer_known kinds limit side (with_unread p (bytes ++ more)) (known_by kinds bytes ++ more) (known-more kinds bytes more) ∙ sym (ap (then_peer kinds limit side more []) waits))

-- behind a frame that is not too long
front_more : (kinds : FrameKinds) (limit : ℕ) (side : Side) (p : Peer) (bytes more : List ℕ) (x : Front) → frame_by kinds (known_by kinds bytes) ≡ x → is_excessive_by kinds limit (known_by kinds bytes) ≡ false
    → ((q : Peer) (rest : List ℕ) → length rest < length bytes → ReadsMore kinds limit side more (read_peer kinds limit side (with_unread q (rest ++ more))) (read_peer kinds limit side (with_unread q rest)))
    → ReadsMore kinds limit side more (read_peer kinds limit side (with_unread p (bytes ++ more))) (read_peer kinds limit side (with_unread p bytes))
front_more kinds limit side p bytes more x is small go = by_front x is
  where
    here : (y : Front) → frame_by kinds (known_by kinds bytes) ≡ y → read_peer kinds limit side (with_unread p bytes) ≡ at_front (read_peer kinds limit side) side (with_unread p bytes) (known_by kinds bytes) y
    here y e = step_within kinds limit side (with_unread p bytes) small ∙ ap (at_front (read_peer kinds limit side) side (with_unread p bytes) (known_by kinds bytes)) e

    longer : IsFinished (frame_by kinds (known_by kinds bytes)) → known_by kinds (bytes ++ more) ≡ known_by kinds bytes ++ more
    longer whole = known_longer kinds bytes more whole

    there : (y : Front) → frame_by kinds (known_by kinds bytes) ≡ y → IsFinished y
        → read_peer kinds limit side (with_unread p (bytes ++ more)) ≡ at_front (read_peer kinds limit side) side (with_unread p (bytes ++ more)) (known_by kinds bytes ++ more) (with_more y more)
    there y e whole =
        let finished : IsFinished (frame_by kinds (known_by kinds bytes)) = subst IsFinished (sym e) whole in
        step_within kinds limit side (with_unread p (bytes ++ more)) (ap (is_excessive_by kinds limit) (longer finished) ∙ excessive_more kinds limit (known_by kinds bytes) more finished ∙ small)
        ∙ ap (λ l. at_front (read_peer kinds limit side) side (with_unread p (bytes ++ more)) l (frame_by kinds l)) (longer finished)
        ∙ ap (at_front (read_peer kinds limit side) side (with_unread p (bytes ++ more)) (known_by kinds bytes ++ more)) (frame_by-more kinds (known_by kinds bytes) more finished ∙ ap (λ z. with_more z more) e)

    by_front : (y : Front) → frame_by kinds (known_by kinds bytes) ≡ y → ReadsMore kinds limit side more (read_peer kinds limit side (with_unread p (bytes ++ more))) (read_peer kinds limit side (with_unread p bytes))
    by_front (Whole f rest) e =
        let had : Peer = having_frame p f (known_by kinds bytes) rest in
        let found = found_more kinds limit side more rest (read_frame side had p.settings f) (λ q. go q rest (rest_shorter kinds bytes rest f e)) in (
          found.0,
          there (Whole f rest) e tt
              ∙ ap (λ o. unless_fault (read_frame side (record p { unread = rest ++ more; others = o }) p.settings f) (read_peer kinds limit side)) (others_more kinds p.settings f p.others (known_by kinds bytes) more rest e)
              ∙ ap (λ z. unless_fault z (read_peer kinds limit side)) (frame_with side had (rest ++ more) p.settings f)
              ∙ found.1
              ∙ sym (ap (then_peer kinds limit side more found.0) (here (Whole f rest) e ∙ ap (λ z. unless_fault z (read_peer kinds limit side)) (frame_with side had rest p.settings f))),
        )
    by_front (Refused why) e = (known_by kinds bytes ++ more, there (Refused why) e tt ∙ sym (ap (then_peer kinds limit side more (known_by kinds bytes ++ more)) (here (Refused why) e)))
    by_front (Unknown kind rest) e = waits_more kinds limit side p bytes more (here (Unknown kind rest) e)
    by_front (Unfinished least) e = waits_more kinds limit side p bytes more (here (Unfinished least) e)

-- one that is too long is so with more bytes behind it
length_more : (kinds : FrameKinds) (limit : ℕ) (side : Side) (p : Peer) (bytes more : List ℕ) (large : Bool) → is_excessive_by kinds limit (known_by kinds bytes) ≡ large
    → ((q : Peer) (rest : List ℕ) → length rest < length bytes → ReadsMore kinds limit side more (read_peer kinds limit side (with_unread q (rest ++ more))) (read_peer kinds limit side (with_unread q rest)))
    → ReadsMore kinds limit side more (read_peer kinds limit side (with_unread p (bytes ++ more))) (read_peer kinds limit side (with_unread p bytes))
length_more kinds limit side p bytes more true e go = (
  [],
  step_excessive kinds limit side (with_unread p (bytes ++ more)) (excessive_behind kinds limit bytes more e)
      ∙ sym (ap (then_peer kinds limit side more []) (step_excessive kinds limit side (with_unread p bytes) e)),
)
length_more kinds limit side p bytes more false e go = front_more kinds limit side p bytes more (frame_by kinds (known_by kinds bytes)) refl e go

more_within : (kinds : FrameKinds) (n limit : ℕ) (side : Side) (p : Peer) (bytes more : List ℕ) → length bytes ≤ n
    → ReadsMore kinds limit side more (read_peer kinds limit side (with_unread p (bytes ++ more))) (read_peer kinds limit side (with_unread p bytes))
more_within kinds zero limit side p bytes more h = length_more kinds limit side p bytes more (is_excessive_by kinds limit (known_by kinds bytes)) refl (λ q rest less. absurd (omega (arith, less, h)))
more_within kinds (suc n) limit side p bytes more h =
    length_more kinds limit side p bytes more (is_excessive_by kinds limit (known_by kinds bytes)) refl (λ q rest less. more_within kinds n limit side q rest more (omega (arith, less, h)))

-- However the bytes are cut, they read alike.
pub peer_more : (kinds : FrameKinds) (limit : ℕ) (side : Side) (p : Peer) (bytes more : List ℕ) → ReadsMore kinds limit side more (read_peer kinds limit side (with_unread p (bytes ++ more))) (read_peer kinds limit side (with_unread p bytes))
peer_more kinds limit side p bytes more = more_within kinds (length bytes) limit side p bytes more (omega arith)

-- only what `known` leaves counts
pub skipped_known : (kinds : FrameKinds) (in_body : Bool) (bytes other : List ℕ) → known_by kinds bytes ≡ known_by kinds other → skipped kinds in_body bytes ≡ skipped kinds in_body other
skipped_known kinds in_body bytes other e = skipped_step kinds in_body bytes ∙ ap (λ l. skip_front (skipped kinds in_body) in_body l (frame_by kinds l)) e ∙ sym (skipped_step kinds in_body other)
