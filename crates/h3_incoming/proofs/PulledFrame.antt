-- What a pull makes of the frame that it has read.
use Rattle.std.proofs.Common.{◌≡◌, ℕ, Bool, true, false, ◌&&◌, ◌||◌, List, [], ◌∷◌, length, refl, ap, sym, ◌∙◌, subst}
use Rattle.std.specs.List.{concat}
use Rattle.h3_coding.specs.Varint.{varint_at}
use Rattle.h3_frames.specs.Frames.{frame_by}
use Rattle.h3_frames.specs.Known.{IsWaiting, refusal}
use Rattle.h3_frames.specs.PieceLaws.{rest_same}
use Rattle.h3_frames.specs.declared.frame.kinds.FrameKinds.{FrameKinds}
use Rattle.h3_frames.specs.declared.frame.errors.FrameProtocolError.{FrameProtocolError}
use Rattle.h3_frames.specs.declared.proto.frame.PayloadLen.{PayloadLen}
use Rattle.h3_frames.specs.declared.proto.frame.Frame.{Frame}
use Rattle.h3_proto.specs.Config.{is_limit}
use Rattle.h3_proto.specs.declared.stream.Side.{Side}
use Rattle.h3_qpack.specs.DecoderState.{DecoderState}
use Rattle.h3_messages.specs.Content.{left_behind}
use Rattle.h3_messages.specs.declared.content.Content.{Content}
use Rattle.h3_connection.specs.declared.event.Malformation.TheVariants as malformation
use Rattle.h3_connection.specs.declared.event.Pull.{Pull}
use Rattle.h3_connection.specs.declared.place.Place.{Place}
use Rattle.h3_connection.specs.declared.setup.Announced.{Announced}
use Rattle.h3_connection.specs.Codes.{excessive_load, refusal_code}
use Rattle.h3_connection.specs.Incoming.{Incoming, is_body}
use Rattle.h3_connection.specs.Pulling.{Pulled, connection_fault, just, malformed, at_payload, at_session, begun_payload, at_frame, next_frame, between_frames}
use Rattle.h3_connection.specs.Skipping.{skipped}
use Rattle.h3_incoming.specs.Finding.{FindsFrame, FindsLess, FindsRefused, IsWithin, KeepsWithin, PassesFrames}
use Rattle.h3_incoming.specs.Gives.{Gives}
use Rattle.h3_incoming.specs.Resuming.{Begins, Resumes}
use Rattle.h3_incoming.specs.declared.stream.front.Found.TheVariants as found
use Rattle.h3_incoming.proofs.FrontLaws.{Reads, with_left, passes, passes_frames, stored_is, found_now, within_now}
use Rattle.h3_incoming.proofs.PullLaws.{gives_as, between_excess, between_unfinished, between_refused, between_frame, place_passed}
use Rattle.h3_incoming.proofs.ResumeLaws.{IsBetween, resumes_passed, resumes_begun}
use Rattle.h3_connection.specs.StrictConnection.{kinds_of}

-- a frame is too long: a field section, and any other
pub pulled_section : (side : Side) (own : Announced) (id : ℕ) (r : DecoderState) (old stored : Incoming) (left : List (List ℕ)) (in_body : Bool) → Reads old stored left in_body
    → IsWithin (kinds_of own) own.choices.unfinished_limit in_body found.LongSection (concat stored.unread) → between_frames side own id r old ≡ malformed id malformation.TooLong (with_left stored left) []
pulled_section side own id r old stored left in_body reads h =
    between_excess side own id r old true (stored_is (λ b l. IsWithin (kinds_of own) own.choices.unfinished_limit b found.LongSection l) old stored left in_body reads h)
    ∙ ap {A = Incoming} (λ i. malformed id malformation.TooLong i []) (sym reads.is)

pub pulled_excess : (side : Side) (own : Announced) (id : ℕ) (r : DecoderState) (old stored : Incoming) (left : List (List ℕ)) (in_body : Bool) → Reads old stored left in_body
    → IsWithin (kinds_of own) own.choices.unfinished_limit in_body found.Excessive (concat stored.unread) → between_frames side own id r old ≡ connection_fault excessive_load (record stored { unread = [] })
pulled_excess side own id r old stored left in_body reads h =
    between_excess side own id r old false (stored_is (λ b l. IsWithin (kinds_of own) own.choices.unfinished_limit b found.Excessive l) old stored left in_body reads h)
    ∙ ap (λ (i : Incoming). connection_fault excessive_load (record i { unread = [] })) (sym reads.is)

pub pulled_unfinished : (side : Side) (own : Announced) (id : ℕ) (r : DecoderState) (old stored : Incoming) (left : List (List ℕ)) (in_body : Bool) → Reads old stored left in_body
    → FindsLess (kinds_of own) in_body (concat stored.unread) (concat left) → IsWithin (kinds_of own) own.choices.unfinished_limit in_body found.Unfinished (concat stored.unread)
    → between_frames side own id r old ≡ next_frame side own id r (with_left stored left) (concat left)
pulled_unfinished side own id r old stored left in_body reads h small =
    between_unfinished side own id r old (with_left stored left) (passes old stored left in_body reads) (stored_is (λ b l. FindsLess (kinds_of own) b l (concat left)) old stored left in_body reads h).0
    (stored_is (λ b l. IsWithin (kinds_of own) own.choices.unfinished_limit b found.Unfinished l) old stored left in_body reads small)

-- no bytes are less than a frame
pub waits_empty : (kinds : FrameKinds) (bytes : List ℕ) → length bytes ≡ 0 → IsWaiting (frame_by kinds bytes)
unfolding frame_by varint_at
waits_empty kinds [] none = tt
waits_empty kinds (byte ∷ bytes) none = absurd (cc)

finds_nothing : (kinds : FrameKinds) (in_body : Bool) (bytes : List ℕ) → length bytes ≡ 0 → FindsLess kinds in_body bytes bytes
unfolding skipped
finds_nothing kinds in_body [] none = (refl, waits_empty kinds [] none, λ more. refl)
finds_nothing kinds in_body (byte ∷ bytes) none = absurd (cc)

none_within : (updates limits : Bool) → ((updates && (limits && false)) || (limits && false)) ≡ false
none_within true true = refl
none_within true false = refl
none_within false true = refl
none_within false false = refl

nothing_within : (kinds : FrameKinds) (most : ℕ) (in_body : Bool) (bytes : List ℕ) → length bytes ≡ 0 → IsWithin kinds most in_body found.Unfinished bytes
unfolding skipped varint_at
nothing_within kinds most in_body [] none = none_within kinds.updates (is_limit most)
nothing_within kinds most in_body (byte ∷ bytes) none = absurd (cc)

pub pulled_nothing : (side : Side) (own : Announced) (id : ℕ) (r : DecoderState) (old stored : Incoming) → stored ≡ old → length (concat stored.unread) ≡ 0
    → between_frames side own id r old ≡ next_frame side own id r stored (concat stored.unread)
pulled_nothing side own id r old stored same none =
    pulled_unfinished side own id r old stored stored.unread (is_body old.place) (record { is = same; body = refl; rest = rest_same stored.unread stored.unread refl })
    (finds_nothing (kinds_of own) (is_body old.place) (concat stored.unread) none) (nothing_within (kinds_of own) own.choices.unfinished_limit (is_body old.place) (concat stored.unread) none)

pub pulled_refused : (side : Side) (own : Announced) (id : ℕ) (r : DecoderState) (old stored : Incoming) (left : List (List ℕ)) (in_body : Bool) (e : FrameProtocolError) (code : ℕ) → Reads old stored left in_body
    → FindsRefused (kinds_of own) in_body e (concat stored.unread) (concat left) → IsWithin (kinds_of own) own.choices.unfinished_limit in_body (found.Refused e) (concat stored.unread) → code ≡ refusal_code (refusal e)
    → between_frames side own id r old ≡ connection_fault code (with_left stored left)
pulled_refused side own id r old stored left in_body e code reads h small is =
    between_refused side own id r old (with_left stored left) e (passes old stored left in_body reads) (stored_is (λ b l. FindsRefused (kinds_of own) b e l (concat left)) old stored left in_body reads h)
    (stored_is (λ b l. IsWithin (kinds_of own) own.choices.unfinished_limit b (found.Refused e) l) old stored left in_body reads small)
    ∙ ap (λ n. connection_fault n (with_left stored left)) (sym is)

-- a frame is what it is at the place that was stored
pub pulled_frame : (side : Side) (own : Announced) (id : ℕ) (r : DecoderState) (old stored : Incoming) (left : List (List ℕ)) (in_body : Bool) (f : Frame PayloadLen) (p : Pulled) → Reads old stored left in_body
    → FindsFrame (kinds_of own) in_body f (concat stored.unread) (concat left) → KeepsWithin (kinds_of own) own.choices.unfinished_limit in_body (concat stored.unread)
    → at_frame side own id r side (with_left stored left) stored.place f ≡ p → between_frames side own id r old ≡ p
pulled_frame side own id r old stored left in_body f p reads h small is =
    let mid = with_left stored left in
    let passed = passes old stored left in_body reads in
    between_frame side own id r old mid f passed (found_now (kinds_of own) (is_body old.place) f (concat old.unread) (concat left) (stored_is (λ b l. FindsFrame (kinds_of own) b f l (concat left)) old stored left in_body reads h))
    (within_now (kinds_of own) own.choices.unfinished_limit (is_body old.place) f (concat old.unread) (stored_is (λ b l. KeepsWithin (kinds_of own) own.choices.unfinished_limit b l) old stored left in_body reads small))
    ∙ ap (λ q. at_frame side own id r side mid q f) (sym (place_passed old mid passed)) ∙ is

-- a session was begun, or refused, by its place
pub session_told : (own : Announced) (i : Incoming) (before after : Place) (session : ℕ) (told : Pull)
    → ((j : Incoming) → at_session own (record j { place = before }) session ≡ just told (record j { place = after })) → i.place ≡ before → at_session own i session ≡ just told (record i { place = after })
session_told own i before after session told h same = subst (λ p. at_session own (record i { place = p }) session ≡ just told (record i { place = after })) (sym same) (h i)

-- the payload was begun
begun_is : (i : Incoming) (size : ℕ) (content : Content) → content ≡ left_behind i.content size → (record i { body_left = size; content = content }) ≡ begun_payload i size
begun_is i size known e = ap (λ c. let x : Incoming = record i { body_left = size; content = c } in x) e

pub gives_payload : (side : Side) (own : Announced) (id : ℕ) (r : DecoderState) (old stored : Incoming) (left : List (List ℕ)) (in_body : Bool) (f : Frame PayloadLen) (size : ℕ) (content : Content)
    (answer : Pull) (new : Incoming) (before after : List ℕ) → Reads old stored left in_body → FindsFrame (kinds_of own) in_body f (concat stored.unread) (concat left)
    → KeepsWithin (kinds_of own) own.choices.unfinished_limit in_body (concat stored.unread)
    → at_frame side own id r side (with_left stored left) stored.place f ≡ at_payload id (begun_payload (with_left stored left) size) → content ≡ left_behind stored.content size
    → Gives (at_payload id (record (with_left stored left) { body_left = size; content = content })) answer new before after → Gives (between_frames side own id r old) answer new before after
gives_payload side own id r old stored left in_body f size content answer new before after reads h small is e gives =
    gives_as _ _ answer new before after (pulled_frame side own id r old stored left in_body f _ reads h small is)
    (subst (λ (x : Incoming). Gives (at_payload id x) answer new before after) (begun_is (with_left stored left) size content e) gives)

-- want of memory before the frame, and behind it
pub resumes_before : (own : Announced) (old stored : Incoming) (left : List (List ℕ)) (in_body : Bool) → Reads old stored left in_body → IsBetween old
    → PassesFrames (kinds_of own) in_body (concat stored.unread) (concat left) → Resumes own old (with_left stored left)
resumes_before own old stored left in_body reads between h =
    resumes_passed own old (with_left stored left) between (passes old stored left in_body reads) (passes_frames (kinds_of own) old stored left in_body reads h)

pub resumes_behind : (own : Announced) (old stored new begun : Incoming) (left : List (List ℕ)) (in_body : Bool) (f : Frame PayloadLen) → Reads old stored left in_body → IsBetween old
    → FindsFrame (kinds_of own) in_body f (concat stored.unread) (concat left) → KeepsWithin (kinds_of own) own.choices.unfinished_limit in_body (concat stored.unread)
    → Begins stored.place f (with_left stored left) begun → new ≡ begun → Resumes own old new
resumes_behind own old stored new begun left in_body f reads between h small begins same =
    subst (λ (x : Incoming). Resumes own old x) (sym same)
    (resumes_begun own old (with_left stored left) begun f between (passes old stored left in_body reads) (stored_is (λ b l. FindsFrame (kinds_of own) b f l (concat left)) old stored left in_body reads h)
    (stored_is (λ b l. KeepsWithin (kinds_of own) own.choices.unfinished_limit b l) old stored left in_body reads small) begins)

pub resumes_payload : (own : Announced) (old stored new : Incoming) (left : List (List ℕ)) (in_body : Bool) (f : Frame PayloadLen) (size : ℕ) (content : Content) → Reads old stored left in_body → IsBetween old
    → FindsFrame (kinds_of own) in_body f (concat stored.unread) (concat left) → KeepsWithin (kinds_of own) own.choices.unfinished_limit in_body (concat stored.unread)
    → Begins stored.place f (with_left stored left) (begun_payload (with_left stored left) size) → content ≡ left_behind stored.content size
    → new ≡ record (with_left stored left) { body_left = size; content = content } → Resumes own old new
resumes_payload own old stored new left in_body f size content reads between h small begins e same =
    resumes_behind own old stored new (begun_payload (with_left stored left) size) left in_body f reads between h small begins (same ∙ begun_is (with_left stored left) size content e)
