-- The frames of a message stream that give something, one after another.
use Rattle.std.proofs.Common.{◌≡◌, ℕ, Bool, true, false, ◌&&◌, if◌then◌else◌, List, [], ◌++◌, refl, ap, sym, ◌∙◌, subst, append-nil}
use Rattle.std.specs.Prelude.{Err}
use Rattle.std.specs.List.{concat}
use Rattle.h3_frames.specs.ExcessiveFrames.{begins_section, is_excessive_by}
use Rattle.h3_frames.specs.ExcessiveLaws.{excessive_more, no_data}
use Rattle.h3_frames.specs.Frames.{Front, Whole, Unknown, Refused, Unfinished, frame_by}
use Rattle.h3_frames.specs.FrameLaws.{frame_by-more}
use Rattle.h3_frames.specs.Fronts.{IsFinished, with_more, IsKnown}
use Rattle.h3_frames.specs.Known.{known_by, refusal, IsWaiting, Gives}
use Rattle.h3_frames.specs.KnownLaws.{known-other, known-more}
use Rattle.h3_frames.specs.Pieces.{IsRest}
use Rattle.h3_frames.specs.declared.frame.errors.FrameProtocolError.{FrameProtocolError}
use Rattle.h3_frames.specs.declared.frame.errors.FrameStreamError.{FrameStreamError}
use Rattle.h3_frames.specs.declared.frame.errors.FrameStreamError.TheVariants as stream
use Rattle.h3_frames.specs.declared.proto.frame.PayloadLen.{PayloadLen}
use Rattle.h3_frames.specs.declared.proto.frame.Frame.{Frame}
use Rattle.h3_frames.specs.declared.proto.frame.Frame.TheVariants as frame
use Rattle.h3_proto.specs.declared.stream.Side.{Side}
use Rattle.h3_connection.specs.declared.place.Place.{Place}
use Rattle.h3_connection.specs.Incoming.{Incoming, Passes, is_body}
use Rattle.h3_connection.specs.Skipping.{is_empty_data, skip_front, skipped}
use Rattle.h3_connection.specs.SkippingLaws.{skipped_step}
use Rattle.h3_messages.specs.declared.content.Content.{Content}
use Rattle.h3_incoming.specs.Finding.{Finds, GivesBegun, FindsFrame, FindsLess, FindsRefused, IsWithin, KeepsWithin, PassesFrames, IsTooLong}
use Rattle.h3_incoming.specs.declared.stream.front.Found.{Found}
use Rattle.h3_incoming.specs.declared.stream.front.Found.TheVariants as found
use Rattle.h3_frames.specs.declared.frame.kinds.FrameKinds.{FrameKinds}

-- a frame stays as it is when more follows
known_frame-more : (kinds : FrameKinds) (bytes rest more : List ℕ) (f : Frame PayloadLen) → frame_by kinds (known_by kinds bytes) ≡ Whole f rest → frame_by kinds (known_by kinds (bytes ++ more)) ≡ Whole f (rest ++ more)
known_frame-more kinds bytes rest more f e =
    let here : frame_by kinds (known_by kinds bytes ++ more) ≡ Whole f (rest ++ more) = frame_by-more kinds (known_by kinds bytes) more (subst IsFinished (sym e) tt) ∙ ap (λ x. with_more x more) e in
    ap (frame_by kinds) (known-more kinds bytes more ∙ known-other kinds (known_by kinds bytes ++ more) (subst IsKnown (sym here) tt)) ∙ here

-- a frame that gives nothing is passed
one_passed : (kinds : FrameKinds) (in_body : Bool) (bytes rest : List ℕ) (f : Frame PayloadLen) → frame_by kinds (known_by kinds bytes) ≡ Whole f rest → (in_body && is_empty_data f) ≡ true → skipped kinds in_body rest ≡ skipped kinds in_body bytes
one_passed kinds in_body bytes rest f e t =
    sym (skipped_step kinds in_body bytes ∙ ap (λ x. skip_front (skipped kinds in_body) in_body (known_by kinds bytes) x) e ∙ ap (λ b. if b then skipped kinds in_body rest else known_by kinds bytes) t)

pub passes_empty : (kinds : FrameKinds) (in_body : Bool) (bytes rest : List ℕ) (f : Frame PayloadLen) → frame_by kinds (known_by kinds bytes) ≡ Whole f rest → (in_body && is_empty_data f) ≡ true → PassesFrames kinds in_body bytes rest
passes_empty kinds in_body bytes rest f e t more = one_passed kinds in_body (bytes ++ more) (rest ++ more) f (known_frame-more kinds bytes rest more f e) t

-- and so are unknown ones
pub passes_known : (kinds : FrameKinds) (in_body : Bool) (bytes left : List ℕ) → left ≡ known_by kinds bytes → PassesFrames kinds in_body bytes left
passes_known kinds in_body bytes left is more =
    let same : known_by kinds (left ++ more) ≡ known_by kinds (bytes ++ more) = ap (λ l. known_by kinds (l ++ more)) is ∙ sym (known-more kinds bytes more) in
    skipped_step kinds in_body (left ++ more) ∙ ap (λ l. skip_front (skipped kinds in_body) in_body l (frame_by kinds l)) same ∙ sym (skipped_step kinds in_body (bytes ++ more))

-- what is no DATA frame is no empty one
pub none_empty : (in_body : Bool) → (in_body && false) ≡ false
none_empty true = refl
none_empty false = refl

-- any error passes what gives nothing alone
pub error_passes : (kinds : FrameKinds) (side : Side) (place : Place) (message : Content) (e : FrameStreamError) (old new : List ℕ) → GivesBegun kinds side place message (Err e) old new → PassesFrames kinds (is_body place) old new
error_passes kinds side place message (stream.Proto e) old new h = passes_known kinds (is_body place) old new h.0
error_passes kinds side place message stream.OutOfMemory old new h = h
error_passes kinds side place message (stream.Quic e) old new h = absurd h
error_passes kinds side place message stream.UnexpectedEnd old new h = absurd h

pub error_gives : (kinds : FrameKinds) (side : Side) (place : Place) (message : Content) (e : FrameStreamError) (old new : List ℕ) → Gives kinds (Err e) old new → GivesBegun kinds side place message (Err e) old new
error_gives kinds side place message (stream.Proto e) old new h = h
error_gives kinds side place message stream.OutOfMemory old new h = passes_known kinds (is_body place) old new h.0
error_gives kinds side place message (stream.Quic e) old new h = absurd h
error_gives kinds side place message stream.UnexpectedEnd old new h = absurd h

one_found : (kinds : FrameKinds) (in_body : Bool) (bytes rest : List ℕ) (f : Frame PayloadLen) → frame_by kinds (known_by kinds bytes) ≡ Whole f rest → (in_body && is_empty_data f) ≡ false → frame_by kinds (skipped kinds in_body bytes) ≡ Whole f rest
one_found kinds in_body bytes rest f e t =
    ap (frame_by kinds) (skipped_step kinds in_body bytes ∙ ap (λ x. skip_front (skipped kinds in_body) in_body (known_by kinds bytes) x) e ∙ ap (λ b. if b then skipped kinds in_body rest else known_by kinds bytes) t) ∙ e

pub finds_frame : (kinds : FrameKinds) (in_body : Bool) (bytes rest : List ℕ) (f : Frame PayloadLen) → frame_by kinds (known_by kinds bytes) ≡ Whole f rest → (in_body && is_empty_data f) ≡ false → FindsFrame kinds in_body f bytes rest
finds_frame kinds in_body bytes rest f e t more = one_found kinds in_body (bytes ++ more) (rest ++ more) f (known_frame-more kinds bytes rest more f e) t

waiting_stays : (kinds : FrameKinds) (in_body : Bool) (bytes : List ℕ) (x : Front) → frame_by kinds (known_by kinds bytes) ≡ x → IsWaiting x → skipped kinds in_body bytes ≡ known_by kinds bytes
waiting_stays kinds in_body bytes (Unfinished least) e h = skipped_step kinds in_body bytes ∙ ap (λ x. skip_front (skipped kinds in_body) in_body (known_by kinds bytes) x) e
waiting_stays kinds in_body bytes (Whole f rest) e h = absurd h
waiting_stays kinds in_body bytes (Unknown kind rest) e h = absurd h
waiting_stays kinds in_body bytes (Refused why) e h = absurd h

pub finds_unfinished : (kinds : FrameKinds) (in_body : Bool) (bytes left : List ℕ) → left ≡ known_by kinds bytes → IsWaiting (frame_by kinds left) → FindsLess kinds in_body bytes left
finds_unfinished kinds in_body bytes left is h =
    let waits : IsWaiting (frame_by kinds (known_by kinds bytes)) = subst (λ l. IsWaiting (frame_by kinds l)) is h in
    (is ∙ sym (waiting_stays kinds in_body bytes (frame_by kinds (known_by kinds bytes)) refl waits), h, passes_known kinds in_body bytes left is)

pub finds_refused : (kinds : FrameKinds) (in_body : Bool) (bytes left : List ℕ) (e : FrameProtocolError) → left ≡ known_by kinds bytes → frame_by kinds left ≡ Refused (refusal e) → FindsRefused kinds in_body e bytes left
finds_refused kinds in_body bytes left e is h =
    let here : frame_by kinds (known_by kinds bytes) ≡ Refused (refusal e) = ap (frame_by kinds) (sym is) ∙ h in
    (is ∙ sym (skipped_step kinds in_body bytes ∙ ap (λ x. skip_front (skipped kinds in_body) in_body (known_by kinds bytes) x) here), h)

-- with nothing behind it
pub passed_now : (kinds : FrameKinds) (in_body : Bool) (old new : List ℕ) → PassesFrames kinds in_body old new → skipped kinds in_body new ≡ skipped kinds in_body old
passed_now kinds in_body old new p = ap (skipped kinds in_body) (sym (append-nil new)) ∙ p [] ∙ ap (skipped kinds in_body) (append-nil old)

pub found_now : (kinds : FrameKinds) (in_body : Bool) (f : Frame PayloadLen) (old new : List ℕ) → FindsFrame kinds in_body f old new → frame_by kinds (skipped kinds in_body old) ≡ Whole f new
found_now kinds in_body f old new h = ap (λ l. frame_by kinds (skipped kinds in_body l)) (sym (append-nil old)) ∙ h [] ∙ ap (λ l. Whole f l) (append-nil new)

-- **What was found is no longer than its reader takes, or is told as longer.**
front_stays : (kinds : FrameKinds) (in_body : Bool) (bytes : List ℕ) (x : Front) → frame_by kinds (known_by kinds bytes) ≡ x → ((f : Frame PayloadLen) (rest : List ℕ) → x ≡ Whole f rest → (in_body && is_empty_data f) ≡ false) → skipped kinds in_body bytes ≡ known_by kinds bytes
front_stays kinds in_body bytes (Whole f rest) e full =
    skipped_step kinds in_body bytes ∙ ap (λ x. skip_front (skipped kinds in_body) in_body (known_by kinds bytes) x) e ∙ ap (λ b. if b then skipped kinds in_body rest else known_by kinds bytes) (full f rest refl)
front_stays kinds in_body bytes (Unfinished least) e full = skipped_step kinds in_body bytes ∙ ap (λ x. skip_front (skipped kinds in_body) in_body (known_by kinds bytes) x) e
front_stays kinds in_body bytes (Unknown kind rest) e full = skipped_step kinds in_body bytes ∙ ap (λ x. skip_front (skipped kinds in_body) in_body (known_by kinds bytes) x) e
front_stays kinds in_body bytes (Refused why) e full = skipped_step kinds in_body bytes ∙ ap (λ x. skip_front (skipped kinds in_body) in_body (known_by kinds bytes) x) e

-- What is too long gives something: DATA never is.
long_is_front : (kinds : FrameKinds) (most : ℕ) (in_body : Bool) (bytes : List ℕ) → is_excessive_by kinds most (known_by kinds bytes) ≡ true → skipped kinds in_body bytes ≡ known_by kinds bytes
long_is_front kinds most in_body bytes e = front_stays kinds in_body bytes (frame_by kinds (known_by kinds bytes)) refl full
  where
    empty_is : (a b : Bool) → (a && b) ≡ true → b ≡ true
    empty_is true b h = h
    empty_is false b h = absurd (cc)

    full : (f : Frame PayloadLen) (rest : List ℕ) → frame_by kinds (known_by kinds bytes) ≡ Whole f rest → (in_body && is_empty_data f) ≡ false
    full f rest at = by_test (in_body && is_empty_data f) refl
      where
        not_empty : (g : Frame PayloadLen) → frame_by kinds (known_by kinds bytes) ≡ Whole g rest → is_empty_data g ≡ true → ⊥
        not_empty (frame.Data len) at t = no_data kinds most (known_by kinds bytes) rest len at e
        not_empty (frame.Headers section) at t = cc
        not_empty (frame.CancelPush push) at t = cc
        not_empty (frame.Settings settings) at t = cc
        not_empty (frame.PushPromise promise) at t = cc
        not_empty (frame.PriorityUpdate update) at t = cc
        not_empty (frame.Goaway number) at t = cc
        not_empty (frame.MaxPushId push) at t = cc
        not_empty (frame.WebTransportStream session) at t = cc
        not_empty (frame.Grease kind) at t = cc

        by_test : (b : Bool) → (in_body && is_empty_data f) ≡ b → b ≡ false
        by_test true t = absurd (not_empty f at (empty_is in_body (is_empty_data f) t))
        by_test false t = refl

pub long_stays : (kinds : FrameKinds) (most : ℕ) (in_body : Bool) (bytes : List ℕ) → is_excessive_by kinds most (known_by kinds bytes) ≡ true → is_excessive_by kinds most (skipped kinds in_body bytes) ≡ true
long_stays kinds most in_body bytes e = ap (is_excessive_by kinds most) (long_is_front kinds most in_body bytes e) ∙ e

pub section_stays : (kinds : FrameKinds) (most : ℕ) (in_body is_section : Bool) (bytes : List ℕ) → is_excessive_by kinds most (known_by kinds bytes) ≡ true → begins_section (known_by kinds bytes) ≡ is_section → begins_section (skipped kinds in_body bytes) ≡ is_section
section_stays kinds most in_body is_section bytes e is = ap begins_section (long_is_front kinds most in_body bytes e) ∙ is

pub within_unfinished : (kinds : FrameKinds) (most : ℕ) (in_body : Bool) (bytes left : List ℕ) → left ≡ known_by kinds bytes → IsWaiting (frame_by kinds left) → is_excessive_by kinds most (known_by kinds bytes) ≡ false → IsWithin kinds most in_body found.Unfinished bytes
within_unfinished kinds most in_body bytes left is h e = ap (is_excessive_by kinds most) (sym (finds_unfinished kinds in_body bytes left is h).0 ∙ is) ∙ e

pub within_refused : (kinds : FrameKinds) (most : ℕ) (in_body : Bool) (bytes left : List ℕ) (why : FrameProtocolError) → left ≡ known_by kinds bytes → frame_by kinds left ≡ Refused (refusal why) → is_excessive_by kinds most (known_by kinds bytes) ≡ false
    → IsWithin kinds most in_body (found.Refused why) bytes
within_refused kinds most in_body bytes left why is h e = ap (is_excessive_by kinds most) (sym (finds_refused kinds in_body bytes left why is h).0 ∙ is) ∙ e

pub within_frame : (kinds : FrameKinds) (most : ℕ) (in_body : Bool) (bytes rest : List ℕ) (f : Frame PayloadLen) → frame_by kinds (known_by kinds bytes) ≡ Whole f rest → (in_body && is_empty_data f) ≡ false → is_excessive_by kinds most (known_by kinds bytes) ≡ false
    → KeepsWithin kinds most in_body bytes
within_frame kinds most in_body bytes rest f e t none more =
    let finished : IsFinished (frame_by kinds (known_by kinds bytes)) = subst IsFinished (sym e) tt in
    let here : frame_by kinds (known_by kinds bytes ++ more) ≡ Whole f (rest ++ more) = frame_by-more kinds (known_by kinds bytes) more finished ∙ ap (λ x. with_more x more) e in
    let same : known_by kinds (bytes ++ more) ≡ known_by kinds bytes ++ more = known-more kinds bytes more ∙ known-other kinds (known_by kinds bytes ++ more) (subst IsKnown (sym here) tt) in
    let all : skipped kinds in_body (bytes ++ more) ≡ known_by kinds (bytes ++ more) =
    skipped_step kinds in_body (bytes ++ more) ∙ ap (λ x. skip_front (skipped kinds in_body) in_body (known_by kinds (bytes ++ more)) x) (known_frame-more kinds bytes rest more f e)
    ∙ ap (λ b. if b then skipped kinds in_body (rest ++ more) else known_by kinds (bytes ++ more)) t in
    ap (is_excessive_by kinds most) (all ∙ same) ∙ excessive_more kinds most (known_by kinds bytes) more finished ∙ none

too_long_on : (kinds : FrameKinds) (most : ℕ) (in_body is_section : Bool) (old mid : List ℕ) → PassesFrames kinds in_body old mid → IsTooLong kinds most in_body is_section mid → IsTooLong kinds most in_body is_section old
too_long_on kinds most in_body is_section old mid p h =
    let same = sym (passed_now kinds in_body old mid p) in
    (ap (is_excessive_by kinds most) same ∙ h.0, ap begins_section same ∙ h.1)

pub within_on : (kinds : FrameKinds) (most : ℕ) (in_body : Bool) (f : Found) (old mid : List ℕ) → PassesFrames kinds in_body old mid → IsWithin kinds most in_body f mid → IsWithin kinds most in_body f old
within_on kinds most in_body (found.Begun b) old mid p h = λ more. ap (is_excessive_by kinds most) (sym (p more)) ∙ h more
within_on kinds most in_body found.Unfinished old mid p h = ap (is_excessive_by kinds most) (sym (passed_now kinds in_body old mid p)) ∙ h
within_on kinds most in_body (found.Refused why) old mid p h = ap (is_excessive_by kinds most) (sym (passed_now kinds in_body old mid p)) ∙ h
within_on kinds most in_body found.LongSection old mid p h = too_long_on kinds most in_body true old mid p h
within_on kinds most in_body found.Excessive old mid p h = too_long_on kinds most in_body false old mid p h

pub within_now : (kinds : FrameKinds) (most : ℕ) (in_body : Bool) (f : Frame PayloadLen) (old : List ℕ) → KeepsWithin kinds most in_body old → is_excessive_by kinds most (skipped kinds in_body old) ≡ false
within_now kinds most in_body f old h = ap (λ l. is_excessive_by kinds most (skipped kinds in_body l)) (sym (append-nil old)) ∙ h []

pub finds_on : (kinds : FrameKinds) (side : Side) (place : Place) (message : Content) (f : Found) (old mid new : List ℕ) → PassesFrames kinds (is_body place) old mid → Finds kinds side place message f mid new → Finds kinds side place message f old new
finds_on kinds side place message (found.Begun b) old mid new p h = (h.0, h.1, λ more. ap (frame_by kinds) (sym (p more)) ∙ h.2 more)
finds_on kinds side place message found.Unfinished old mid new p h = (h.0 ∙ passed_now kinds (is_body place) old mid p, h.1, λ more. h.2 more ∙ p more)
finds_on kinds side place message (found.Refused why) old mid new p h = (h.0 ∙ passed_now kinds (is_body place) old mid p, h.1)
finds_on kinds side place message found.LongSection old mid new p h = λ more. h more ∙ p more
finds_on kinds side place message found.Excessive old mid new p h = tt

pub passed_then : (kinds : FrameKinds) (in_body : Bool) (old mid new : List ℕ) → PassesFrames kinds in_body old mid → PassesFrames kinds in_body mid new → PassesFrames kinds in_body old new
passed_then kinds in_body old mid new p q more = q more ∙ p more

-- A receiver that reads its frames: this was stored of it, and these pieces are left.
pub record Reads (old stored : Incoming) (left : List (List ℕ)) (in_body : Bool) : Type 0 where
  pub is : stored ≡ old
  pub body : in_body ≡ is_body old.place
  pub rest : IsRest stored.unread left

abbrev pub with_left : Incoming → List (List ℕ) → Incoming
with_left i left = record i { unread = left }

pub passes : (old stored : Incoming) (left : List (List ℕ)) (in_body : Bool) → Reads old stored left in_body → Passes old (with_left stored left)
passes old stored left in_body r = subst (λ (o : Incoming). Passes o (with_left stored left)) r.is (record { same = refl; rest = r.rest })

pub passes_frames : (kinds : FrameKinds) (old stored : Incoming) (left : List (List ℕ)) (in_body : Bool) → Reads old stored left in_body → PassesFrames kinds in_body (concat stored.unread) (concat left)
    → PassesFrames kinds (is_body old.place) (concat old.unread) (concat left)
passes_frames kinds old stored left in_body r h =
    subst (λ (o : Incoming). PassesFrames kinds (is_body old.place) (concat o.unread) (concat left)) r.is (subst (λ b. PassesFrames kinds b (concat stored.unread) (concat left)) r.body h)

-- what holds of the place and the bytes that were stored
pub stored_is : (P : Bool → List ℕ → Type 0) (old stored : Incoming) (left : List (List ℕ)) (in_body : Bool) → Reads old stored left in_body → P in_body (concat stored.unread) → P (is_body old.place) (concat old.unread)
stored_is P old stored left in_body r h =
    subst (λ (o : Incoming). P (is_body old.place) (concat o.unread)) r.is (subst (λ b. P b (concat stored.unread)) r.body h)
