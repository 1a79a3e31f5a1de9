-- Which part of a pull it is that answers.
use Rattle.std.proofs.Common.{◌≡◌, ℕ, zero, suc, ◌-◌, ◌<◌, ◌≤◌, Bool, true, false, nat_lt, if◌then◌else◌, List, [], ◌∷◌, length, refl, ap, sym, ◌∙◌, subst, arith, append-nil}
use Rattle.std.specs.Prelude.{Option, Some, None, IfSome, is_some}
use Rattle.std.specs.List.{concat}
use Rattle.std.proofs.lemmas.Bool.{lt-ltb}
use Rattle.std.proofs.lemmas.List.{length-drop}
use Rattle.h3_frames.specs.ExcessiveFrames.{is_excessive_by}
use Rattle.h3_frames.specs.Frames.{Front, Whole, Refused, Unfinished, frame_by}
use Rattle.h3_frames.specs.FrameLaws.{frame_by-nil, frame_by-shorter}
use Rattle.h3_frames.specs.Fronts.{IsFinished, IsShorter}
use Rattle.h3_frames.specs.Known.{refusal}
use Rattle.h3_frames.specs.Pieces.{without, ending}
use Rattle.h3_frames.specs.PieceLaws.{rest_is, concat-without, without-without}
use Rattle.h3_frames.specs.declared.frame.errors.FrameProtocolError.{FrameProtocolError}
use Rattle.h3_frames.specs.declared.proto.frame.PayloadLen.{PayloadLen}
use Rattle.h3_frames.specs.declared.proto.frame.Frame.{Frame}
use Rattle.h3_proto.specs.declared.stream.Side.{Side}
use Rattle.h3_qpack.specs.DecoderState.{DecoderState}
use Rattle.h3_connection.specs.declared.event.Fault.TheVariants.{Stream}
use Rattle.h3_connection.specs.declared.event.Item.TheVariants as item
use Rattle.h3_connection.specs.declared.event.Malformation.TheVariants as malformation
use Rattle.h3_connection.specs.declared.event.Pull.{Pull}
use Rattle.h3_connection.specs.declared.event.Pull.TheVariants as pull
use Rattle.h3_connection.specs.declared.event.StreamFault.{StreamFault}
use Rattle.h3_connection.specs.declared.place.Place.{Place}
use Rattle.h3_connection.specs.declared.place.Place.TheVariants.{BeforeHead, InBody, AfterTrailer, InSession}
use Rattle.h3_connection.specs.declared.setup.Announced.{Announced}
use Rattle.h3_connection.specs.Codes.{excessive_load, refusal_code}
use Rattle.h3_connection.specs.Incoming.{Incoming, Passes, is_body}
use Rattle.h3_connection.specs.Skipping.{skipped}
use Rattle.h3_connection.specs.Pulling.{Pulled, is_memory, just, connection_fault, left_with, raw, malformed, at_payload, at_section, at_frame, framed, next_frame, between_frames, excess, in_message, next_item, pull_stream}
use Rattle.h3_incoming.specs.Finding.{FindsRefused, IsTooLong}
use Rattle.h3_incoming.specs.Gives.{Gives}
use Rattle.h3_incoming.specs.Placing.{is_session}
use Rattle.h3_connection.specs.SkippingLaws.{skipped-length}
use Rattle.h3_connection.specs.StrictConnection.{kinds_of}

pub gives_as : (p q : Pulled) (answer : Pull) (new : Incoming) (before after : List ℕ) → p ≡ q → Gives q answer new before after → Gives p answer new before after
gives_as p q answer new before after e h = subst (λ x. Gives x answer new before after) (sym e) h

-- an answer with nothing to write
pub gives_just : (p : Pulled) (answer : Pull) (new : Incoming) (before after : List ℕ) → p ≡ just answer new → after ≡ before → Gives p answer new before after
gives_just p answer new before after e same =
    gives_as p (just answer new) answer new before after e (record { is = refl; replies = same ∙ sym (append-nil before) })

-- the receiver that passed some frames is that of the bytes that are left
pub left_is : (i new : Incoming) → Passes i new → new ≡ left_with i (concat new.unread)
left_is i new p = p.same ∙ ap (λ u. let x : Incoming = record i { unread = u } in x) (rest_is (length (concat new.unread)) i.unread new.unread refl p.rest)

ending_ending : (n m : ℕ) (all : List (List ℕ)) → n ≤ m → m ≤ length (concat all) → ending n (ending m all) ≡ ending n all
ending_ending n m all h k =
    let size : length (concat (ending m all)) ≡ length (concat all) - (length (concat all) - m) =
    ap length (concat-without (length (concat all) - m) all) ∙ length-drop (length (concat all) - m) (concat all) in
    without-without (length (concat (ending m all)) - n) (length (concat all) - m) all
    ∙ ap (λ count. without count all) (omega (arith, size, h, k))

pub left_left : (i : Incoming) (bytes rest : List ℕ) → length rest ≤ length bytes → length bytes ≤ length (concat i.unread) → left_with (left_with i bytes) rest ≡ left_with i rest
left_left i bytes rest h k = ap (λ u. let x : Incoming = record i { unread = u } in x) (ending_ending (length rest) (length bytes) i.unread h k)

pub none_there : {A : Type 0} (o : Option A) → is_some o ≡ false → o ≡ None
none_there None h = refl
none_there (Some x) h = absurd (cc)

pub session_there : (place : Place) → is_session place ≡ true → place ≡ InSession
session_there InSession h = refl
session_there BeforeHead h = absurd (cc)
session_there InBody h = absurd (cc)
session_there AfterTrailer h = absurd (cc)

pub none_left : (n : ℕ) → nat_lt 0 n ≡ false → n ≡ 0
none_left zero h = refl
none_left (suc n) h = let wrong : true ≡ false = sym (lt-ltb 0 (suc n) (omega arith)) ∙ h in absurd (cc)

pub some_left : (n : ℕ) → nat_lt 0 n ≡ true → 0 < n
some_left zero h = absurd (cc)
some_left (suc n) h = omega arith

pub place_passed : (old new : Incoming) → Passes old new → new.place ≡ old.place
place_passed old new p = ap {A = Incoming} (λ i. i.place) p.same

module _ (side : Side) (own : Announced) (id : ℕ) (r : DecoderState) where
  next_message : (i : Incoming) (place : Place) → is_session place ≡ false → next_item side own id r i place ≡ in_message side own id r i i.section
  next_message i BeforeHead h = refl
  next_message i InBody h = refl
  next_message i AfterTrailer h = refl
  next_message i InSession h = absurd (cc)

  pub pull_of_fault : (i : Incoming) (fault : StreamFault) → i.fault ≡ Some fault → pull_stream side own id r i ≡ just (pull.Fault (Stream fault)) i
  unfolding pull_stream
  pull_of_fault i fault e = rw e refl

  pub pull_of_end : (i : Incoming) → i.fault ≡ None → i.is_over ≡ true → pull_stream side own id r i ≡ just (pull.Item item.End) i
  unfolding pull_stream
  pull_of_end i e over = rw e (rw over refl)

  pull_of_next : (i : Incoming) → i.fault ≡ None → i.is_over ≡ false → pull_stream side own id r i ≡ next_item side own id r i i.place
  unfolding pull_stream
  pull_of_next i e over = rw e (rw over refl)

  pub pull_of_session : (i : Incoming) → i.fault ≡ None → i.is_over ≡ false → i.place ≡ InSession → pull_stream side own id r i ≡ raw i
  pull_of_session i e over place = pull_of_next i e over ∙ ap (next_item side own id r i) place

  pull_of_message : (i : Incoming) → i.fault ≡ None → i.is_over ≡ false → is_session i.place ≡ false → pull_stream side own id r i ≡ in_message side own id r i i.section
  pull_of_message i e over message = pull_of_next i e over ∙ next_message i i.place message

  pub pull_of_section : (i : Incoming) (bytes : List ℕ) → i.fault ≡ None → i.is_over ≡ false → is_session i.place ≡ false → i.section ≡ Some bytes
      → pull_stream side own id r i ≡ at_section side own id r i bytes
  pull_of_section i bytes e over message next = pull_of_message i e over message ∙ ap (in_message side own id r i) next

  pub pull_of_payload : (i : Incoming) → i.fault ≡ None → i.is_over ≡ false → is_session i.place ≡ false → i.section ≡ None → 0 < i.body_left
      → pull_stream side own id r i ≡ at_payload id i
  pull_of_payload i e over message none some =
      pull_of_message i e over message ∙ ap (in_message side own id r i) none
      ∙ ap (λ b. if b then at_payload id i else between_frames side own id r i) (lt-ltb 0 i.body_left some)

  pub pull_of_frame : (i : Incoming) → i.fault ≡ None → i.is_over ≡ false → is_session i.place ≡ false → i.section ≡ None → i.body_left ≡ 0
      → pull_stream side own id r i ≡ between_frames side own id r i
  pull_of_frame i e over message none closed =
      pull_of_message i e over message ∙ ap (in_message side own id r i) none
      ∙ ap (λ n. if nat_lt 0 n then at_payload id i else between_frames side own id r i) closed

  -- what a front that is no unfinished one gives
  next_is : (i : Incoming) (bytes : List ℕ) (x : Front) → frame_by (kinds_of own) bytes ≡ x → IsFinished x → next_frame side own id r i bytes ≡ framed side own id r i x
  next_is i [] x e h = let wrong : IsFinished (Unfinished 1) = subst IsFinished (sym e ∙ frame_by-nil (kinds_of own)) h in absurd wrong
  next_is i (byte ∷ bytes) x e h = ap (framed side own id r i) e

  -- what stands between frames is too long, or it is not
  pub between_excess : (i : Incoming) (is_section : Bool) → IsTooLong (kinds_of own) own.choices.unfinished_limit (is_body i.place) is_section (concat i.unread)
      → between_frames side own id r i ≡ (if is_section then malformed id malformation.TooLong i [] else connection_fault excessive_load (record i { unread = [] }))
  between_excess i is_section h =
      let bytes = skipped (kinds_of own) (is_body i.place) (concat i.unread) in
      ap (λ b. if b then excess id i bytes else next_frame side own id r (left_with i bytes) bytes) h.0
      ∙ ap (λ b. if b then malformed id malformation.TooLong i [] else connection_fault excessive_load (record i { unread = [] })) h.1

  pub between_within : (i : Incoming) → is_excessive_by (kinds_of own) own.choices.unfinished_limit (skipped (kinds_of own) (is_body i.place) (concat i.unread)) ≡ false
      → between_frames side own id r i ≡ next_frame side own id r (left_with i (skipped (kinds_of own) (is_body i.place) (concat i.unread))) (skipped (kinds_of own) (is_body i.place) (concat i.unread))
  between_within i e =
      let bytes = skipped (kinds_of own) (is_body i.place) (concat i.unread) in
      ap (λ b. if b then excess id i bytes else next_frame side own id r (left_with i bytes) bytes) e

  pub between_unfinished : (i new : Incoming) → Passes i new → concat new.unread ≡ skipped (kinds_of own) (is_body i.place) (concat i.unread)
      → is_excessive_by (kinds_of own) own.choices.unfinished_limit (skipped (kinds_of own) (is_body i.place) (concat i.unread)) ≡ false
      → between_frames side own id r i ≡ next_frame side own id r new (concat new.unread)
  between_unfinished i new p e within =
      between_within i within ∙ ap (λ bytes. next_frame side own id r (left_with i bytes) bytes) (sym e)
      ∙ ap (λ j. next_frame side own id r j (concat new.unread)) (sym (left_is i new p))

  pub between_refused : (i new : Incoming) (e : FrameProtocolError) → Passes i new → FindsRefused (kinds_of own) (is_body i.place) e (concat i.unread) (concat new.unread)
      → is_excessive_by (kinds_of own) own.choices.unfinished_limit (skipped (kinds_of own) (is_body i.place) (concat i.unread)) ≡ false
      → between_frames side own id r i ≡ connection_fault (refusal_code (refusal e)) new
  between_refused i new e p h within = between_unfinished i new p h.0 within ∙ next_is new (concat new.unread) (Refused (refusal e)) h.1 tt

  pub between_frame : (i new : Incoming) (f : Frame PayloadLen) → Passes i new → frame_by (kinds_of own) (skipped (kinds_of own) (is_body i.place) (concat i.unread)) ≡ Whole f (concat new.unread)
      → is_excessive_by (kinds_of own) own.choices.unfinished_limit (skipped (kinds_of own) (is_body i.place) (concat i.unread)) ≡ false
      → between_frames side own id r i ≡ at_frame side own id r side new i.place f
  between_frame i new f p e within =
      let bytes = skipped (kinds_of own) (is_body i.place) (concat i.unread) in
      let less : IsShorter (length bytes) (Whole f (concat new.unread)) = subst (IsShorter (length bytes)) e (frame_by-shorter (kinds_of own) bytes) in
      between_within i within ∙ next_is (left_with i bytes) bytes (Whole f (concat new.unread)) e tt
      ∙ ap (λ j. at_frame side own id r side j i.place f) (left_left i bytes (concat new.unread) (omega (arith, less)) (skipped-length (kinds_of own) (is_body i.place) (concat i.unread)) ∙ sym (left_is i new p))

  pub gives_section : (i : Incoming) (section : Option (List ℕ)) (answer : Pull) (new : Incoming) (before after : List ℕ) → i.fault ≡ None → i.is_over ≡ false → is_session i.place ≡ false
      → i.section ≡ section → is_some section ≡ true → IfSome section (λ bytes. is_memory answer ≡ false → Gives (at_section side own id r i bytes) answer new before after)
      → is_memory answer ≡ false → Gives (pull_stream side own id r i) answer new before after
  gives_section i (Some bytes) answer new before after e over message next some h given = gives_as _ _ answer new before after (pull_of_section i bytes e over message next) (h given)
  gives_section i None answer new before after e over message next some h given = absurd (cc)
