-- A pull of a receiver is answered alike with another limit, where both find a frame too long or none.
use Rattle.std.proofs.Common.{◌≡◌, ℕ, Bool, true, false, if◌then◌else◌, List, [], ◌∷◌, refl, ap, sym, ◌∙◌, Option, Some, None}
use Rattle.std.specs.Prelude.{nat_lt, option_map, ◌||◌}
use Rattle.std.specs.List.{concat}
use Rattle.h3_field.specs.Field.{Field}
use Rattle.h3_field.specs.Instruction.{DecoderInstruction}
use Rattle.h3_header.specs.HeadRead.{head_by}
use Rattle.h3_messages.specs.Content.{takes_trailer}
use Rattle.h3_proto.specs.declared.stream.Side.{Side}
use Rattle.h3_proto.specs.declared.stream.Side.TheVariants.{Client, Server}
use Rattle.h3_qpack.specs.DecodedSection.{BadSection, DecodedSection, Fields, Missing, decode_section}
use Rattle.h3_qpack.specs.DecoderState.{DecoderState}
use Rattle.h3_frames.specs.ExcessiveFrames.{is_excessive_by}
use Rattle.h3_frames.specs.Frames.{Front, Refused, Unfinished, Unknown, Whole, frame_by}
use Rattle.h3_frames.specs.declared.proto.frame.Frame.{Frame}
use Rattle.h3_frames.specs.declared.proto.frame.Frame.TheVariants as frame
use Rattle.h3_frames.specs.declared.proto.frame.PayloadLen.{PayloadLen}
use Rattle.h3_connection.specs.Announcing.{section_of}
use Rattle.h3_connection.specs.Control.{Found}
use Rattle.h3_connection.specs.Delivering.{with_incoming}
use Rattle.h3_connection.specs.Endpoint.{EndpointHistory, Kind, kind_of, replied}
use Rattle.h3_connection.specs.Endpoint.Kind.{OwnUnidirectional, PeerUnidirectional, Request, ServerOpened}
use Rattle.h3_connection.specs.Incoming.{Incoming, is_body}
use Rattle.h3_connection.specs.Keeping.{pulls, pulls_behind, read_all, unkept}
use Rattle.h3_connection.specs.Pulling.{Pulled, acknowledgment, at_end, at_frame, at_payload, at_section, at_trailer, begun_section, between_frames, decoded, excess, framed, in_message, judged, just, left_with, next_frame, next_item, past_section, pull_stream, read_section, told_size, with_content}
use Rattle.h3_connection.specs.Sending.{after_answer, pull_at, pull_peer, pull_request, pull_unless, pulled, pulled_unidirectional, within_limit}
use Rattle.h3_connection.specs.Skipping.{skipped}
use Rattle.h3_connection.specs.StreamSets.{stream_at}
use Rattle.h3_connection.specs.StrictMessages.{if_whole, malformation_by, violation_at}
use Rattle.h3_connection.specs.Unidirectional.{Unidirectional, pull_unidirectional}
use Rattle.h3_connection.specs.declared.event.Fault.TheVariants as fault
use Rattle.h3_connection.specs.declared.event.Item.TheVariants as item
use Rattle.h3_connection.specs.declared.event.Pull.{Pull}
use Rattle.h3_connection.specs.declared.event.Pull.TheVariants as pull
use Rattle.h3_connection.specs.declared.event.StreamFault.{StreamFault}
use Rattle.h3_connection.specs.declared.place.Place.{Place}
use Rattle.h3_connection.specs.declared.place.Place.TheVariants.{AfterTrailer, BeforeHead, InBody, InSession}
use Rattle.h3_connection.specs.declared.setup.Announced.{Announced}
use Rattle.h3_strict.specs.Limits.{limited, limited_end}
use Rattle.h3_strict.specs.Plainly.{exceeds, is_judged, judged_as, judged_at, judged_open, tells_malformed}
use Rattle.h3_frames.specs.declared.frame.kinds.FrameKinds.{FrameKinds}
use Rattle.h3_connection.specs.StrictConnection.{kinds_of}

-- a test with the same branches
either : (b : Bool) (x y v w : Pulled) → v ≡ x → w ≡ y → (if b then v else w) ≡ (if b then x else y)
either true x y v w h k = h
either false x y v w h k = k

-- The rule that a list breaks is the same.
violation_same : (most : ℕ) (side : Side) (own : Announced) (place : Place) (fields : List Field) → violation_at side (limited most own) place fields ≡ violation_at side own place fields
violation_same most Client own BeforeHead fields = refl
violation_same most Server own BeforeHead fields = refl
violation_same most side own InBody fields = refl
violation_same most side own AfterTrailer fields = refl
violation_same most side own InSession fields = refl

-- The receiver finds no frame too long, where it looks for one.
abbrev pub LooksWithin : ℕ → Incoming → Type 0
LooksWithin most i = i.fault ≡ None → i.is_over ≡ false → i.section ≡ None → nat_lt 0 i.body_left ≡ false → (kinds : FrameKinds) → is_excessive_by kinds most (skipped kinds (is_body i.place) (concat i.unread)) ≡ false

-- With either limit it finds one too long or not.
abbrev pub LooksAlike : FrameKinds → (most other : ℕ) → Incoming → Type 0
LooksAlike kinds most other i =
    i.fault ≡ None → i.is_over ≡ false → i.section ≡ None → nat_lt 0 i.body_left ≡ false
    → is_excessive_by kinds most (skipped kinds (is_body i.place) (concat i.unread)) ≡ is_excessive_by kinds other (skipped kinds (is_body i.place) (concat i.unread))

module _ (most : ℕ) (side : Side) (own : Announced) (id : ℕ) (r : DecoderState) where
  abbrev IsAlike : Incoming → Type 0
  IsAlike i = is_excessive_by (kinds_of own) most (skipped (kinds_of own) (is_body i.place) (concat i.unread)) ≡ is_excessive_by (kinds_of own) own.choices.unfinished_limit (skipped (kinds_of own) (is_body i.place) (concat i.unread))

  abbrev any : Announced
  any = limited most own

  read_same : (i : Incoming) (replies : List DecoderInstruction) (fields : List Field) → read_section side any id r i replies fields ≡ read_section side own id r i replies fields
  read_same i replies fields =
      either (nat_lt (section_of own) (told_size fields)) _ _ _ _ refl
      (ap (λ o. judged side id (with_content side own i fields) replies (if_whole i.content (if own.choices.strict_messages then option_map malformation_by o else None)) (head_by own.choices.extensions.any_protocol fields)) (violation_same most side own i.place fields))

  decoded_same : (i : Incoming) (d : DecodedSection) → decoded side any id r i d ≡ decoded side own id r i d
  decoded_same i (Fields fields count) = read_same (past_section i) (acknowledgment id count) fields
  decoded_same i (Missing count) = refl
  decoded_same i BadSection = refl

  at_same : (i : Incoming) (bytes : List ℕ) → at_section side any id r i bytes ≡ at_section side own id r i bytes
  at_same i bytes = either (nat_lt r.table.inserted i.waits_for) _ _ _ _ refl (decoded_same i (decode_section r bytes))

  trailer_same : (i : Incoming) (bytes : List ℕ) → at_trailer side any id r i bytes ≡ at_trailer side own id r i bytes
  trailer_same i bytes = either (takes_trailer i.content) _ _ _ _ (at_same (begun_section i bytes) bytes) refl

  end_same : (i : Incoming) (place : Place) → at_end side any id r i place ≡ at_end side own id r i place
  end_same i BeforeHead = refl
  end_same i InBody = refl
  end_same i AfterTrailer = refl
  end_same i InSession = refl

  frame_same : (at : Side) (i : Incoming) (place : Place) (f : Frame PayloadLen) → at_frame side any id r at i place f ≡ at_frame side own id r at i place f
  frame_same Client i BeforeHead (frame.Headers bytes) = at_same (begun_section i bytes) bytes
  frame_same Server i BeforeHead (frame.Headers bytes) = at_same (begun_section i bytes) bytes
  frame_same Client i InBody (frame.Headers bytes) = trailer_same i bytes
  frame_same Server i InBody (frame.Headers bytes) = trailer_same i bytes
  frame_same Client i InBody (frame.Data len) = refl
  frame_same Server i InBody (frame.Data len) = refl
  frame_same Server i BeforeHead (frame.WebTransportStream session) = refl
  frame_same Client i place (frame.PushPromise promise) = refl
  frame_same _ i place _ = refl

  framed_same : (i : Incoming) (f : Front) → framed side any id r i f ≡ framed side own id r i f
  framed_same i (Unfinished least) = refl
  framed_same i (Whole f rest) = frame_same side (left_with i rest) i.place f
  framed_same i (Unknown kind rest) = refl
  framed_same i (Refused e) = refl

  next_same : (i : Incoming) (bytes : List ℕ) → next_frame side any id r i bytes ≡ next_frame side own id r i bytes
  next_same i [] = either i.ended _ _ _ _ (end_same i i.place) refl
  next_same i (byte ∷ bytes) = framed_same i (frame_by (kinds_of own) (byte ∷ bytes))

  frames_same : (i : Incoming) → IsAlike i → between_frames side any id r i ≡ between_frames side own id r i
  frames_same i alike =
      let bytes = skipped (kinds_of own) (is_body i.place) (concat i.unread) in
      ap (λ b. if b then excess id i bytes else next_frame side any id r (left_with i bytes) bytes) alike
      ∙ either (is_excessive_by (kinds_of own) own.choices.unfinished_limit bytes) _ _ _ _ refl (next_same (left_with i bytes) bytes)

  message_same : (i : Incoming) (o : Option (List ℕ)) → i.section ≡ o → (o ≡ None → nat_lt 0 i.body_left ≡ false → IsAlike i)
      → in_message side any id r i o ≡ in_message side own id r i o
  message_same i (Some bytes) is within = at_same i bytes
  message_same i None is within = by_payload (nat_lt 0 i.body_left) refl
    where
      by_payload : (b : Bool) → nat_lt 0 i.body_left ≡ b → (if b then at_payload id i else between_frames side any id r i) ≡ (if b then at_payload id i else between_frames side own id r i)
      by_payload true e = refl
      by_payload false e = frames_same i (within refl e)

  item_same : (i : Incoming) (place : Place) → (i.section ≡ None → nat_lt 0 i.body_left ≡ false → IsAlike i)
      → next_item side any id r i place ≡ next_item side own id r i place
  item_same i BeforeHead within = message_same i i.section refl within
  item_same i InBody within = message_same i i.section refl within
  item_same i AfterTrailer within = message_same i i.section refl within
  item_same i InSession within = refl

  pub pull_same : (i : Incoming) → LooksAlike (kinds_of own) most own.choices.unfinished_limit i → pull_stream side any id r i ≡ pull_stream side own id r i
  unfolding pull_stream
  pull_same i within = by_fault i.fault refl
    where
      by_over : i.fault ≡ None → (b : Bool) → i.is_over ≡ b → (if b then just (pull.Item item.End) i else next_item side any id r i i.place) ≡ (if b then just (pull.Item item.End) i else next_item side own id r i i.place)
      by_over e true k = refl
      by_over e false k = item_same i i.place (within e k)

      by_fault : (f : Option StreamFault) → i.fault ≡ f
          → ◌≡◌ {A = Pulled} (elim f [ Some why ↦ just (pull.Fault (fault.Stream why)) i | None ↦ if i.is_over then just (pull.Item item.End) i else next_item side any id r i i.place ])
          (elim f [ Some why ↦ just (pull.Fault (fault.Stream why)) i | None ↦ if i.is_over then just (pull.Item item.End) i else next_item side own id r i i.place ])
      by_fault (Some why) e = refl
      by_fault None e = by_over e i.is_over refl

-- the same answer, and the endpoint after it with another limit
abbrev pub limited_result : {A : Type 0} → ℕ → A × EndpointHistory → A × EndpointHistory
limited_result most x = (x.0, limited_end most x.1)

after_same : (most : ℕ) (a : Pull) (e : EndpointHistory) → after_answer a (limited_end most e) ≡ limited_result most (after_answer a e)
after_same most (pull.Fault (fault.Connection code)) e = refl
after_same most (pull.Fault (fault.Stream f)) e = refl
after_same most (pull.Fault fault.Memory) e = refl
after_same most (pull.Item i) e = refl
after_same most pull.Pending e = refl
after_same most (pull.Waiting n) e = refl
after_same most pull.NoMessages e = refl

module _ (most : ℕ) (e : EndpointHistory) (id : ℕ) where
  request_same : (o : Option Incoming) → ((i : Incoming) → o ≡ Some i → LooksAlike (kinds_of e.announced) most e.announced.choices.unfinished_limit i) → pull_request (limited_end most e) id o ≡ limited_result most (pull_request e id o)
  request_same None within = refl
  request_same (Some i) within =
      let p = pull_stream e.side e.announced id e.decoding.decoder i in
      ap (λ q. pulled (limited_end most e) id (within_limit e id q)) (pull_same most e.side e.announced id e.decoding.decoder i (within i refl))
      ∙ after_same most (within_limit e id p).answer (replied (with_incoming e id (within_limit e id p).incoming) (within_limit e id p).replies)

  peer_same : (o : Option Unidirectional) → pull_peer (limited_end most e) id o ≡ limited_result most (pull_peer e id o)
  peer_same None = refl
  peer_same (Some o) = by_told (pull_unidirectional o o.role)
    where
      by_told : (x : Pull × Unidirectional) → pulled_unidirectional (limited_end most e) id x ≡ limited_result most (pulled_unidirectional e id x)
      by_told (a, o) = refl

  at_kind : (k : Kind) → ((i : Incoming) → stream_at e.incoming id ≡ Some i → LooksAlike (kinds_of e.announced) most e.announced.choices.unfinished_limit i) → pull_at (limited_end most e) id k ≡ limited_result most (pull_at e id k)
  at_kind Request within = request_same (stream_at e.incoming id) within
  at_kind PeerUnidirectional within = peer_same (stream_at e.unidirectional id)
  at_kind ServerOpened within = refl
  at_kind OwnUnidirectional within = refl

  unless_same : (closed : Option ℕ) (x y : Pull × EndpointHistory) → y ≡ limited_result most x → pull_unless closed (limited_end most e) y ≡ limited_result most (pull_unless closed e x)
  unless_same (Some code) x y is = refl
  unless_same None x y is = is

  -- **A pull of any stream, where nothing is kept.**
  pub pulls_same : e.kept ≡ [] → ((i : Incoming) → stream_at e.incoming id ≡ Some i → LooksAlike (kinds_of e.announced) most e.announced.choices.unfinished_limit i) → pulls (limited_end most e) id ≡ limited_result most (pulls e id)
  pulls_same none within =
      ap (λ k. pulls_behind k (limited_end most e) id) none
      ∙ unless_same e.closed (pull_at e id (kind_of e.side id)) (pull_at (limited_end most e) id (kind_of e.side id)) (at_kind (kind_of e.side id) within)
      ∙ sym (ap (λ k. limited_result most (pulls_behind k e id)) none)

  -- and whether it judges a message
  judged_same : (o : Option Incoming) → ((i : Incoming) → o ≡ Some i → LooksAlike (kinds_of e.announced) most e.announced.choices.unfinished_limit i) → judged_at (unkept (limited_end most e)) id o ≡ judged_at (unkept e) id o
  judged_same None within = refl
  judged_same (Some i) within = ap (λ (p : Pulled). tells_malformed false p.answer) (pull_same most e.side e.announced id e.decoding.decoder i (within i refl))

  kind_judged : (k : Kind) → ((i : Incoming) → stream_at e.incoming id ≡ Some i → LooksAlike (kinds_of e.announced) most e.announced.choices.unfinished_limit i) → judged_as (unkept (limited_end most e)) id k ≡ judged_as (unkept e) id k
  kind_judged Request within = judged_same (stream_at e.incoming id) within
  kind_judged PeerUnidirectional within = refl
  kind_judged ServerOpened within = refl
  kind_judged OwnUnidirectional within = refl

  open_judged : (closed : Option ℕ) → ((i : Incoming) → stream_at e.incoming id ≡ Some i → LooksAlike (kinds_of e.announced) most e.announced.choices.unfinished_limit i) → judged_open closed (unkept (limited_end most e)) id ≡ judged_open closed (unkept e) id
  open_judged (Some code) within = refl
  open_judged None within = kind_judged (kind_of e.side id) within

  -- behind what is kept
  abbrev judged_behind : Found → EndpointHistory → Bool
  judged_behind x f = exceeds f x.1 || judged_open f.closed x.0 id

  pub judges_same : e.kept ≡ [] → ((i : Incoming) → stream_at e.incoming id ≡ Some i → LooksAlike (kinds_of e.announced) most e.announced.choices.unfinished_limit i) → is_judged (limited_end most e) id ≡ is_judged e id
  judges_same none within =
      ap (λ k. judged_behind (read_all k (unkept (limited_end most e))) (limited_end most e)) none ∙ open_judged e.closed within ∙ sym (ap (λ k. judged_behind (read_all k (unkept e)) e) none)
