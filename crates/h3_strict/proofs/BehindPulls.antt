-- What a pull in front of the final head comes to at a receiver that goes on as another one: it reads the section that comes next, or leaves what is counted.
use Rattle.std.proofs.Common.{◌≡◌, ◌⊎◌, inl, inr, ℕ, ◌^◌, ◌-◌, Bool, true, false, List, [], ◌∷◌, Option, Some, None, refl, sym, ap, ◌∙◌, subst, take, length, nat_lt, if◌then◌else◌}
use Rattle.std.specs.Prelude.{◌&&◌, ◌==◌, not, unwrap_or}
use Rattle.std.specs.List.{concat}
use Rattle.h3_field.specs.Field.{Field}
use Rattle.h3_field.specs.Instruction.{DecoderInstruction}
use Rattle.h3_header.specs.Head.{Head as Header, has_pseudo}
use Rattle.h3_header.specs.HeadRead.{HeadRead, IsHead, IsNone, head_by}
use Rattle.h3_messages.specs.Content.{is_exceeded}
use Rattle.h3_proto.specs.declared.stream.Side.{Side}
use Rattle.h3_proto.specs.declared.stream.Side.TheVariants.{Client, Server}
use Rattle.h3_qpack.specs.DecodedSection.{BadSection, DecodedSection, Fields, Missing, decode_section}
use Rattle.h3_qpack.specs.DecoderState.{DecoderState}
use Rattle.h3_qpack.specs.Sizes.{told_size}
use Rattle.h3_frames.specs.ExcessiveFrames.{begins_section, is_excessive_by}
use Rattle.h3_frames.specs.ExcessiveLaws.{none_excessive_by}
use Rattle.h3_frames.specs.Frames.{Front, Refused, Unfinished, Unknown, Whole, frame_by}
use Rattle.h3_frames.specs.Pieces.{chunk_of}
use Rattle.h3_frames.specs.declared.proto.frame.Frame.{Frame}
use Rattle.h3_frames.specs.declared.proto.frame.Frame.TheVariants as frame
use Rattle.h3_frames.specs.declared.proto.frame.PayloadLen.{PayloadLen}
use Rattle.h3_connection.specs.Announcing.{section_of}
use Rattle.h3_connection.specs.Codes.{decompression_failed, excessive_load, frame_error, frame_unexpected, id_error, refusal_code}
use Rattle.h3_connection.specs.Coming.{decoded_fields, fields_in, fields_next, next_section, section_in}
use Rattle.h3_connection.specs.FlagReadLaws.{guarded_sections_read}
use Rattle.h3_connection.specs.Incoming.{Incoming, is_before_head, is_body}
use Rattle.h3_connection.specs.PartReading.{HasNoSection}
use Rattle.h3_connection.specs.Pulling.{Pulled, acknowledgment, at_end, at_frame, at_payload, at_section, begun_section, between_frames, body_of, connection_fault, decoded, excess, framed, head_or_trailer, in_message, in_payload, is_client, is_for, is_interim, judged, just, left_with, malformed, next_frame, next_item, past_section, pull_stream, read_section, tried, with_content}
use Rattle.h3_connection.specs.Skipping.{skipped}
use Rattle.h3_connection.specs.StrictConnection.{is_no_session, kinds_of}
use Rattle.h3_connection.specs.declared.event.Fault.TheVariants.{Stream}
use Rattle.h3_connection.specs.declared.event.Item.{Item}
use Rattle.h3_connection.specs.declared.event.Item.TheVariants as item
use Rattle.h3_connection.specs.declared.event.Malformation.{Malformation}
use Rattle.h3_connection.specs.declared.event.Malformation.TheVariants as malformation
use Rattle.h3_connection.specs.declared.event.Pull.{Pull}
use Rattle.h3_connection.specs.declared.event.Pull.TheVariants as pull
use Rattle.h3_connection.specs.declared.place.Place.{Place}
use Rattle.h3_connection.specs.declared.place.Place.TheVariants.{AfterTrailer, BeforeHead, InBody, InSession}
use Rattle.h3_connection.specs.declared.setup.Announced.{Announced}
use Rattle.h3_world.specs.Flow.{Flow, Part, Section}
use Rattle.h3_world.specs.Flow.Part.{Body, End, Head, Interim, Trailer}
use Rattle.h3_world.specs.Items.{IsSectionItem, body_there}
use Rattle.h3_world.specs.Order.{next_part, section_of_part}
use Rattle.h3_world.specs.Pauses.{pause_before, section_pause}
use Rattle.h3_world.specs.Sound.{IsSoundFlow}
use Rattle.h3_world.specs.World.{Party}
use Rattle.h3_headline.specs.PartLaws.{part_at}
use Rattle.h3_headline.specs.Pulling.{ComesTo, HandsOut, Pauses}
use Rattle.h3_headline.specs.Pulls.{IsListOf}
use Rattle.h3_headline.specs.Standing.{place_after}
use Rattle.h3_strict.proofs.TunnelPulls.{Stays, either, stays}
use Rattle.h3_strict.specs.Plainly.{plain, plain_incoming}
use Rattle.h3_strict.specs.Tunnels.{marked}

-- it hands something out
abbrev pub is_item : Pull → Bool
is_item (pull.Item i) = true
is_item _ = false

-- The pull reads the section of the next part, with what was counted in front of it; or it hands nothing out, and counts no more.
pub data FrontPull (side : Side) (own : Announced) (id : ℕ) (r : DecoderState) (f : Flow) (i : Incoming) (p : Pulled) : Type 0 where
  FrontStays : Stays side i.content i.response p → is_item p.answer ≡ false → FrontPull side own id r f i p
  FrontReads : (part : Part) (s : Section) (x : Incoming) (replies : List DecoderInstruction) → next_part f ≡ Some part → section_of_part (Some part) ≡ Some s → p ≡ read_section side own id r x replies s.fields → x.place ≡ BeforeHead → x.content ≡ i.content
      → x.response ≡ i.response → FrontPull side own id r f i p

-- no other part stands in front of the final head
not_front : (place : Place) → place ≡ BeforeHead → place ≡ InBody → ⊥
not_front place front body = let never : true ≡ false = ap is_before_head (sym front ∙ body) in cc

not_end : (place : Place) → place ≡ BeforeHead → (place ≡ InBody) ⊎ (place ≡ AfterTrailer) → ⊥
not_end place front (inl body) = not_front place front body
not_end place front (inr after) = let never : true ≡ false = ap is_before_head (sym front ∙ after) in cc

-- it hands out something that is no head
abbrev pub is_other : Pull → Bool
is_other (pull.Item (item.Body bytes)) = true
is_other (pull.Item (item.Session session)) = true
is_other (pull.Item (item.Raw bytes)) = true
is_other (pull.Item item.End) = true
is_other _ = false

-- The pull of a receiver, beside that of the same one where nothing is judged. It reads the section that comes next, with what was counted in front of it; or
-- it counts no more, and hands out nothing that a header is made of.
pub data Walk (side : Side) (own : Announced) (id : ℕ) (r : DecoderState) (i : Incoming) (p q : Pulled) : Type 0 where
  WalkStays : Stays side i.content i.response p → (is_item p.answer ≡ true → is_other q.answer ≡ true) → Walk side own id r i p q
  WalkReads : (x : Incoming) (replies : List DecoderInstruction) (fields : List Field) → p ≡ read_section side own id r x replies fields → q ≡ read_section side (plain own) id r (plain_incoming x) replies fields → x.place ≡ BeforeHead → x.content ≡ i.content
      → x.response ≡ i.response → fields_next (plain own) r (plain_incoming i) ≡ Some fields → Walk side own id r i p q

module _ (side : Side) (own : Announced) (id : ℕ) (r : DecoderState) (i : Incoming) (place : i.place ≡ BeforeHead) where
  abbrev Walks : Pulled → Pulled → Type 0
  Walks p q = Walk side own id r i p q

  abbrev Shows : Pulled → Pulled → Type 0
  Shows p q = is_item p.answer ≡ true → is_other q.answer ≡ true

  -- nothing is handed out, and the receiver counts the same
  quiet : (p q : Pulled) → p.incoming.content ≡ i.content → p.incoming.response ≡ i.response → is_item p.answer ≡ false → Walks p q
  quiet p q content response none =
      WalkStays (stays side i.content i.response p (λ m. ap (marked side) (sym content) ∙ m) response) (λ some. absurd (let never : false ≡ true = sym none ∙ some in cc))

  -- the message is given up
  gone : (why : Malformation) (x : Incoming) (replies : List DecoderInstruction) (q : Pulled) → x.response ≡ i.response → Walks (malformed id why x replies) q
  gone why x replies q response =
      WalkStays (record { content = λ lives. absurd (let never : (malformed id why x replies).incoming.fault ≡ None = lives in cc); response = response }) (λ some. absurd (let never : false ≡ true = some in cc))

  both : (b : Bool) (x y v w : Pulled) → Walks x v → Walks y w → Walks (if b then x else y) (if b then v else w)
  both true x y v w h k = h
  both false x y v w h k = k

  -- a section that is at hand, which is the one that comes next
  section_walks : (x : Incoming) (bytes : List ℕ) → x.place ≡ BeforeHead → x.content ≡ i.content → x.response ≡ i.response → next_section (plain own) (plain_incoming i) i.section ≡ Some bytes
      → Walks (at_section side own id r x bytes) (at_section side (plain own) id r (plain_incoming x) bytes)
  section_walks x bytes front content response next =
      both (nat_lt r.table.inserted x.waits_for) _ _ _ _ (quiet (just (pull.Waiting x.waits_for) x) _ content response refl) (by_decoded (decode_section r bytes) refl)
    where
      by_decoded : (d : DecodedSection) → decode_section r bytes ≡ d → Walks (decoded side own id r x d) (decoded side (plain own) id r (plain_incoming x) d)
      by_decoded (Fields fields count) e = WalkReads (past_section x) (acknowledgment id count) fields refl refl front content response (ap (fields_in r) next ∙ ap decoded_fields e)
      by_decoded (Missing count) e =
          both (x.waits_for == 0) _ _ _ _ (quiet (just (pull.Waiting count) (record (tried x) { waits_for = count })) _ content response refl) (quiet (connection_fault decompression_failed (past_section x)) _ content response refl)
      by_decoded BadSection e = quiet (connection_fault decompression_failed (past_section x)) _ content response refl

  -- a payload
  payload_walks : (content : Stays side i.content i.response (at_payload id i)) → Walks (at_payload id i) (at_payload id (plain_incoming i))
  payload_walks content = WalkStays content (by_content (is_exceeded i.content))
    where
      by_piece : (found : Option (List ℕ) × List (List ℕ)) → Shows (body_of i found) (body_of (plain_incoming i) found)
      by_piece (None, pieces) some = absurd (let never : false ≡ true = some in cc)
      by_piece (Some bytes, pieces) some = refl

      by_end : (b : Bool) → Shows (if b then connection_fault frame_error i else body_of i (chunk_of i.body_left i.unread)) (if b then connection_fault frame_error (plain_incoming i) else body_of (plain_incoming i) (chunk_of i.body_left i.unread))
      by_end true some = absurd (let never : false ≡ true = some in cc)
      by_end false some = by_piece (chunk_of i.body_left i.unread) some

      by_content : (b : Bool) → Shows (if b then malformed id malformation.ContentLength i [] else in_payload i) (at_payload id (plain_incoming i))
      by_content true some = absurd (let never : false ≡ true = some in cc)
      by_content false some = by_end (i.ended && nat_lt (length (concat i.unread)) i.body_left) some

  -- the frames that stand next
  frame_walks : (at : Side) (x : Incoming) (rest : List ℕ) (f : Frame PayloadLen) → x.place ≡ BeforeHead → x.content ≡ i.content → x.response ≡ i.response
      → ((bytes : List ℕ) → f ≡ frame.Headers bytes → next_section (plain own) (plain_incoming i) i.section ≡ Some bytes)
      → Walks (at_frame side own id r at x BeforeHead f) (at_frame side (plain own) id r at (plain_incoming x) BeforeHead f)
  frame_walks Client x rest (frame.Headers bytes) front content response next = section_walks (begun_section x bytes) bytes front content response (next bytes refl)
  frame_walks Server x rest (frame.Headers bytes) front content response next = section_walks (begun_section x bytes) bytes front content response (next bytes refl)
  frame_walks Server x rest (frame.WebTransportStream session) front content response next = by_session (is_no_session own session)
    where
      by_session : (b : Bool) → Walks (if b then connection_fault id_error x else just (pull.Item (item.Session session)) (record x { place = InSession }))
          (if b then connection_fault id_error (plain_incoming x) else just (pull.Item (item.Session session)) (record (plain_incoming x) { place = InSession }))
      by_session true = quiet (connection_fault id_error x) _ content response refl
      by_session false = WalkStays (stays side i.content i.response _ (λ m. ap (marked side) (sym content) ∙ m) response) (λ some. refl)
  frame_walks Client x rest (frame.PushPromise promise) front content response next = quiet (connection_fault id_error x) _ content response refl
  frame_walks at x rest f front content response next = quiet (connection_fault frame_unexpected x) _ content response refl

  framed_walks : (x : Incoming) (found : Front) → x.place ≡ BeforeHead → x.content ≡ i.content → x.response ≡ i.response
      → ((bytes rest : List ℕ) → found ≡ Whole (frame.Headers bytes) rest → next_section (plain own) (plain_incoming i) i.section ≡ Some bytes)
      → Walks (framed side own id r x found) (framed side (plain own) id r (plain_incoming x) found)
  framed_walks x (Unfinished least) front content response next = both x.ended _ _ _ _ (quiet (connection_fault frame_error x) _ content response refl) (quiet (just pull.Pending x) _ content response refl)
  framed_walks x (Whole f rest) front content response next =
      subst (λ q. Walks (at_frame side own id r side (left_with x rest) q f) (at_frame side (plain own) id r side (plain_incoming (left_with x rest)) q f)) (sym front)
      (frame_walks side (left_with x rest) rest f front content response (λ bytes is. next bytes rest (ap (λ g. Whole g rest) is)))
  framed_walks x (Unknown kind rest) front content response next = quiet (just pull.Pending x) _ content response refl
  framed_walks x (Refused e) front content response next = quiet (connection_fault (refusal_code e) x) _ content response refl

  next_walks : (x : Incoming) (bytes : List ℕ) → x.place ≡ BeforeHead → x.content ≡ i.content → x.response ≡ i.response
      → ((section rest : List ℕ) → frame_by (kinds_of own) bytes ≡ Whole (frame.Headers section) rest → next_section (plain own) (plain_incoming i) i.section ≡ Some section)
      → Walks (next_frame side own id r x bytes) (next_frame side (plain own) id r (plain_incoming x) bytes)
  next_walks x [] front content response next =
      both x.ended _ _ _ _ (subst (λ q. Walks (at_end side own id r x q) (at_end side (plain own) id r (plain_incoming x) q)) (sym front) (gone malformation.NoHead x [] _ response)) (quiet (just pull.Pending x) _ content response refl)
  next_walks x (byte ∷ bytes) front content response next = framed_walks x (frame_by (kinds_of own) (byte ∷ bytes)) front content response next

  -- what is too long ends the stream, or all
  long_walks : (bytes : List ℕ) (q : Pulled) → Walks (excess id i bytes) q
  long_walks bytes q = by_type (begins_section bytes)
    where
      by_type : (b : Bool) → Walks (if b then malformed id malformation.TooLong i [] else connection_fault excessive_load (record i { unread = [] })) q
      by_type true = gone malformation.TooLong i [] q refl
      by_type false = quiet (connection_fault excessive_load (record i { unread = [] })) q refl refl refl

  between_walks : i.section ≡ None → Walks (between_frames side own id r i) (between_frames side (plain own) id r (plain_incoming i))
  between_walks none = by_excess (is_excessive_by (kinds_of own) own.choices.unfinished_limit bytes)
    where
      bytes : List ℕ
      bytes = skipped (kinds_of own) (is_body i.place) (concat i.unread)

      plainly_is : (let x : Pulled = if is_excessive_by (kinds_of own) (2 ^ 62 - 1) bytes then excess id (plain_incoming i) bytes else next_frame side (plain own) id r (plain_incoming (left_with i bytes)) bytes in x)
          ≡ next_frame side (plain own) id r (plain_incoming (left_with i bytes)) bytes
      plainly_is = ap (λ b. let x : Pulled = if b then excess id (plain_incoming i) bytes else next_frame side (plain own) id r (plain_incoming (left_with i bytes)) bytes in x) (none_excessive_by (kinds_of own) (2 ^ 62 - 1) bytes refl)

      there : (section rest : List ℕ) → frame_by (kinds_of own) bytes ≡ Whole (frame.Headers section) rest → next_section (plain own) (plain_incoming i) i.section ≡ Some section
      there section rest e = ap (next_section (plain own) (plain_incoming i)) none ∙ ap section_in e

      by_excess : (b : Bool) → Walks (if b then excess id i bytes else next_frame side own id r (left_with i bytes) bytes) (between_frames side (plain own) id r (plain_incoming i))
      by_excess true = long_walks bytes _
      by_excess false = subst (Walks (next_frame side own id r (left_with i bytes) bytes)) (sym plainly_is) (next_walks (left_with i bytes) bytes place refl refl there)

  message_walks : (o : Option (List ℕ)) → i.section ≡ o → Stays side i.content i.response (at_payload id i) → Walks (in_message side own id r i o) (in_message side (plain own) id r (plain_incoming i) o)
  message_walks (Some bytes) e counts = section_walks i bytes place refl refl (ap (next_section (plain own) (plain_incoming i)) e)
  message_walks None e counts = both (nat_lt 0 i.body_left) _ _ _ _ (payload_walks counts) (between_walks e)

  goes_on_to : (a : Announced) (x : Incoming) → x.fault ≡ None → x.is_over ≡ false → pull_stream side a id r x ≡ next_item side a id r x x.place
  unfolding pull_stream
  goes_on_to a x e over = ap (λ o. elim o [
    | Some fault ↦ just (pull.Fault (Stream fault)) x
    | None ↦ if x.is_over then just (pull.Item item.End) x else next_item side a id r x x.place
  ]) e ∙ ap (λ b. if b then just (pull.Item item.End) x else next_item side a id r x x.place) over

  -- **A pull in front of the final head.**
  pub pull_walks : i.fault ≡ None → i.is_over ≡ false → Stays side i.content i.response (at_payload id i) → Walk side own id r i (pull_stream side own id r i) (pull_stream side (plain own) id r (plain_incoming i))
  pull_walks alive more counts =
      let first = goes_on_to own i alive more ∙ ap (next_item side own id r i) place in
      let second = goes_on_to (plain own) (plain_incoming i) alive more ∙ ap (next_item side (plain own) id r (plain_incoming i)) place in
      subst (λ p. Walks p (pull_stream side (plain own) id r (plain_incoming i))) (sym first)
      (subst (Walks (in_message side own id r i i.section)) (sym second) (message_walks i.section refl counts))

-- it tells its reader to wait
abbrev pub pauses : Pull → Bool
pauses pull.Pending = true
pauses (pull.Waiting count) = true
pauses _ = false

abbrev ArePauses : Option Pull → Type 0
ArePauses o = (x : Pull) → o ≡ Some x → pauses x ≡ true

one_pauses : (y x : Pull) → pauses y ≡ true → ◌≡◌ {A = Option Pull} (Some y) (Some x) → pauses x ≡ true
one_pauses y x h e = subst (λ z. pauses z ≡ true) (ap (λ o. unwrap_or o x) e) h

none_pauses : ArePauses None
none_pauses x e = absurd (cc)

either_pauses : (b : Bool) (o n : Option Pull) → ArePauses o → ArePauses n → ArePauses (if b then o else n)
either_pauses true o n h k = h
either_pauses false o n h k = k

section_pauses : (f : Flow) (came : ℕ) (s : Section) → ArePauses (section_pause f came s)
section_pauses f came s =
    either_pauses (nat_lt f.delivered s.own_length) (Some pull.Pending) (if nat_lt came s.count then Some (pull.Waiting s.count) else None) (λ x e. one_pauses pull.Pending x refl e)
    (either_pauses (nat_lt came s.count) (Some (pull.Waiting s.count)) None (λ x e. one_pauses (pull.Waiting s.count) x refl e) none_pauses)

pub part_pauses : (f : Flow) (came : ℕ) (o : Option Part) → ArePauses (pause_before f came o)
part_pauses f came None = λ x e. one_pauses pull.Pending x refl e
part_pauses f came (Some (Interim s)) = section_pauses f came s
part_pauses f came (Some (Head s)) = section_pauses f came s
part_pauses f came (Some (Trailer s)) = section_pauses f came s
part_pauses f came (Some (Body bytes own)) = either_pauses (body_there f bytes own == 0) (Some pull.Pending) None (λ x e. one_pauses pull.Pending x refl e) none_pauses
part_pauses f came (Some End) = either_pauses f.ended None (Some pull.Pending) none_pauses (λ x e. one_pauses pull.Pending x refl e)

no_pause : (x : Pull) → pauses x ≡ true → is_other x ≡ true → ⊥
no_pause pull.Pending h k = cc
no_pause (pull.Waiting count) h k = cc
no_pause x h k = cc

-- A section that is read tells no one to wait.
module _ (side : Side) (own : Announced) (id : ℕ) (r : DecoderState) where
  abbrev Tells : Pulled → Type 0
  Tells p = pauses p.answer ≡ false

  head_tells : (i : Incoming) (replies : List DecoderInstruction) (place : Place) (h : Header) → Tells (head_or_trailer side id i replies None place h)
  head_tells i replies BeforeHead h = either Tells (not (is_for side h)) _ _ refl (either Tells (is_client side && is_interim h.status) _ _ refl refl)
  head_tells i replies InBody h = either Tells (has_pseudo h) _ _ refl refl
  head_tells i replies AfterTrailer h = either Tells (has_pseudo h) _ _ refl refl
  head_tells i replies InSession h = either Tells (has_pseudo h) _ _ refl refl

  judged_tells : (i : Incoming) (replies : List DecoderInstruction) (read : HeadRead) → Tells (judged side id i replies None read)
  judged_tells i replies (IsNone why) = refl
  judged_tells i replies (IsHead h) = head_tells i replies i.place h

  read_tells : (i : Incoming) (replies : List DecoderInstruction) (fields : List Field) → pauses (read_section side (plain own) id r (plain_incoming i) replies fields).answer ≡ false
  read_tells i replies fields =
      either Tells (nat_lt (section_of own) (told_size fields)) _ _ refl (judged_tells (with_content side (plain own) (plain_incoming i) fields) replies (head_by true fields))

-- what a section gives is one
no_section : (kind : Header → Item) → ((h : Header) → HasNoSection (pull.Item (kind h)) → ⊥) → (most : ℕ) (fields : List Field) (it : Item) → IsSectionItem kind most fields it → HasNoSection (pull.Item it) → ⊥
no_section kind bad most fields (item.TooLarge size) is none = none
no_section kind bad most fields it is none = bad _ (subst (λ z. HasNoSection (pull.Item z)) is.0 none)

no_other : (kind : Header → Item) → ((h : Header) → is_other (pull.Item (kind h)) ≡ false) → (most : ℕ) (fields : List Field) (it : Item) → IsSectionItem kind most fields it → is_other (pull.Item it) ≡ true → ⊥
no_other kind bad most fields (item.TooLarge size) is some = cc
no_other kind bad most fields it is some = let never : false ≡ true = sym (bad _) ∙ ap (λ z. is_other (pull.Item z)) (sym is.0) ∙ some in cc

-- **Where the same receiver that judges plainly comes to the next part, and the list that comes next is that of it.**
module _ (side : Side) (own : Announced) (id : ℕ) (r : DecoderState) (most came : ℕ) (guards : Bool) (p : Party) (f : Flow) (i : Incoming) (sound : IsSoundFlow p f) (front : place_after (take f.parts_out f.sent) ≡ BeforeHead) where
  abbrev second : Pulled
  second = pull_stream side (plain own) id r (plain_incoming i)

  abbrev Comes : Option Part → Type 0
  Comes o = ComesTo most id f came o (pull_stream side (plain own) id r (plain_incoming i))

  abbrev pub ListsNext : Option Part → Type 0
  ListsNext o = HasNoSection (pull_stream side (plain own) id r (plain_incoming i)).answer ⊎ IsListOf guards (fields_next (plain own) r (plain_incoming i)) (section_of_part o)

  abbrev Fronts : Type 0
  Fronts = FrontPull side own id r f i (pull_stream side own id r i)

  -- no part in front of the final head gives something else
  never_other : (o : Option Part) → next_part f ≡ o → Comes o → is_other (pull_stream side (plain own) id r (plain_incoming i)).answer ≡ true → ⊥
  never_other o next (Pauses x pause is replies keeps) some = no_pause x (part_pauses f came o x pause) (sym (ap is_other is) ∙ some)
  never_other None next (HandsOut it pause come is replies keeps) some = come
  never_other (Some (Interim s)) next (HandsOut it pause come is replies keeps) some = no_other item.Interim (λ h. refl) most s.fields it come.1 (sym (ap is_other is) ∙ some)
  never_other (Some (Head s)) next (HandsOut it pause come is replies keeps) some = no_other item.Head (λ h. refl) most s.fields it come.1 (sym (ap is_other is) ∙ some)
  never_other (Some (Trailer s)) next (HandsOut it pause come is replies keeps) some = not_front _ front (part_at p f (Trailer s) sound next).place_is
  never_other (Some (Body bytes end)) next (HandsOut it pause come is replies keeps) some = not_front _ front (part_at p f (Body bytes end) sound next).place_is
  never_other (Some End) next (HandsOut it pause come is replies keeps) some = not_end _ front (part_at p f End sound next).place_is

  -- a section that was read is the next part's
  reads : (x : Incoming) (replies : List DecoderInstruction) (fields : List Field) → pull_stream side own id r i ≡ read_section side own id r x replies fields
      → pull_stream side (plain own) id r (plain_incoming i) ≡ read_section side (plain own) id r (plain_incoming x) replies fields → x.place ≡ BeforeHead → x.content ≡ i.content → x.response ≡ i.response
      → fields_next (plain own) r (plain_incoming i) ≡ Some fields → (o : Option Part) → next_part f ≡ o → Comes o → ListsNext o → Fronts
  reads x replies fields p_is q_is place content response came_next o next (Pauses y pause is also keeps) lists =
      absurd (let never : true ≡ false = sym (part_pauses f came o y pause) ∙ ap pauses (sym is) ∙ ap (λ (z : Pulled). pauses z.answer) q_is ∙ read_tells side own id r x replies fields in cc)
  reads x replies fields p_is q_is place content response came_next None next (HandsOut it pause come is also keeps) lists = absurd come
  reads x replies fields p_is q_is place content response came_next (Some (Trailer s)) next (HandsOut it pause come is also keeps) lists = absurd (not_front _ front (part_at p f (Trailer s) sound next).place_is)
  reads x replies fields p_is q_is place content response came_next (Some (Body bytes end)) next (HandsOut it pause come is also keeps) lists = absurd (not_front _ front (part_at p f (Body bytes end) sound next).place_is)
  reads x replies fields p_is q_is place content response came_next (Some End) next (HandsOut it pause come is also keeps) lists = absurd (not_end _ front (part_at p f End sound next).place_is)
  reads x replies fields p_is q_is place content response came_next (Some (Interim s)) next (HandsOut it pause come is also keeps) (inl none) =
      absurd (no_section item.Interim (λ h k. k) most s.fields it come.1 (subst HasNoSection is none))
  reads x replies fields p_is q_is place content response came_next (Some (Head s)) next (HandsOut it pause come is also keeps) (inl none) =
      absurd (no_section item.Head (λ h k. k) most s.fields it come.1 (subst HasNoSection is none))
  reads x replies fields p_is q_is place content response came_next (Some (Interim s)) next (HandsOut it pause come is also keeps) (inr list) =
      FrontReads (Interim s) s x replies next refl (p_is ∙ ap (read_section side own id r x replies) (ap (λ l. unwrap_or l fields) (sym came_next ∙ list)) ∙ guarded_sections_read guards side own id r x replies s.fields) place content response
  reads x replies fields p_is q_is place content response came_next (Some (Head s)) next (HandsOut it pause come is also keeps) (inr list) =
      FrontReads (Head s) s x replies next refl (p_is ∙ ap (read_section side own id r x replies) (ap (λ l. unwrap_or l fields) (sym came_next ∙ list)) ∙ guarded_sections_read guards side own id r x replies s.fields) place content response

  pub front_behind : Walk side own id r i (pull_stream side own id r i) (pull_stream side (plain own) id r (plain_incoming i)) → ComesTo most id f came (next_part f) (pull_stream side (plain own) id r (plain_incoming i)) → ListsNext (next_part f)
      → FrontPull side own id r f i (pull_stream side own id r i)
  front_behind (WalkReads x replies fields p_is q_is place content response came_next) comes lists = reads x replies fields p_is q_is place content response came_next (next_part f) refl comes lists
  front_behind (WalkStays still shows) comes lists = by_item (is_item (pull_stream side own id r i).answer) refl
    where
      by_item : (b : Bool) → is_item (pull_stream side own id r i).answer ≡ b → Fronts
      by_item false e = FrontStays still e
      by_item true e = absurd (never_other (next_part f) refl comes (shows e))
