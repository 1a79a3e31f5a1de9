-- No delivery between two ends is too long, if each takes the other's settings and GOAWAY frames.
use Rattle.std.proofs.Common.{◌≡◌, ℕ, ◌+◌, ◌-◌, ◌≤◌, Bool, true, false, not, ◌&&◌, List, [], ◌∷◌, ◌++◌, flat_map, Option, Some, None, refl, sym, ap, ◌∙◌, arith, length, take, drop, append-nil, append_assoc, take-append-drop, if◌then◌else◌, nat_le, nat_lt}
use Rattle.std.specs.List.{AllByRecursion}
use Rattle.std.specs.Prelude.{◌==◌, is_some}
use Rattle.h3_coding.specs.Encodings.{encoding}
use Rattle.h3_field.specs.Instruction.{DecoderInstruction, decoder_bytes, encoder_bytes}
use Rattle.h3_field.specs.InstructionAnswer.{IsReply}
use Rattle.h3_proto.specs.Pairs.{payload_of}
use Rattle.h3_proto.specs.StreamIds.{is_request_stream}
use Rattle.h3_proto.specs.declared.stream.Side.{Side}
use Rattle.h3_proto.specs.declared.stream.Side.TheVariants.{Client, Server}
use Rattle.h3_connection.specs.Codes.{closed_critical_stream, decoder_stream_error, id_error}
use Rattle.h3_connection.specs.Control.{Found, if_learned, read_decoder, read_encoder, taken_peer, then_decoder, with_table}
use Rattle.h3_connection.specs.Delivering.{end_at, push_code, reset_at, unidirectional_at, unless_second, with_unidirectional}
use Rattle.h3_connection.specs.Endpoint.{EndpointHistory, Kind, Own, bytes_waiting, goaway_encoding, is_second, kind_of, limit_of}
use Rattle.h3_connection.specs.Endpoint.Kind.{OwnUnidirectional, PeerUnidirectional, Request, ServerOpened}
use Rattle.h3_connection.specs.ExcessiveInstructions.{hear_up_to, listen_up_to}
use Rattle.h3_connection.specs.Keeping.{arrives}
use Rattle.h3_connection.specs.Listeners.{hearing_fault, listening_fault}
use Rattle.h3_connection.specs.OwnIds.{control_id, decoder_id, encoder_id, is_own, other}
use Rattle.h3_connection.specs.PeerReading.{Peer, PeerFound, read_peer, with_unread}
use Rattle.h3_connection.specs.Shown.{has_outgoing, is_finished, is_reset, waiting}
use Rattle.h3_connection.specs.StreamSets.{stream_at}
use Rattle.h3_connection.specs.StrictConnection.{is_no_session, is_strict, kinds_of, known_streams}
use Rattle.h3_connection.specs.StrictConnectionLaws.{fault_as_found}
use Rattle.h3_connection.specs.Unidirectional.{Role, is_critical, role_after}
use Rattle.h3_connection.specs.Unidirectional.Role.{Control, Decoder, Encoder, Ignored, Push, Session, Untold, Other}
use Rattle.h3_connection.specs.declared.arrival.Arrival.{Arrival}
use Rattle.h3_connection.specs.declared.arrival.Arrival.TheVariants.{BytesCame, EndCame, ResetCame}
use Rattle.h3_connection.specs.declared.event.Refusal.{Refusal}
use Rattle.h3_connection.specs.declared.event.Refusal.TheVariants as refusal
use Rattle.h3_connection.specs.declared.setup.Announced.{Announced}
use Rattle.h3_qpack.specs.Encodings.{IsWrittenInstruction}
use Rattle.h3_qpack.specs.ShortInstructionLaws.{reply_short}
use Rattle.h3_qpack.specs.WholeInstructions.{rest_in, whole_in}
use Rattle.h3_world.specs.Delivering.{reset_code}
use Rattle.h3_world.specs.Ends as ends_of
use Rattle.h3_world.specs.Ends.{Ends, delivery, done, end_delivery, reset_delivery, was_offered}
use Rattle.h3_world.specs.Headline.{is_connection_fault}
use Rattle.h3_world.specs.OwnStreams.{settings_bytes}
use Rattle.h3_world.specs.declared.event.Answer.{Answer}
use Rattle.h3_world.specs.declared.event.Answer.TheVariants as answer
use Rattle.h3_headline.specs.ComingLaws.{kind_is}
use Rattle.h3_headline.specs.EncoderStreamLaws.{all_dropped}
use Rattle.h3_headline.specs.OwnEventLaws.{each_own}
use Rattle.h3_headline.specs.PeerStreams.{Announces, IsTyped, behind_type, no_limit, role_by, settings_frame_of, with_role}
use Rattle.h3_headline.specs.RoleLaws.{peer_stream, role_then, with_role_then, typed_control, typed_decoder, typed_encoder}
use Rattle.h3_headline.specs.Standing.{AreGoaways, IsPeerStream, replies_unread}
use Rattle.h3_headline.specs.UnitLaws.{goes_on}
use Rattle.h3_headline.specs.WritesMoreLaws.{type_of_control, type_of_decoder, type_of_encoder}
use Rattle.h3_strict.proofs.ControlTaken.{control_fits}
use Rattle.h3_strict.proofs.ControlTexts.{Fits}
use Rattle.h3_strict.proofs.InstructionsFit.{AreShort, AreShortReplies, hearing_fits, listening_fits}
use Rattle.h3_strict.proofs.KeepsCounts.{if_learned_same}
use Rattle.h3_strict.proofs.LimitPulls.{limited_result}
use Rattle.h3_strict.proofs.LimitReading.{ArrivesWithin, Exceeds, Otherwise, arrives_within, loose, told_arrival, told_as, told_bytes, told_control, told_role}
use Rattle.h3_strict.proofs.LimitSteps.{IsWithin, at_end}
use Rattle.h3_strict.proofs.PlainReading.{learned_limit, read_if}
use Rattle.h3_strict.specs.Limits.{limited_end, unlimited_ends}
use Rattle.h3_strict.specs.Plainly.{is_excess}

-- it is not too long, as an end tells that asks for no strict connection
abbrev pub FoundFits : Found → Type 0
FoundFits x = is_excess false x.1 ≡ false

-- the settings come, and with them what waited of the decoder stream
then_fits : (before after : Option (List (ℕ × ℕ))) (e : EndpointHistory) (fault : Option ℕ) → is_excess false fault ≡ false → ((pairs : List (ℕ × ℕ)) → before ≡ None → after ≡ Some pairs → FoundFits (read_decoder e []))
    → FoundFits (then_decoder before after e fault)
then_fits before after e (Some code) h waited = h
then_fits None (Some pairs) e None h waited = waited pairs refl refl
then_fits None None e None h waited = refl
then_fits (Some known) after e None h waited = refl

-- who learns the settings goes on with what it has of its peer
learned_keeps : (b : Bool) (e : EndpointHistory) (capacity blocked : ℕ)
    → ((if b then with_table e capacity blocked else e).peer ≡ e.peer) × ((if b then with_table e capacity blocked else e).decoder_unread ≡ e.decoder_unread)
learned_keeps true e capacity blocked = (refl, refl)
learned_keeps false e capacity blocked = (refl, refl)

if_learned_keeps : (before after : Option (List (ℕ × ℕ))) (e : EndpointHistory) → ((if_learned before after e).peer ≡ e.peer) × ((if_learned before after e).decoder_unread ≡ e.decoder_unread)
if_learned_keeps None (Some pairs) e = learned_keeps _ e _ _
if_learned_keeps None None e = (refl, refl)
if_learned_keeps (Some known) after e = (refl, refl)

second_fits : (b : Bool) (e : EndpointHistory) (x : Found) → FoundFits x → FoundFits (unless_second b e x)
second_fits true e x h = refl
second_fits false e x h = h

push_fits : (side : Side) → is_excess false (Some (push_code side)) ≡ false
push_fits Client = refl
push_fits Server = refl

session_fits : (b : Bool) → is_excess false (if b then Some id_error else None) ≡ false
session_fits true = refl
session_fits false = refl

-- what comes for a role
abbrev pub RoleFits : EndpointHistory → ℕ → Role → List ℕ → Type 0
RoleFits e id Control bytes = FoundFits (told_control (record e { control_on = Some id }) bytes)
RoleFits e id Encoder bytes = FoundFits (read_encoder (record (loose e) { encoder_on = Some id }) bytes)
RoleFits e id Decoder bytes = FoundFits (read_decoder (record (loose e) { decoder_on = Some id }) bytes)
RoleFits e id _ bytes = Unit {0}

pub heard_fits : (e : EndpointHistory) (id : ℕ) (role : Role) (bytes : List ℕ) → RoleFits e id role bytes → FoundFits (told_as e id role bytes)
heard_fits e id (Untold front) bytes h = refl
heard_fits e id Control bytes h = second_fits (is_second e.control_on id) (loose e) (told_control (record e { control_on = Some id }) bytes) h
heard_fits e id Encoder bytes h = second_fits (is_second e.encoder_on id) (loose e) (read_encoder (record (loose e) { encoder_on = Some id }) bytes) h
heard_fits e id Decoder bytes h = second_fits (is_second e.decoder_on id) (loose e) (read_decoder (record (loose e) { decoder_on = Some id }) bytes) h
heard_fits e id (Session n) bytes h = session_fits (is_no_session (loose e).announced n)
heard_fits e id (Push n) bytes h = push_fits e.side
heard_fits e id Ignored bytes h = refl
heard_fits e id (Other kind) bytes h = refl

-- an end or a reset is no frame
critical_fits : (b : Bool) → is_excess false (if b then Some closed_critical_stream else None) ≡ false
critical_fits true = refl
critical_fits false = refl

pub end_fits : (e : EndpointHistory) (id : ℕ) (k : Kind) → FoundFits (end_at e id k)
end_fits e id Request = refl
end_fits e id ServerOpened = refl
end_fits e id OwnUnidirectional = refl
end_fits e id PeerUnidirectional = critical_fits (is_critical (unidirectional_at e id).role)

pub reset_fits : (e : EndpointHistory) (id code : ℕ) (k : Kind) → FoundFits (reset_at e id code k)
reset_fits e id code Request = refl
reset_fits e id code ServerOpened = refl
reset_fits e id code OwnUnidirectional = refl
reset_fits e id code PeerUnidirectional = critical_fits (is_critical (unidirectional_at e id).role)

-- what the bytes of a stream do that told its type
pub told_typed : (e : EndpointHistory) (id kind : ℕ) (role : Role) (came count : ℕ) (units : List ℕ) → IsTyped kind role → IsPeerStream came role (stream_at e.unidirectional id)
    → told_bytes e id (take count (drop came (kind ∷ units))) PeerUnidirectional ≡ told_as (with_unidirectional e id (with_role (role_by (came + count) role))) id (role_by (came + count) role) (behind_type came count units)
told_typed e id kind role came count units t h =
    let bytes = take count (drop came (kind ∷ units)) in
    let next = role_by (came + count) role in
    let rest = behind_type came count units in
    ap (λ o. told_role e id o (role_after (known_streams e.announced) o.role bytes)) (peer_stream came role (stream_at e.unidirectional id) h)
    ∙ ap (λ x. told_role e id (with_role (role_by came role)) x) (role_then (known_streams e.announced) kind role came count units t)
    ∙ ap (λ o. told_as (with_unidirectional e id o) id next rest) (with_role_then kind role (role_by came role) rest (came + count == 0) t)

-- What holds of a reader and of a writer, which wrote that on its own streams.
pub record Carries (setup_of : Announced) (limit : ℕ) (writer : Side) (own : Own) (er ew : EndpointHistory) : Type 0 where
  pub side_is : er.side ≡ other writer
  pub nothing_kept : er.kept ≡ []
  pub limit_is : limit_of er ≡ limit
  pub control_is : IsPeerStream own.control_taken Control (stream_at er.unidirectional (control_id writer))
  pub encoder_is : IsPeerStream own.encoder_taken Encoder (stream_at er.unidirectional (encoder_id writer))
  pub decoder_is : IsPeerStream own.decoder_taken Decoder (stream_at er.unidirectional (decoder_id writer))
  pub unread : er.peer.unread ≡ (if nat_le (length (settings_bytes setup_of)) own.control_taken then rest_in goaway_encoding (own.control_taken - length (settings_bytes setup_of)) own.goaways else drop 1 (take own.control_taken (settings_bytes setup_of)))
  pub control_waits : bytes_waiting ew (control_id writer) ≡ drop own.control_taken (settings_bytes setup_of ++ flat_map goaway_encoding own.goaways)
  pub encoder_waits : bytes_waiting ew (encoder_id writer) ≡ drop own.encoder_taken (encoding 2 ++ flat_map encoder_bytes own.instructions)
  pub decoder_waits : bytes_waiting ew (decoder_id writer) ≡ drop own.decoder_taken (encoding 3 ++ flat_map decoder_bytes own.replies)
  pub encoder_unread : er.decoding.unread ≡ rest_in encoder_bytes (own.encoder_taken - 1) own.instructions
  pub decoder_unread : er.decoder_unread ≡ replies_unread (is_some er.peer.settings) own.decoder_taken own.replies
  pub requests : (id : ℕ) → is_own writer id ≡ false → has_outgoing ew id ≡ true → is_request_stream id ≡ true
  pub goaways : AreGoaways writer None own.goaways
  pub instructions : AllByRecursion IsWrittenInstruction own.instructions
  pub short : AreShort limit own.instructions
  pub replies : AllByRecursion IsReply own.replies
  pub announces : Announces setup_of
  pub settings_taken : length (payload_of setup_of.settings) ≤ limit
  pub room : 10 ≤ limit

pub replies_short : (limit : ℕ) (is : List DecoderInstruction) → 10 ≤ limit → AreShortReplies limit is
replies_short limit [] room = tt
replies_short limit (i ∷ is) room = (omega (arith, room, reply_short i), replies_short limit is room)

module _ (a : Announced) (limit : ℕ) (writer : Side) (own : Own) (er ew : EndpointHistory) (c : Carries a limit writer own er ew) where
  abbrev ComesFit : ℕ → ℕ → Type 0
  ComesFit count id = FoundFits (told_bytes er id (take count (bytes_waiting ew id)) (kind_of er.side id))

  pub told_fits : (b : Bool) (e : EndpointHistory) (id : ℕ) (role : Role) (bytes : List ℕ) → RoleFits e id role bytes → RoleFits e id (if b then Untold [] else role) bytes
  told_fits true e id role bytes h = tt
  told_fits false e id role bytes h = h

  -- the reader of one of the writer's streams
  abbrev reading : ℕ → ℕ → ℕ → Role → EndpointHistory
  reading count id came role = with_unidirectional er id (with_role (role_by (came + count) role))

  typed_comes : (count id kind came : ℕ) (role : Role) (units : List ℕ) → IsTyped kind role → kind_of er.side id ≡ PeerUnidirectional → IsPeerStream came role (stream_at er.unidirectional id)
      → bytes_waiting ew id ≡ drop came (kind ∷ units) → RoleFits (reading count id came role) id role (behind_type came count units) → ComesFit count id
  typed_comes count id kind came role units typed there is waits fits =
      ap (λ k. is_excess false (told_bytes er id (take count (bytes_waiting ew id)) k).1) there
      ∙ ap (λ l. is_excess false (told_bytes er id (take count l) PeerUnidirectional).1) waits
      ∙ ap (λ (x : Found). is_excess false x.1) (told_typed er id kind role came count units typed is)
      ∙ heard_fits (reading count id came role) id (role_by (came + count) role) (behind_type came count units) (told_fits (came + count == 0) (reading count id came role) id role (behind_type came count units) fits)

  -- what waited of the decoder stream is read once the settings are known
  pub listened_fits : (e : EndpointHistory) (is : List DecoderInstruction) (bytes more : List ℕ) → is_some e.peer.settings ≡ true → is_strict e.announced ≡ false → limit_of e ≡ limit → AllByRecursion IsReply is
      → (e.decoder_unread ++ bytes) ++ more ≡ flat_map decoder_bytes is → FoundFits (read_decoder e bytes)
  listened_fits e is bytes more known off same w all =
      ap (λ b. is_excess false (read_if b e bytes).1) known
      ∙ ap (is_excess false) (fault_as_found e.announced decoder_stream_error (listening_fault (limit_of e) (listen_up_to (limit_of e) e.encoder (e.decoder_unread ++ bytes))) off)
      ∙ ap (λ n. is_excess false (listening_fault n (listen_up_to n e.encoder (e.decoder_unread ++ bytes)))) same
      ∙ listening_fits limit is e.encoder (e.decoder_unread ++ bytes) more w (replies_short limit is c.room) all

  waited_fits : (p : Peer) (pairs : List (ℕ × ℕ)) (e : EndpointHistory) → e.peer ≡ p → p.settings ≡ Some pairs → is_strict e.announced ≡ false → limit_of e ≡ limit → e.decoder_unread ≡ er.decoder_unread → er.peer.settings ≡ None
      → FoundFits (read_decoder e [])
  waited_fits p pairs e has settings off same unread unknown =
      let all = flat_map decoder_bytes own.replies in
      let front = take (own.decoder_taken - 1) all in
      let waited : e.decoder_unread ≡ front = unread ∙ c.decoder_unread ∙ ap (λ (o : Option (List (ℕ × ℕ))). replies_unread (is_some o) own.decoder_taken own.replies) unknown in
      listened_fits e own.replies [] (drop (own.decoder_taken - 1) all) (ap (λ (q : Peer). is_some q.settings) has ∙ ap (λ (o : Option (List (ℕ × ℕ))). is_some o) settings) off same c.replies
      (ap (λ l. l ++ drop (own.decoder_taken - 1) all) (append-nil e.decoder_unread ∙ waited) ∙ take-append-drop (own.decoder_taken - 1) all)

  pub peer_fits : (e : EndpointHistory) (x : PeerFound) → Fits x → is_strict e.announced ≡ false → limit_of e ≡ limit → (er.peer.settings ≡ None → e.decoder_unread ≡ er.decoder_unread) → e.peer.settings ≡ er.peer.settings → FoundFits (taken_peer e x)
  peer_fits e (p, fault) h off same unread known =
      let before = e.peer.settings in
      let f : EndpointHistory = record e { peer = p } in
      let kept = if_learned_keeps before p.settings f in
      then_fits before p.settings (if_learned before p.settings f) fault h
      (λ pairs none some. waited_fits p pairs (if_learned before p.settings f) kept.0 some (ap is_strict (if_learned_same before p.settings f).announced ∙ off) (learned_limit before p.settings f ∙ same) (kept.1 ∙ unread (sym known ∙ none)) (sym known ∙ none))

  control_comes : (count : ℕ) → ComesFit count (control_id writer)
  control_comes count =
      let id = control_id writer in
      let came = own.control_taken in
      let units = settings_frame_of a ++ flat_map goaway_encoding own.goaways in
      let e : EndpointHistory = loose (record (reading count id came Control) { control_on = Some id }) in
      let text : settings_bytes a ++ flat_map goaway_encoding own.goaways ≡ 0 ∷ units =
      append_assoc (encoding 0) (settings_frame_of a) (flat_map goaway_encoding own.goaways) ∙ ap (λ k. k ++ units) type_of_control in
      let fits : Fits (read_peer (kinds_of er.announced) (limit_of er) er.side (with_unread er.peer (er.peer.unread ++ behind_type came count units))) =
      ap (λ n. is_excess false (read_peer (kinds_of er.announced) n er.side (with_unread er.peer (er.peer.unread ++ behind_type came count units))).1) c.limit_is
      ∙ control_fits (kinds_of er.announced) limit er.side writer er.peer a came count own.goaways c.announces c.settings_taken (omega (arith, c.room)) c.goaways (nat_le (length (settings_bytes a)) came) refl c.unread in
      typed_comes count id 0 came Control units typed_control (kind_at id (kind_of_own writer)) c.control_is (c.control_waits ∙ ap (drop came) text)
      (peer_fits e (read_peer (kinds_of er.announced) (limit_of er) er.side (with_unread er.peer (er.peer.unread ++ behind_type came count units))) fits refl c.limit_is (λ none. refl) refl)
    where
      kind_of_own : (s : Side) → kind_of (other s) (control_id s) ≡ PeerUnidirectional
      kind_of_own Client = refl
      kind_of_own Server = refl

      kind_at : (id : ℕ) → kind_of (other writer) id ≡ PeerUnidirectional → kind_of er.side id ≡ PeerUnidirectional
      kind_at id is = ap (λ s. kind_of s id) c.side_is ∙ is

  -- what waited and what comes begins the instructions that are not whole yet
  encoder_comes : (count : ℕ) → ComesFit count (encoder_id writer)
  encoder_comes count =
      let id = encoder_id writer in
      let came = own.encoder_taken in
      let is = own.instructions in
      let whole = whole_in encoder_bytes (came - 1) is in
      let g = goes_on encoder_bytes (came - 1) (came + count - 1) is (omega arith) in
      let left = drop whole is in
      let bytes = er.decoding.unread ++ behind_type came count (flat_map encoder_bytes is) in
      let more = drop g.count (flat_map encoder_bytes left) in
      let front : bytes ≡ take g.count (flat_map encoder_bytes left) = ap (λ l. l ++ behind_type came count (flat_map encoder_bytes is)) c.encoder_unread ∙ g.bytes in
      let all : bytes ++ more ≡ flat_map encoder_bytes left = ap (λ l. l ++ more) front ∙ take-append-drop g.count (flat_map encoder_bytes left) in
      typed_comes count id 2 came Encoder (flat_map encoder_bytes is) typed_encoder (ap (λ s. kind_of s id) c.side_is ∙ kind_of_encoders writer) c.encoder_is
      (c.encoder_waits ∙ ap (λ k. drop came (k ++ flat_map encoder_bytes is)) type_of_encoder)
      (ap (λ n. is_excess false (hearing_fault n (hear_up_to n er.decoding.decoder bytes))) c.limit_is
      ∙ hearing_fits limit left er.decoding.decoder bytes more (all_dropped IsWrittenInstruction whole is c.instructions) (all_dropped (λ i. length (encoder_bytes i) ≤ limit) whole is c.short) all)
    where
      kind_of_encoders : (s : Side) → kind_of (other s) (encoder_id s) ≡ PeerUnidirectional
      kind_of_encoders Client = refl
      kind_of_encoders Server = refl

  decoder_comes : (count : ℕ) → ComesFit count (decoder_id writer)
  decoder_comes count =
      typed_comes count id 3 came Decoder (flat_map decoder_bytes is) typed_decoder (ap (λ s. kind_of s id) c.side_is ∙ kind_of_decoders writer) c.decoder_is
      (c.decoder_waits ∙ ap (λ k. drop came (k ++ flat_map decoder_bytes is)) type_of_decoder) (by_settings (is_some er.peer.settings) refl)
    where
      id : ℕ
      id = decoder_id writer

      came : ℕ
      came = own.decoder_taken

      is : List DecoderInstruction
      is = own.replies

      comes : List ℕ
      comes = behind_type came count (flat_map decoder_bytes is)

      e : EndpointHistory
      e = record (loose (reading count id came Decoder)) { decoder_on = Some id }

      -- before the settings it waits
      by_settings : (b : Bool) → is_some er.peer.settings ≡ b → FoundFits (read_decoder e comes)
      by_settings false unknown = ap (λ b. is_excess false (read_if b e comes).1) unknown
      by_settings true known =
          let whole = whole_in decoder_bytes (came - 1) is in
          let g = goes_on decoder_bytes (came - 1) (came + count - 1) is (omega arith) in
          let left = drop whole is in
          let more = drop g.count (flat_map decoder_bytes left) in
          let unread : er.decoder_unread ≡ rest_in decoder_bytes (came - 1) is = c.decoder_unread ∙ ap (λ b. replies_unread b came is) known in
          let front : er.decoder_unread ++ comes ≡ take g.count (flat_map decoder_bytes left) = ap (λ l. l ++ comes) unread ∙ g.bytes in
          let all : (er.decoder_unread ++ comes) ++ more ≡ flat_map decoder_bytes left = ap (λ l. l ++ more) front ∙ take-append-drop g.count (flat_map decoder_bytes left) in
          listened_fits e left comes more known refl c.limit_is (all_dropped IsReply whole is c.replies) all

      kind_of_decoders : (s : Side) → kind_of (other s) (decoder_id s) ≡ PeerUnidirectional
      kind_of_decoders Client = refl
      kind_of_decoders Server = refl

  own_comes : (count id : ℕ) → is_own writer id ≡ true → ComesFit count id
  own_comes count id own_id = each_own (ComesFit count) writer id own_id (control_comes count) (encoder_comes count) (decoder_comes count)

  -- **What waits of any stream.**
  pub comes_fit : (count id : ℕ) → has_outgoing ew id ≡ true → FoundFits (told_arrival er (BytesCame id (take count (bytes_waiting ew id))))
  comes_fit count id has = by_own (is_own writer id) refl
    where
      by_own : (b : Bool) → is_own writer id ≡ b → ComesFit count id
      by_own true is = own_comes count id is
      by_own false is = ap (λ k. is_excess false (told_bytes er id (take count (bytes_waiting ew id)) k).1) (kind_is er.side id (c.requests id is has))

-- An answer that tells of no fault of the connection.
abbrev IsQuiet : Answer → Type 0
IsQuiet a = is_connection_fault a ≡ false

refused_within : (strict : Bool) (r : Refusal) → IsQuiet (answer.Refused r) → IsWithin strict (answer.Refused r)
refused_within strict (refusal.Connection code) quiet = absurd (cc)
refused_within strict r quiet = refl

-- a test of the writer
by_test : (strict b : Bool) (x y v w : Answer × Ends) → IsWithin strict x.0 → (b ≡ false → IsQuiet w.0 → IsWithin strict y.0) → IsQuiet (if b then v else w).0 → IsWithin strict (if b then x else y).0
by_test strict true x y v w h k quiet = h
by_test strict false x y v w h k quiet = k refl quiet

has_one : (b : Bool) → not b ≡ false → b ≡ true
has_one true h = refl
has_one false h = absurd (cc)

-- what is not too long is answered as by the reader without a limit
offered_quiet : (strict : Bool) (ends : Ends) (writer : Side) (id count : ℕ) (x : Option Refusal × EndpointHistory) → IsQuiet (was_offered (unlimited_ends ends) writer id count (limited_result no_limit x)).0
    → IsWithin strict (was_offered ends writer id count x).0
offered_quiet strict ends writer id count (None, e) quiet = refl
offered_quiet strict ends writer id count (Some r, e) quiet = refused_within strict r quiet

offered_fits : (strict : Bool) (own : Announced) (ends : Ends) (writer : Side) (id count : ℕ) (x y : Option Refusal × EndpointHistory) (told : Found) → ArrivesWithin no_limit own x y told → FoundFits told
    → IsQuiet (was_offered (unlimited_ends ends) writer id count y).0 → IsWithin strict (was_offered ends writer id count x).0
offered_fits strict own ends writer id count x y told (Exceeds code is refused long) fits quiet = absurd (let never : true ≡ false = sym (ap (is_excess false) long) ∙ fits in cc)
offered_fits strict own ends writer id count x y told (Otherwise same) fits quiet =
    offered_quiet strict ends writer id count x (sym (ap (λ (z : Option Refusal × EndpointHistory). is_connection_fault (was_offered (unlimited_ends ends) writer id count z).0) same) ∙ quiet)

done_quiet : (strict : Bool) (ends : Ends) (side : Side) (x : Option Refusal × EndpointHistory) → IsQuiet (done (unlimited_ends ends) side answer.Done (limited_result no_limit x)).0
    → IsWithin strict (done ends side answer.Done x).0
done_quiet strict ends side (None, e) quiet = refl
done_quiet strict ends side (Some r, e) quiet = refused_within strict r quiet

done_fits : (strict : Bool) (own : Announced) (ends : Ends) (side : Side) (x y : Option Refusal × EndpointHistory) (told : Found) → ArrivesWithin no_limit own x y told → FoundFits told
    → IsQuiet (done (unlimited_ends ends) side answer.Done y).0 → IsWithin strict (done ends side answer.Done x).0
done_fits strict own ends side x y told (Exceeds code is refused long) fits quiet = absurd (let never : true ≡ false = sym (ap (is_excess false) long) ∙ fits in cc)
done_fits strict own ends side x y told (Otherwise same) fits quiet =
    done_quiet strict ends side x (sym (ap (λ (z : Option Refusal × EndpointHistory). is_connection_fault (done (unlimited_ends ends) side answer.Done z).0) same) ∙ quiet)

-- **The deliveries of two ends, of which those without limits find no fault.**
module _ (ends : Ends) (writer : Side) (a : Announced) (limit : ℕ) (own : Own) (c : Carries a limit writer own (ends_of.end_at ends (other writer)) (ends_of.end_at ends writer)) where
  abbrev reader : EndpointHistory
  reader = ends_of.end_at ends (other writer)

  abbrev sender : EndpointHistory
  sender = ends_of.end_at ends writer

  abbrev others : Ends
  others = unlimited_ends ends

  comes : (arrival : Arrival) → ArrivesWithin no_limit reader.announced (arrives reader arrival) (arrives (limited_end no_limit reader) arrival) (told_arrival reader arrival)
  comes arrival = arrives_within reader arrival c.nothing_kept

  -- what a test of both ends gives, at the ends without limits
  same_ends : (test : EndpointHistory → EndpointHistory → Answer × Ends) → IsQuiet (test (ends_of.end_at others writer) (ends_of.end_at others (other writer))).0 → IsQuiet (test (limited_end no_limit sender) (limited_end no_limit reader)).0
  same_ends test quiet =
      sym (ap (λ e. is_connection_fault (test e (ends_of.end_at others (other writer))).0) (at_end (λ side. no_limit) ends writer)
      ∙ ap (λ e. is_connection_fault (test (limited_end no_limit sender) e).0) (at_end (λ side. no_limit) ends (other writer))) ∙ quiet

  pub delivery_fits : (strict : Bool) (id count : ℕ) → IsQuiet (delivery others writer id count).0 → IsWithin strict (delivery ends writer id count).0
  delivery_fits strict id count quiet =
      by_test strict (not (has_outgoing sender id)) _ _ _ _ refl (λ has. by_test strict (nat_lt (waiting sender id) count) _ _ _ _ refl (λ enough.
      offered_fits strict reader.announced ends writer id count _ _ _ (comes (BytesCame id (take count (bytes_waiting sender id)))) (comes_fit a limit writer own reader sender c count id (has_one (has_outgoing sender id) has))))
      (same_ends (λ e r. if not (has_outgoing e id) then (let z : Answer × Ends = (answer.NoStream, others) in z) else (
      if nat_lt (waiting e id) count then (let z : Answer × Ends = (answer.Short (waiting e id), others) in z) else was_offered others writer id count (arrives r (BytesCame id (take count (bytes_waiting e id)))))) quiet)

  pub end_delivery_fits : (strict : Bool) (id : ℕ) → IsQuiet (end_delivery others writer id).0 → IsWithin strict (end_delivery ends writer id).0
  end_delivery_fits strict id quiet =
      by_test strict (not (has_outgoing sender id)) _ _ _ _ refl (λ has. by_test strict (not (is_finished sender id && (waiting sender id == 0))) _ _ _ _ refl (λ whole.
      done_fits strict reader.announced ends (other writer) _ _ _ (comes (EndCame id)) (end_fits (loose reader) id (kind_of reader.side id))))
      (same_ends (λ e r. if not (has_outgoing e id) then (let z : Answer × Ends = (answer.NoStream, others) in z) else (
      if not (is_finished e id && (waiting e id == 0)) then (let z : Answer × Ends = (answer.Early, others) in z) else done others (other writer) answer.Done (arrives r (EndCame id)))) quiet)

  pub reset_delivery_fits : (strict : Bool) (id : ℕ) → IsQuiet (reset_delivery others writer id).0 → IsWithin strict (reset_delivery ends writer id).0
  reset_delivery_fits strict id quiet =
      by_test strict (not (has_outgoing sender id)) _ _ _ _ refl (λ has. by_test strict (not (is_reset sender id)) _ _ _ _ refl (λ whole.
      done_fits strict reader.announced ends (other writer) _ _ _ (comes (ResetCame id reset_code)) (reset_fits (loose reader) id reset_code (kind_of reader.side id))))
      (same_ends (λ e r. if not (has_outgoing e id) then (let z : Answer × Ends = (answer.NoStream, others) in z) else (
      if not (is_reset e id) then (let z : Answer × Ends = (answer.Early, others) in z) else done others (other writer) answer.Done (arrives r (ResetCame id reset_code)))) quiet)
