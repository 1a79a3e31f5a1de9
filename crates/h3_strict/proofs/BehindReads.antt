-- What an end reads next, of which it may hold some already, is not too long for it: so it is read as by the same end that judges plainly.
use Rattle.std.proofs.Common.{◌≡◌, ◌⊎◌, inl, inr, ℕ, zero, suc, ◌+◌, ◌-◌, ◌<◌, ◌≤◌, Bool, true, false, List, [], ◌∷◌, ◌++◌, append-nil, append_assoc, length, refl, sym, ap, ◌∙◌, subst, Some, None, take, drop, take-append-drop, arith, if◌then◌else◌}
use Rattle.std.proofs.lemmas.Grind.{common_steps}
use Rattle.std.specs.Prelude.{◌==◌, flat_map, is_some, nat_le}
use Rattle.h3_coding.specs.Encodings.{encoding}
use Rattle.h3_field.specs.Instruction.{DecoderInstruction, decoder_bytes, encoder_bytes}
use Rattle.h3_field.specs.InstructionAnswer.{IsReply}
use Rattle.h3_proto.specs.declared.stream.Side.{Side}
use Rattle.h3_proto.specs.declared.stream.Side.TheVariants.{Client, Server}
use Rattle.h3_qpack.specs.Encodings.{IsWrittenInstruction}
use Rattle.h3_qpack.specs.WholeInstructions.{rest_in, whole_in}
use Rattle.h3_connection.specs.declared.arrival.Arrival.{Arrival}
use Rattle.h3_connection.specs.declared.arrival.Arrival.TheVariants.{BytesCame, EndCame, ResetCame}
use Rattle.h3_connection.specs.Control.{Found, read_decoder}
use Rattle.h3_connection.specs.Endpoint.{EndpointHistory, Own, bytes_waiting, goaway_encoding, kind_of, limit_of}
use Rattle.h3_connection.specs.Endpoint.Kind.{PeerUnidirectional}
use Rattle.h3_connection.specs.ExcessiveInstructions.{hear_up_to}
use Rattle.h3_connection.specs.Keeping.{read_arrival}
use Rattle.h3_connection.specs.Listeners.{hearing_fault}
use Rattle.h3_connection.specs.OwnIds.{control_id, decoder_id, encoder_id, is_own, other}
use Rattle.h3_connection.specs.PeerReading.{Peer, read_peer, with_unread}
use Rattle.h3_connection.specs.StreamSets.{stream_at}
use Rattle.h3_connection.specs.StrictConnection.{kinds_of, known_streams}
use Rattle.h3_connection.specs.Unidirectional.{Role, Unidirectional, role_after}
use Rattle.h3_connection.specs.Unidirectional.Role.{Control, Decoder, Encoder, Untold}
use Rattle.h3_connection.specs.Delivering.{with_unidirectional}
use Rattle.h3_connection.specs.declared.setup.Announced.{Announced}
use Rattle.h3_world.specs.Ends.{end_at}
use Rattle.h3_world.specs.OwnStreams.{settings_bytes}
use Rattle.h3_world.specs.Pulling.{own_delivered}
use Rattle.h3_world.specs.Setup.{IsMadeSetup, Setup, announced_at}
use Rattle.h3_world.specs.World.{World, party}
use Rattle.h3_headline.specs.Cited.{StreamLaws}
use Rattle.h3_headline.specs.EncoderStreamLaws.{all_dropped}
use Rattle.h3_headline.specs.FlowLaws.{other-other}
use Rattle.h3_headline.specs.OwnEventLaws.{each_own}
use Rattle.h3_headline.specs.PeerStreams.{IsTyped, behind_type, role_by, settings_frame_of, with_role}
use Rattle.h3_headline.specs.RoleLaws.{peer_stream, typed_control, typed_decoder, typed_encoder}
use Rattle.h3_headline.specs.Standing.{IsPeerStream, IsWritable, StandsAt, replies_unread}
use Rattle.h3_headline.specs.UnitLaws.{goes_on}
use Rattle.h3_headline.specs.WritesMoreLaws.{type_of_control, type_of_decoder, type_of_encoder}
use Rattle.h3_strict.proofs.ControlTaken.{control_fits}
use Rattle.h3_strict.proofs.ControlTexts.{Fits}
use Rattle.h3_strict.proofs.DeliveriesFit.{Carries, FoundFits, RoleFits, end_fits, heard_fits, listened_fits, peer_fits, reset_fits, told_fits, told_typed}
use Rattle.h3_strict.proofs.InstructionsFit.{hearing_fits}
use Rattle.h3_strict.proofs.LimitCarries.{carries}
use Rattle.h3_strict.proofs.LimitReading.{IsTooLong, ReadsAlike, ReadsWithin, arrival_within, endless, endless_found, loose, told_arrival, told_as, told_bytes, told_role}
use Rattle.h3_strict.proofs.PlainReading as plain_reading
use Rattle.h3_strict.proofs.PlainSetups.{setup_plainly}
use Rattle.h3_strict.proofs.SentTallies.{plain_settings}
use Rattle.h3_strict.specs.Limits.{limit_at}
use Rattle.h3_strict.specs.PlainEnds.{plain_setup}
use Rattle.h3_strict.specs.Plainly.{is_excess, plainly}
use Rattle.h3_strict.specs.ReadsBehind.{Follows, Held, IsOfDecoder, ReadsBehind, held_of, own_text}

role_told : (role : Role) (n : ℕ) → 0 < n → role_by n role ≡ role
role_told role n h = ap (λ b. if b then Untold [] else role) (not_none n h)
  where
    not_none : (n : ℕ) → 0 < n → (n == 0) ≡ false
    not_none n h = grind (arith, common_steps, h)

-- what comes behind some bytes that are held
pub record TellsRest (e : EndpointHistory) (id came count : ℕ) (role : Role) (units held bytes : List ℕ) : Type 0 where
  pub rest : List ℕ
  pub all : held ++ rest ≡ behind_type came count units
  pub is : told_bytes e id bytes PeerUnidirectional ≡ told_as (with_unidirectional e id (with_role (role_by (came + count) role))) id (role_by (came + count) role) rest

told_rest : (e : EndpointHistory) (id kind came count : ℕ) (role : Role) (units held bytes : List ℕ) → IsTyped kind role → IsPeerStream came role (stream_at e.unidirectional id) → (came ≡ 0 → held ≡ [])
    → held ++ bytes ≡ take count (drop came (kind ∷ units)) → TellsRest e id came count role units held bytes
told_rest e id kind zero count role units held bytes t h untold all =
    let none = untold refl in
    let bytes_are : bytes ≡ take count (drop 0 (kind ∷ units)) = sym (ap (λ l. l ++ bytes) none) ∙ all in
    record {
      rest = behind_type 0 count units;
      all = ap (λ l. l ++ behind_type 0 count units) none;
      is = ap (λ l. told_bytes e id l PeerUnidirectional) bytes_are ∙ told_typed e id kind role 0 count units t h;
    }
told_rest e id kind (suc c) count role units held bytes t h untold all =
    let x : count ≡ suc c + count - 1 - (suc c - 1) = omega arith in
    let y : c ≡ suc c - 1 = omega arith in
    let o = with_role role in
    let before : role_by (suc c) role ≡ role = role_told role (suc c) (omega arith) in
    let behind : role_by (suc c + count) role ≡ role = role_told role (suc c + count) (omega arith) in
    record {
      rest = bytes;
      all = all ∙ ap (λ n. take n (drop c units)) x ∙ ap (λ n. take (suc c + count - 1 - (suc c - 1)) (drop n units)) y;
      is = ap (λ (z : Unidirectional). told_role e id z (role_after (known_streams e.announced) z.role bytes)) (peer_stream (suc c) role (stream_at e.unidirectional id) h ∙ ap with_role before)
          ∙ ap (λ z. told_role e id (with_role role) z) (t.stays (known_streams e.announced) bytes)
          ∙ ap (λ z. told_as (with_unidirectional e id z) id role bytes) (t.keeps (with_role role) bytes)
          ∙ ap (λ q. told_as (with_unidirectional e id (with_role q)) id q bytes) (sym behind);
    }

-- **A reader that holds some of what its writer sent.**
module _ (a : Announced) (limit : ℕ) (writer : Side) (own : Own) (er ew : EndpointHistory) (c : Carries a limit writer own er ew) (f : EndpointHistory) (held : Held)
    (side_is : f.side ≡ other writer) (limit_is : limit_of f ≡ limit) (streams : f.unidirectional ≡ er.unidirectional) (peer : f.peer ≡ with_unread er.peer (er.peer.unread ++ held.control))
    (encoder_unread : f.decoding.unread ≡ er.decoding.unread ++ held.encoder) (decoder_unread : f.decoder_unread ≡ er.decoder_unread ++ held.decoder) where
  abbrev reading : ℕ → ℕ → ℕ → Role → EndpointHistory
  reading count id came role = with_unidirectional f id (with_role (role_by (came + count) role))

  abbrev ComesFit : List ℕ → ℕ → Type 0
  ComesFit bytes id = FoundFits (told_bytes f id bytes (kind_of f.side id))

  typed_ahead : (count id kind came : ℕ) (role : Role) (units held bytes : List ℕ) → kind_of f.side id ≡ PeerUnidirectional → (x : TellsRest f id came count role units held bytes)
      → RoleFits (reading count id came role) id role x.rest → ComesFit bytes id
  typed_ahead count id kind came role units held bytes there x fits =
      ap (λ k. is_excess false (told_bytes f id bytes k).1) there ∙ ap (λ (z : Found). is_excess false z.1) x.is
      ∙ heard_fits (reading count id came role) id (role_by (came + count) role) x.rest (told_fits a limit writer own er ew c (came + count == 0) (reading count id came role) id role x.rest fits)

  control_ahead : (count : ℕ) (bytes : List ℕ) → held.control ++ bytes ≡ take count (drop own.control_taken (settings_bytes a ++ flat_map goaway_encoding own.goaways)) → (own.control_taken ≡ 0 → held.control ≡ []) → (er.peer.settings ≡ None → held.decoder ≡ [])
      → FoundFits (told_bytes f (control_id writer) bytes (kind_of f.side (control_id writer)))
  control_ahead count bytes all untold none =
      let id = control_id writer in
      let came = own.control_taken in
      let units = settings_frame_of a ++ flat_map goaway_encoding own.goaways in
      let text : settings_bytes a ++ flat_map goaway_encoding own.goaways ≡ 0 ∷ units =
      append_assoc (encoding 0) (settings_frame_of a) (flat_map goaway_encoding own.goaways) ∙ ap (λ k. k ++ units) type_of_control in
      let stream : IsPeerStream came Control (stream_at f.unidirectional id) = subst (λ l. IsPeerStream came Control (stream_at l id)) (sym streams) c.control_is in
      let x = told_rest f id 0 came count Control units held.control bytes typed_control stream untold (all ∙ ap (λ l. take count (drop came l)) text) in
      let e : EndpointHistory = loose (record (reading count id came Control) { control_on = Some id }) in
      let found : (with_unread f.peer (f.peer.unread ++ x.rest)) ≡ with_unread er.peer (er.peer.unread ++ behind_type came count units) =
      ap (λ (p : Peer). with_unread p (p.unread ++ x.rest)) peer
      ∙ ap (with_unread er.peer) (append_assoc er.peer.unread held.control x.rest ∙ ap (λ l. er.peer.unread ++ l) x.all) in
      let fits : Fits (read_peer (kinds_of f.announced) (limit_of f) f.side (with_unread f.peer (f.peer.unread ++ x.rest))) =
      ap (λ p. is_excess false (read_peer (kinds_of f.announced) (limit_of f) f.side p).1) found
      ∙ ap (λ n. is_excess false (read_peer (kinds_of f.announced) n f.side (with_unread er.peer (er.peer.unread ++ behind_type came count units))).1) limit_is
      ∙ control_fits (kinds_of f.announced) limit f.side writer er.peer a came count own.goaways c.announces c.settings_taken (omega (arith, c.room)) c.goaways (nat_le (length (settings_bytes a)) came) refl c.unread in
      typed_ahead count id 0 came Control units held.control bytes (ap (λ s. kind_of s id) side_is ∙ kind_here writer) x
      (peer_fits a limit writer own er ew c e (read_peer (kinds_of f.announced) (limit_of f) f.side (with_unread f.peer (f.peer.unread ++ x.rest))) fits refl limit_is
      (λ unknown. decoder_unread ∙ ap (λ l. er.decoder_unread ++ l) (none unknown) ∙ append-nil er.decoder_unread) (ap (λ (p : Peer). p.settings) peer))
    where
      kind_here : (s : Side) → kind_of (other s) (control_id s) ≡ PeerUnidirectional
      kind_here Client = refl
      kind_here Server = refl

  -- what is held and what comes begins the instructions that are not whole yet
  encoder_ahead : (count : ℕ) (bytes : List ℕ) → held.encoder ++ bytes ≡ take count (drop own.encoder_taken (encoding 2 ++ flat_map encoder_bytes own.instructions)) → (own.encoder_taken ≡ 0 → held.encoder ≡ [])
      → FoundFits (told_bytes f (encoder_id writer) bytes (kind_of f.side (encoder_id writer)))
  encoder_ahead count bytes all untold =
      let id = encoder_id writer in
      let came = own.encoder_taken in
      let is = own.instructions in
      let units = flat_map encoder_bytes is in
      let stream : IsPeerStream came Encoder (stream_at f.unidirectional id) = subst (λ l. IsPeerStream came Encoder (stream_at l id)) (sym streams) c.encoder_is in
      let x = told_rest f id 2 came count Encoder units held.encoder bytes typed_encoder stream untold (all ∙ ap (λ k. take count (drop came (k ++ flat_map encoder_bytes is))) type_of_encoder) in
      let whole = whole_in encoder_bytes (came - 1) is in
      let g = goes_on encoder_bytes (came - 1) (came + count - 1) is (omega arith) in
      let left = drop whole is in
      let more = drop g.count (flat_map encoder_bytes left) in
      let here : f.decoding.unread ++ x.rest ≡ take g.count (flat_map encoder_bytes left) =
      ap (λ l. l ++ x.rest) encoder_unread ∙ append_assoc er.decoding.unread held.encoder x.rest ∙ ap (λ l. er.decoding.unread ++ l) x.all
      ∙ ap (λ l. l ++ behind_type came count (flat_map encoder_bytes is)) c.encoder_unread ∙ g.bytes in
      typed_ahead count id 2 came Encoder units held.encoder bytes (ap (λ s. kind_of s id) side_is ∙ kind_here writer) x
      (ap (λ n. is_excess false (hearing_fault n (hear_up_to n f.decoding.decoder (f.decoding.unread ++ x.rest)))) limit_is
      ∙ hearing_fits limit left f.decoding.decoder (f.decoding.unread ++ x.rest) more (all_dropped IsWrittenInstruction whole is c.instructions)
      (all_dropped (λ i. length (encoder_bytes i) ≤ limit) whole is c.short) (ap (λ l. l ++ more) here ∙ take-append-drop g.count (flat_map encoder_bytes left)))
    where
      kind_here : (s : Side) → kind_of (other s) (encoder_id s) ≡ PeerUnidirectional
      kind_here Client = refl
      kind_here Server = refl

  decoder_ahead : (count : ℕ) (bytes : List ℕ) → held.decoder ++ bytes ≡ take count (drop own.decoder_taken (encoding 3 ++ flat_map decoder_bytes own.replies)) → (own.decoder_taken ≡ 0 → held.decoder ≡ [])
      → FoundFits (told_bytes f (decoder_id writer) bytes (kind_of f.side (decoder_id writer)))
  decoder_ahead count bytes all untold =
      typed_ahead count id 3 came Decoder units held.decoder bytes (ap (λ s. kind_of s id) side_is ∙ kind_here writer) x (by_settings (is_some er.peer.settings) refl)
    where
      id : ℕ
      id = decoder_id writer

      came : ℕ
      came = own.decoder_taken

      is : List DecoderInstruction
      is = own.replies

      units : List ℕ
      units = flat_map decoder_bytes own.replies

      x : TellsRest f (decoder_id writer) own.decoder_taken count Decoder (flat_map decoder_bytes own.replies) held.decoder bytes
      x = told_rest f (decoder_id writer) 3 own.decoder_taken count Decoder (flat_map decoder_bytes own.replies) held.decoder bytes typed_decoder
          (subst (λ l. IsPeerStream own.decoder_taken Decoder (stream_at l (decoder_id writer))) (sym streams) c.decoder_is) untold
          (all ∙ ap (λ k. take count (drop own.decoder_taken (k ++ flat_map decoder_bytes own.replies))) type_of_decoder)

      e : EndpointHistory
      e = record (loose (reading count (decoder_id writer) own.decoder_taken Decoder)) { decoder_on = Some (decoder_id writer) }

      known_is : is_some f.peer.settings ≡ is_some er.peer.settings
      known_is = ap (λ (p : Peer). is_some p.settings) peer

      -- before the settings it waits
      by_settings : (b : Bool) → is_some er.peer.settings ≡ b → FoundFits (read_decoder e x.rest)
      by_settings false unknown = ap (λ b. is_excess false (plain_reading.read_if b e x.rest).1) (known_is ∙ unknown)
      by_settings true known =
          let whole = whole_in decoder_bytes (came - 1) is in
          let g = goes_on decoder_bytes (came - 1) (came + count - 1) is (omega arith) in
          let left = drop whole is in
          let more = drop g.count (flat_map decoder_bytes left) in
          let unread : er.decoder_unread ≡ rest_in decoder_bytes (came - 1) is = c.decoder_unread ∙ ap (λ b. replies_unread b came is) known in
          let front : f.decoder_unread ++ x.rest ≡ take g.count (flat_map decoder_bytes left) =
          ap (λ l. l ++ x.rest) decoder_unread ∙ append_assoc er.decoder_unread held.decoder x.rest ∙ ap (λ l. er.decoder_unread ++ l) x.all ∙ ap (λ l. l ++ behind_type came count (flat_map decoder_bytes is)) unread ∙ g.bytes in
          listened_fits a limit writer own er ew c e left x.rest more (known_is ∙ known) refl limit_is (all_dropped IsReply whole is c.replies)
          (ap (λ l. l ++ more) front ∙ take-append-drop g.count (flat_map decoder_bytes left))

      kind_here : (s : Side) → kind_of (other s) (decoder_id s) ≡ PeerUnidirectional
      kind_here Client = refl
      kind_here Server = refl

-- what an arrival is, by which of the writer's own streams it comes on
held_control : (s : Side) (h : Held) → held_of s h (control_id s) ≡ h.control
held_control Client h = refl
held_control Server h = refl

held_encoder : (s : Side) (h : Held) → held_of s h (encoder_id s) ≡ h.encoder
held_encoder Client h = refl
held_encoder Server h = refl

held_decoder : (s : Side) (h : Held) → held_of s h (decoder_id s) ≡ h.decoder
held_decoder Client h = refl
held_decoder Server h = refl

-- what comes of each of them
text_control : (setup : Setup) (w : World) (s : Side) (count : ℕ)
    → take count (drop (own_delivered w s (control_id s)) (own_text setup w s (control_id s))) ≡ take count (drop (party w s).own.control_taken (settings_bytes (announced_at setup s) ++ flat_map goaway_encoding (party w s).own.goaways))
text_control setup w Client count = refl
text_control setup w Server count = refl

text_encoder : (setup : Setup) (w : World) (s : Side) (count : ℕ)
    → take count (drop (own_delivered w s (encoder_id s)) (own_text setup w s (encoder_id s))) ≡ take count (drop (party w s).own.encoder_taken (encoding 2 ++ flat_map encoder_bytes (party w s).own.instructions))
text_encoder setup w Client count = refl
text_encoder setup w Server count = refl

text_decoder : (setup : Setup) (w : World) (s : Side) (count : ℕ)
    → take count (drop (own_delivered w s (decoder_id s)) (own_text setup w s (decoder_id s))) ≡ take count (drop (party w s).own.decoder_taken (encoding 3 ++ flat_map decoder_bytes (party w s).own.replies))
text_decoder setup w Client count = refl
text_decoder setup w Server count = refl

apart : (s : Side) → control_id s ≡ decoder_id s → ⊥
apart Client e = omega (arith, e)
apart Server e = omega (arith, e)

-- an end that judges plainly has the same to hand over
waits_same : (setup : Setup) (side : Side) (e : EndpointHistory) (id : ℕ) → bytes_waiting (record e { announced = announced_at (plain_setup setup) side }) id ≡ bytes_waiting (record e { announced = announced_at setup side }) id
waits_same setup Client e id = refl
waits_same setup Server e id = refl

-- **What comes next is not too long.**
module _ (streams : StreamLaws) (setup : Setup) (made : IsMadeSetup setup) (w : World) (side : Side) (e : EndpointHistory) (x : Arrival) (b : ReadsBehind setup w side e x) where
  abbrev er : EndpointHistory
  er = record (end_at b.behind side) { announced = announced_at setup side }

  abbrev ew : EndpointHistory
  ew = end_at b.behind (other side)

  at : (s : Side) → StandsAt (plain_setup setup) w s (end_at b.behind s)
  at Client = b.stands.at_client
  at Server = b.stands.at_server

  writable : (s : Side) → IsWritable s (party w s).own
  writable Client = b.stands.client_writes
  writable Server = b.stands.server_writes

  tables : (s : Side) → (announced_at (plain_setup setup) s).limits.table ≡ (announced_at setup s).limits.table
  tables Client = refl
  tables Server = refl

  c : Carries (announced_at setup (other side)) (limit_at setup side) (other side) (party w (other side)).own (record (end_at b.behind side) { announced = announced_at setup side }) (end_at b.behind (other side))
  c = carries streams setup (plain_setup setup) made (setup_plainly setup made) w side er (end_at b.behind (other side)) (end_at b.behind side) (end_at b.behind (other side))
      (record {
        side = refl;
        kept = refl;
        unidirectional = refl;
        peer = refl;
        decoding = refl;
        decoder_unread = refl;
        waits_for = λ id. ap (λ a. bytes_waiting (record (end_at b.behind side) { announced = a }) id) (at side).announced ∙ waits_same setup side (end_at b.behind side) id;
        has = λ id. refl;
      })
      (record { side = refl; kept = refl; unidirectional = refl; peer = refl; decoding = refl; decoder_unread = refl; waits_for = λ id. refl; has = λ id. refl })
      (at side) (at (other side)) (writable (other side)) refl (plain_settings setup (other side)) (tables side) b.stands.sound

  limit_same : limit_of e ≡ limit_at setup side
  limit_same = ap (λ (a : Announced). a.choices.unfinished_limit) b.announced

  side_same : e.side ≡ other (other side)
  side_same = b.side_is ∙ sym (other-other side)

  -- bytes of an own stream of the writer
  own_fits : (id : ℕ) (bytes : List ℕ) → x ≡ BytesCame id bytes → is_own (other side) id ≡ true → (count : ℕ) → held_of (other side) b.held id ++ bytes ≡ take count (drop (own_delivered w (other side) id) (own_text setup w (other side) id))
      → FoundFits (told_bytes e id bytes (kind_of e.side id))
  own_fits id bytes is own count all =
      each_own (λ i. x ≡ BytesCame i bytes → held_of (other side) b.held i ++ bytes ≡ take count (drop (own_delivered w (other side) i) (own_text setup w (other side) i)) → FoundFits (told_bytes e i bytes (kind_of e.side i))) (other side) id own
      (λ at_it follows.
      control_ahead (announced_at setup (other side)) (limit_at setup side) (other side) (party w (other side)).own er (end_at b.behind (other side)) c e b.held side_same limit_same b.unidirectional b.peer b.encoder_unread b.decoder_unread
      count bytes (ap (λ l. l ++ bytes) (sym (held_control (other side) b.held)) ∙ follows ∙ text_control setup w (other side) count) b.control_untold (λ unknown. early at_it (b.early unknown)))
      (λ at_it follows.
      encoder_ahead (announced_at setup (other side)) (limit_at setup side) (other side) (party w (other side)).own er (end_at b.behind (other side)) c e b.held side_same limit_same b.unidirectional b.peer b.encoder_unread b.decoder_unread
      count bytes (ap (λ l. l ++ bytes) (sym (held_encoder (other side) b.held)) ∙ follows ∙ text_encoder setup w (other side) count) b.encoder_untold)
      (λ at_it follows.
      decoder_ahead (announced_at setup (other side)) (limit_at setup side) (other side) (party w (other side)).own er (end_at b.behind (other side)) c e b.held side_same limit_same b.unidirectional b.peer b.encoder_unread b.decoder_unread
      count bytes (ap (λ l. l ++ bytes) (sym (held_decoder (other side) b.held)) ∙ follows ∙ text_decoder setup w (other side) count) b.decoder_untold)
      is all
    where
      early : x ≡ BytesCame (control_id (other side)) bytes → (b.held.decoder ≡ []) ⊎ IsOfDecoder (other side) x → b.held.decoder ≡ []
      early at_it (inl none) = none
      early at_it (inr of_decoder) = absurd (apart (other side) (subst (IsOfDecoder (other side)) at_it of_decoder))

  arrival_fits : (y : Arrival) → x ≡ y → Follows setup w (other side) e b.held y → FoundFits (told_arrival e y)
  arrival_fits (BytesCame id bytes) is follows = by_own (is_own (other side) id) refl
    where
      by_own : (own : Bool) → is_own (other side) id ≡ own → FoundFits (told_bytes e id bytes (kind_of e.side id))
      by_own true own = let found = follows.0 own in own_fits id bytes is own found.0 found.1
      by_own false off = ap (λ k. is_excess false (told_bytes e id bytes k).1) (follows.1 off)
  arrival_fits (EndCame id) is follows = end_fits (loose e) id (kind_of e.side id)
  arrival_fits (ResetCame id code) is follows = reset_fits (loose e) id code (kind_of e.side id)

  pub what_comes_fits : FoundFits (told_arrival e x)
  what_comes_fits = arrival_fits x refl b.follows

-- So it is read as by the same end that judges plainly.
pub fits_read : (e : EndpointHistory) (x : Arrival) (next : EndpointHistory) → FoundFits (told_arrival e x) → read_arrival (plainly e) x ≡ (next, None) → ((read_arrival e x).1 ≡ None) × (plainly (read_arrival e x).0 ≡ next)
fits_read e x next fits plain_is = by_limit (arrival_within e x) (plain_reading.arrival_plain (endless e) x)
  where
    by_limit : ReadsWithin e.announced (read_arrival e x) (read_arrival (endless e) x) (told_arrival e x) → plain_reading.ReadsPlainly (endless e).announced (read_arrival (endless e) x) (read_arrival (plainly e) x)
        → ((read_arrival e x).1 ≡ None) × (plainly (read_arrival e x).0 ≡ next)
    by_limit (IsTooLong is long) plain = absurd (let never : true ≡ false = sym (ap (is_excess false) long) ∙ fits in cc)
    by_limit (ReadsAlike same) (plain_reading.IsTooLong limited is) = absurd (let never : false ≡ true = limited in cc)
    by_limit (ReadsAlike same) (plain_reading.ReadsAlike is) =
        let all : plain_reading.plain_found (endless_found (read_arrival e x)) ≡ (next, None) = sym (is ∙ ap plain_reading.plain_found same) ∙ plain_is in
        (ap (λ (z : Found). z.1) all, ap (λ (z : Found). z.0) all)
