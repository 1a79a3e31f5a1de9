-- Two ends that stand in a world without their limits: what they send on their own streams is what was written there.
use Rattle.std.proofs.Common.{◌≡◌, ℕ, ◌-◌, ◌^◌, ◌≤◌, Bool, true, false, ◌||◌, List, [], ◌∷◌, ◌++◌, flat_map, Option, Some, None, refl, sym, ap, ◌∙◌, subst, length, take, drop, if◌then◌else◌, nat_le, arith}
use Rattle.std.specs.Prelude.{is_some}
use Rattle.std.proofs.Math.Seq.{take-length}
use Rattle.h3_field.specs.Instruction.{EncoderInstruction}
use Rattle.h3_proto.specs.StreamIds.{is_request_stream}
use Rattle.h3_proto.specs.declared.stream.Side.{Side}
use Rattle.h3_proto.specs.declared.stream.Side.TheVariants.{Client, Server}
use Rattle.h3_frames.specs.ControlStreams.{control_encoding}
use Rattle.h3_connection.specs.StrictConnection.{is_strict}
use Rattle.h3_connection.specs.Endpoint.{EndpointHistory, Own, bytes_waiting, goaway_encoding, limit_of, first_decoder}
use Rattle.h3_connection.specs.Listeners.{Decoding}
use Rattle.h3_connection.specs.OwnIds.{control_id, decoder_id, encoder_id, is_own, other}
use Rattle.h3_connection.specs.PeerReading.{Peer}
use Rattle.h3_connection.specs.Shown.{has_outgoing}
use Rattle.h3_connection.specs.StreamSets.{stream_at}
use Rattle.h3_connection.specs.Unidirectional.Role.{Control, Decoder, Encoder}
use Rattle.h3_connection.specs.declared.setup.Announced.{Announced}
use Rattle.h3_qpack.specs.DecoderState.{decoder_after_all}
use Rattle.h3_qpack.specs.InstructionSizes.{most_instruction}
use Rattle.h3_qpack.specs.ShortInstructionLaws.{taken_instructions_short}
use Rattle.h3_qpack.specs.WholeInstructions.{rest_in}
use Rattle.h3_world.specs.Ends.{Ends, end_at}
use Rattle.h3_world.specs.Setup.{IsMadeSetup, Setup, announced_at}
use Rattle.h3_world.specs.Sound.{IsSoundWorld}
use Rattle.h3_world.specs.Streams.{is_open}
use Rattle.h3_world.specs.World.{World, party}
use Rattle.h3_headline.specs.AnnouncedLaws.{announces_at}
use Rattle.h3_headline.specs.Cited.{StreamLaws}
use Rattle.h3_headline.specs.DeliverLaws.{has_outgoing_is}
use Rattle.h3_headline.specs.EncoderStreamLaws.{instructions_read}
use Rattle.h3_headline.specs.FlowLaws.{open_there, other-other}
use Rattle.h3_headline.specs.OwnEventLaws.{own_outgoing}
use Rattle.h3_headline.specs.OwnOverLaws.{left_control, left_decoder, left_encoder, party_sound, waiting_own}
use Rattle.h3_headline.specs.Standing.{IsPeerStream, IsWritable, Stands, StandsAt, are_settings_there, replies_unread, with_meaning}
use Rattle.h3_strict.proofs.DeliveriesFit.{Carries}
use Rattle.h3_strict.proofs.InstructionsFit.{AreShort}
use Rattle.h3_strict.proofs.LimitSetups.{setup_unlimited}
use Rattle.h3_strict.proofs.PlainSetups.{setup_plainly}
use Rattle.h3_strict.proofs.PlainSteps.{has_one, waits}
use Rattle.h3_strict.proofs.MadeLimits.{limits_made}
use Rattle.h3_strict.specs.Limits.{limit_at, limited_end, unlimited_ends, unlimited_setup}
use Rattle.h3_strict.specs.PlainEnds.{plain_ends, plain_setup}
use Rattle.h3_strict.specs.Plainly.{plainly}

-- The endpoint has of its peer's streams, and sends, what the other one does.
pub record SameStreams (e f : EndpointHistory) : Type 0 where
  pub side : f.side ≡ e.side
  pub kept : f.kept ≡ e.kept
  pub unidirectional : f.unidirectional ≡ e.unidirectional
  pub peer : f.peer ≡ e.peer
  pub decoding : f.decoding ≡ e.decoding
  pub decoder_unread : f.decoder_unread ≡ e.decoder_unread
  pub waits_for : (id : ℕ) → bytes_waiting f id ≡ bytes_waiting e id
  pub has : (id : ℕ) → has_outgoing f id ≡ has_outgoing e id

unlimited_same : (e : EndpointHistory) → SameStreams e (limited_end (2 ^ 62 - 1) e)
unlimited_same e = record { side = refl; kept = refl; unidirectional = refl; peer = refl; decoding = refl; decoder_unread = refl; waits_for = λ id. refl; has = λ id. refl }

plain_same : (e : EndpointHistory) → SameStreams e (plainly (limited_end (2 ^ 62 - 1) e))
plain_same e =
    let f : EndpointHistory = limited_end (2 ^ 62 - 1) e in
    record { side = refl; kept = refl; unidirectional = refl; peer = refl; decoding = refl; decoder_unread = refl; waits_for = λ id. waits f id; has = λ id. has_one f id }

own_control : (s : Side) → is_own s (control_id s) ≡ true
own_control Client = refl
own_control Server = refl

own_encoder : (s : Side) → is_own s (encoder_id s) ≡ true
own_encoder Client = refl
own_encoder Server = refl

own_decoder : (s : Side) → is_own s (decoder_id s) ≡ true
own_decoder Client = refl
own_decoder Server = refl

behind_own : (b c : Bool) → b ≡ false → (b || c) ≡ true → c ≡ true
behind_own true c off has = absurd (cc)
behind_own false c off has = has

-- whether settings are known is whether they came
known_by : (b : Bool) (pairs : List (ℕ × ℕ)) → is_some (if b then Some pairs else None) ≡ b
known_by true pairs = refl
known_by false pairs = refl

all_below : (most limit : ℕ) (is : List EncoderInstruction) → most ≤ limit → AreShort most is → AreShort limit is
all_below most limit [] within short = tt
all_below most limit (i ∷ is) within short = (omega (arith, within, short.0), all_below most limit is within short.1)

-- what a side wrote on its encoder stream, in a sound world
instructions_short : (streams : StreamLaws) (X : Setup) (w : World) (writer : Side) → IsMadeSetup X → IsSoundWorld X w → AreShort (most_instruction (announced_at X (other writer)).limits.table) (party w writer).own.instructions
instructions_short streams X w writer made sound =
    let is = (party w writer).own.instructions in
    let most = (announced_at X (other writer)).limits.table in
    let read = instructions_read streams X w writer (length is) made (party_sound X w writer sound) (omega arith) in
    taken_instructions_short (is_strict (announced_at X (other writer))) most is read.decoder (ap (decoder_after_all (Some (first_decoder (announced_at X (other writer))))) (sym (take-length is)) ∙ read.reads)

-- a reader and a writer of which those stand there
module _ (streams : StreamLaws) (setup X : Setup) (made : IsMadeSetup setup) (stated : IsMadeSetup X) (w : World) (s : Side) (er ew fr fw : EndpointHistory) (reads : SameStreams er fr) (writes : SameStreams ew fw)
    (hr : StandsAt X w s fr) (hw : StandsAt X w (other s) fw) (writable : IsWritable (other s) (party w (other s)).own) (limit : limit_of er ≡ limit_at setup s)
    (same : (announced_at X (other s)).settings ≡ (announced_at setup (other s)).settings) (tables : (announced_at X s).limits.table ≡ (announced_at setup s).limits.table) (sound : IsSoundWorld X w) where
  abbrev own : Own
  own = (party w (other s)).own

  abbrev a : Announced
  a = announced_at setup (other s)

  abbrev unread_by : List (ℕ × ℕ) → List ℕ
  unread_by pairs = if nat_le (length (control_encoding pairs)) own.control_taken then rest_in goaway_encoding (own.control_taken - length (control_encoding pairs)) own.goaways else drop 1 (take own.control_taken (control_encoding pairs))

  request_id : (id : ℕ) → is_own (other s) id ≡ false → has_outgoing ew id ≡ true → is_request_stream id ≡ true
  request_id id off has =
      (open_there w (other s) id (behind_own (is_own (other s) id) (is_open w (other s) id) off (sym (has_outgoing_is X w (other s) id fw hw) ∙ writes.has id ∙ has))).request

  pub carries : Carries a (limit_at setup s) (other s) own er ew
  carries = record {
    side_is = sym reads.side ∙ hr.side_is ∙ sym (other-other s);
    nothing_kept = sym reads.kept ∙ hr.nothing_kept;
    limit_is = limit;
    control_is = subst (λ l. IsPeerStream own.control_taken Control (stream_at l (control_id (other s)))) reads.unidirectional hr.control.stream_is;
    encoder_is = subst (λ l. IsPeerStream own.encoder_taken Encoder (stream_at l (encoder_id (other s)))) reads.unidirectional hr.encoder_stream.stream_is;
    decoder_is = subst (λ l. IsPeerStream own.decoder_taken Decoder (stream_at l (decoder_id (other s)))) reads.unidirectional hr.decoder_stream.stream_is;
    unread = sym (ap (λ (p : Peer). p.unread) reads.peer) ∙ hr.control.unread ∙ ap unread_by same;
    control_waits = sym (writes.waits_for (control_id (other s))) ∙ waiting_own X w (other s) (control_id (other s)) fw hw (own_outgoing X w (other s) (control_id (other s)) fw hw (own_control (other s)))
        ∙ left_control (other s) own (announced_at X (other s)) writable.updates ∙ ap (λ pairs. drop own.control_taken (control_encoding pairs ++ flat_map goaway_encoding own.goaways)) same;
    encoder_waits = sym (writes.waits_for (encoder_id (other s))) ∙ waiting_own X w (other s) (encoder_id (other s)) fw hw (own_outgoing X w (other s) (encoder_id (other s)) fw hw (own_encoder (other s)))
        ∙ left_encoder (other s) own (announced_at X (other s));
    decoder_waits = sym (writes.waits_for (decoder_id (other s))) ∙ waiting_own X w (other s) (decoder_id (other s)) fw hw (own_outgoing X w (other s) (decoder_id (other s)) fw hw (own_decoder (other s)))
        ∙ left_decoder (other s) own (announced_at X (other s));
    encoder_unread = sym (ap (λ (d : Decoding). d.unread) reads.decoding) ∙ hr.encoder_stream.unread;
    decoder_unread = sym reads.decoder_unread ∙ hr.decoder_stream.left
        ∙ ap (λ b. replies_unread b own.decoder_taken own.replies) (sym (ap (λ (p : Peer). is_some p.settings) (sym reads.peer) ∙ ap (λ (o : Option (List (ℕ × ℕ))). is_some o) hr.control.settings ∙ known_by (are_settings_there X (other s) own.control_taken) (with_meaning (announced_at X (other s)).settings)));
    requests = request_id;
    goaways = writable.goaways;
    instructions = writable.instructions;
    short = all_below (most_instruction (announced_at setup s).limits.table) (limit_at setup s) own.instructions (omega (arith, (limits_made setup made s).0))
        (subst (λ n. AreShort (most_instruction n) own.instructions) (ap (λ x. (announced_at X x).limits.table) (other-other s) ∙ tables) (instructions_short streams X w (other s) stated sound));
    replies = writable.replies;
    announces = announces_at setup (other s) made;
    settings_taken = omega (arith, (limits_made setup made s).0);
    room = omega (arith, (limits_made setup made s).0);
  }

-- what each side sends to the other
abbrev pub CarriesAt : Setup → Ends → Side → Type 0
CarriesAt setup ends writer = (own : Own) × Carries (announced_at setup writer) (limit_at setup (other writer)) writer own (end_at ends (other writer)) (end_at ends writer)

module _ (streams : StreamLaws) (setup : Setup) (made : IsMadeSetup setup) (w : World) (ends : Ends) (kept : (side : Side) → limit_of (end_at ends side) ≡ limit_at setup side) where
  -- **Neither asks for strict messages.**
  pub loose_carries : Stands (unlimited_setup setup) w (unlimited_ends ends) → (writer : Side) → CarriesAt setup ends writer
  loose_carries h Client =
      (w.client.own, carries streams setup (unlimited_setup setup) made (setup_unlimited setup made) w Server ends.server ends.client _ _ (unlimited_same ends.server) (unlimited_same ends.client) h.at_server h.at_client h.client_writes (kept Server) refl refl h.sound)
  loose_carries h Server =
      (w.server.own, carries streams setup (unlimited_setup setup) made (setup_unlimited setup made) w Client ends.client ends.server _ _ (unlimited_same ends.client) (unlimited_same ends.server) h.at_client h.at_server h.server_writes (kept Client) refl refl h.sound)

  -- **Both do.**
  pub strict_carries : Stands (plain_setup (unlimited_setup setup)) w (plain_ends (unlimited_ends ends)) → (writer : Side) → CarriesAt setup ends writer
  strict_carries h Client =
      (w.client.own, carries streams setup (plain_setup (unlimited_setup setup)) made (setup_plainly (unlimited_setup setup) (setup_unlimited setup made)) w Server ends.server ends.client _ _ (plain_same ends.server) (plain_same ends.client) h.at_server h.at_client h.client_writes (kept Server) refl refl h.sound)
  strict_carries h Server =
      (w.server.own, carries streams setup (plain_setup (unlimited_setup setup)) made (setup_plainly (unlimited_setup setup) (setup_unlimited setup made)) w Client ends.client ends.server _ _ (plain_same ends.client) (plain_same ends.server) h.at_client h.at_server h.server_writes (kept Client) refl refl h.sound)
