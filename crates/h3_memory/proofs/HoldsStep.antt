-- Bytes of an own stream go to those that its reader holds, and are not read yet. Where they tell the stream's type, that is read.
use Rattle.std.proofs.Common.{◌≡◌, ℕ, ◌+◌, ◌-◌, Bool, true, false, List, [], ◌∷◌, ◌++◌, length, take, drop, flat_map, refl, sym, ap, ◌∙◌, subst, arith, if◌then◌else◌}
use Rattle.std.specs.Prelude.{◌||◌}
use Rattle.h3_field.specs.Instruction.{encoder_bytes, decoder_bytes, DecoderInstruction}
use Rattle.h3_proto.specs.declared.stream.Side.{Side}
use Rattle.h3_proto.specs.declared.stream.Side.TheVariants.{Client, Server}
use Rattle.h3_qpack.specs.WholeInstructions.{rest_in}
use Rattle.h3_connection.specs.declared.arrival.Arrival.{Arrival}
use Rattle.h3_connection.specs.declared.arrival.Arrival.TheVariants.{BytesCame}
use Rattle.h3_connection.specs.Delivering.{unidirectional_at}
use Rattle.h3_connection.specs.Endpoint.{EndpointHistory, goaway_encoding, is_second, kind_of}
use Rattle.h3_connection.specs.Endpoint.Kind.{PeerUnidirectional, Request}
use Rattle.h3_connection.specs.Incoming.{Incoming}
use Rattle.h3_connection.specs.Keeping.{read_arrival}
use Rattle.h3_connection.specs.OwnIds.{other, is_own, control_id, encoder_id, decoder_id}
use Rattle.h3_connection.specs.PartReading as reading
use Rattle.h3_connection.specs.PartReading.{is_reader}
use Rattle.h3_connection.specs.StreamSets.{Streams, stream_at}
use Rattle.h3_connection.specs.Unidirectional.{role_after}
use Rattle.h3_connection.specs.Unidirectional.Role.{Control, Encoder, Decoder}
use Rattle.h3_world.specs.OwnStreams.{settings_bytes}
use Rattle.h3_world.specs.Setup.{IsMadeSetup, Setup, announced_at}
use Rattle.h3_world.specs.Streams.{is_open}
use Rattle.h3_world.specs.World.{World, party}
use Rattle.h3_headline.specs.Cited.{StreamLaws, Laws}
use Rattle.h3_headline.specs.ComingLaws.{kind_is}
use Rattle.h3_headline.specs.FlowLaws.{open_there}
use Rattle.h3_headline.specs.OwnEventLaws.{each_own}
use Rattle.h3_headline.specs.PeerStreams.{settings_frame_of}
use Rattle.h3_headline.specs.RoleLaws.{is_first}
use Rattle.h3_headline.specs.Standing.{IsPeerStream, StandsAt, are_settings_there, control_left, replies_unread}
use Rattle.h3_headline.specs.UnitLaws.{none_left}
use Rattle.h3_headline.specs.WritesMoreLaws.{decoder_bytes_some, encoder_bytes_some, goaways_some, type_of_control, type_of_encoder, type_of_decoder}
use Rattle.h3_memory.specs.Kept.{Delivery, Bytes, End, Reset, read_delivery, ReadsPart, Reads, Cuts}
use Rattle.h3_memory.specs.Keeping.{Held, ahead, came_of, held_of, text_of}
use Rattle.h3_memory.proofs.CutReading.{CutSo, cut_arrival}
use Rattle.h3_memory.proofs.KeptLaws.{KeptLaws}
use Rattle.h3_memory.proofs.OwnAhead.{own_stream_is}
use Rattle.h3_memory.proofs.OwnNames.{control_own, encoder_own, decoder_own}
use Rattle.h3_memory.proofs.PartSteps.{PartStep}
use Rattle.h3_memory.proofs.PartsHeld.{more_held}
use Rattle.h3_memory.proofs.ReadingState.{Reading}
use Rattle.h3_memory.proofs.ReadsWhole.{ReadsFirst, reads_first}
use Rattle.h3_memory.proofs.ReadDeliveries.{read_on}
use Rattle.h3_memory.proofs.TellsType.{Tells, tells_control, tells_decoder, tells_encoder, told_holds}
use Rattle.h3_memory.proofs.TextsOf.{by_truth, second_is}
use Rattle.h3_connection.specs.StrictConnection.{known_streams}

-- Of a stream of which nothing came nothing is left.
no_frames_left : (setup : Setup) (writer : Side) (ids : List ℕ) → control_left setup writer 0 ids ≡ []
no_frames_left setup writer ids = by_settings (are_settings_there setup writer 0)
  where
    none : 0 - length (settings_bytes (announced_at setup writer)) ≡ 0
    none = omega arith

    by_settings : (b : Bool) → (if b then rest_in goaway_encoding (0 - length (settings_bytes (announced_at setup writer))) ids else drop 1 (take 0 (settings_bytes (announced_at setup writer)))) ≡ []
    by_settings true = ap (λ n. rest_in goaway_encoding n ids) none ∙ none_left goaway_encoding goaways_some ids
    by_settings false = refl

pub no_replies_left : (knows : Bool) (replies : List DecoderInstruction) → replies_unread knows 0 replies ≡ []
no_replies_left knows replies = by_settings knows
  where
    none : 0 - 1 ≡ 0
    none = omega arith

    by_settings : (b : Bool) → (if b then rest_in decoder_bytes (0 - 1) replies else take (0 - 1) (flat_map decoder_bytes replies)) ≡ []
    by_settings true = ap (λ n. rest_in decoder_bytes n replies) none ∙ none_left decoder_bytes decoder_bytes_some replies
    by_settings false = ap (λ n. take n (flat_map decoder_bytes replies)) none

none_and_none : (xs ys : List ℕ) → xs ≡ [] → ys ≡ [] → xs ++ ys ≡ []
none_and_none xs ys e f = ap (λ l. l ++ ys) e ∙ f

module _ (laws : StreamLaws) (setup : Setup) (w : World) (side : Side) (mine : List Delivery) (held : Held) (incoming : Streams Incoming) (e : EndpointHistory) (h : StandsAt setup w side e) where
  abbrev s : Side
  s = other side

  abbrev F : EndpointHistory
  F = ahead e mine held incoming []

  untold_control : (party w s).own.control_taken ≡ 0 → held.control ≡ [] → Tells F (control_id s) (0 ∷ (settings_frame_of (announced_at setup s) ++ flat_map goaway_encoding (party w s).own.goaways))
  untold_control none nothing =
      tells_control F (control_id s) (settings_frame_of (announced_at setup s) ++ flat_map goaway_encoding (party w s).own.goaways)
      (record {
        kind = (own_stream_is setup w side e (control_id s) h (control_own s)).kind;
        stream = subst (λ n. IsPeerStream n Control (stream_at e.unidirectional (control_id s))) none h.control.stream_is;
        only = ap (λ o. is_second o (control_id s)) h.control.is_on ∙ is_first (party w s).own.control_taken (control_id s);
      })
      (none_and_none e.peer.unread held.control (h.control.unread ∙ ap (λ n. control_left setup s n (party w s).own.goaways) none ∙ no_frames_left setup s (party w s).own.goaways) nothing)

  untold_encoder : (party w s).own.encoder_taken ≡ 0 → held.encoder ≡ [] → Tells F (encoder_id s) (2 ∷ flat_map encoder_bytes (party w s).own.instructions)
  untold_encoder none nothing =
      let few : (party w s).own.encoder_taken - 1 ≡ 0 = omega (arith, none) in
      tells_encoder laws F (encoder_id s) (flat_map encoder_bytes (party w s).own.instructions)
      (record {
        kind = (own_stream_is setup w side e (encoder_id s) h (encoder_own s)).kind;
        stream = subst (λ n. IsPeerStream n Encoder (stream_at e.unidirectional (encoder_id s))) none h.encoder_stream.stream_is;
        only = ap (λ o. is_second o (encoder_id s)) h.encoder_stream.is_on ∙ is_first (party w s).own.encoder_taken (encoder_id s);
      })
      (none_and_none e.decoding.unread held.encoder (h.encoder_stream.unread ∙ ap (λ n. rest_in encoder_bytes n (party w s).own.instructions) few ∙ none_left encoder_bytes encoder_bytes_some (party w s).own.instructions) nothing)

  untold_decoder : (party w s).own.decoder_taken ≡ 0 → held.decoder ≡ [] → Tells F (decoder_id s) (3 ∷ flat_map decoder_bytes (party w s).own.replies)
  untold_decoder none nothing =
      tells_decoder laws F (decoder_id s) (flat_map decoder_bytes (party w s).own.replies)
      (record {
        kind = (own_stream_is setup w side e (decoder_id s) h (decoder_own s)).kind;
        stream = subst (λ n. IsPeerStream n Decoder (stream_at e.unidirectional (decoder_id s))) none h.decoder_stream.stream_is;
        only = ap (λ o. is_second o (decoder_id s)) h.decoder_stream.is_on ∙ is_first (party w s).own.decoder_taken (decoder_id s);
      })
      (none_and_none e.decoder_unread held.decoder
      (h.decoder_stream.left ∙ ap (λ n. replies_unread (are_settings_there setup s (party w s).own.control_taken) n (party w s).own.replies) none
      ∙ no_replies_left (are_settings_there setup s (party w s).own.control_taken) (party w s).own.replies) nothing)

-- **Each own stream of which nothing came.**
untold_tells : (laws : StreamLaws) (setup : Setup) (w : World) (side : Side) (mine : List Delivery) (held : Held) (incoming : Streams Incoming) (e : EndpointHistory) (id : ℕ) → StandsAt setup w side e → is_own (other side) id ≡ true
    → came_of w (other side) id ≡ 0 → held_of (other side) held id ≡ [] → Tells (ahead e mine held incoming []) id (text_of setup w (other side) id)
untold_tells laws setup w Client mine held incoming e id h own none nothing =
    each_own (λ q. came_of w Server q ≡ 0 → held_of Server held q ≡ [] → Tells (ahead e mine held incoming []) q (text_of setup w Server q)) Server id own
    (λ n k. subst (Tells (ahead e mine held incoming []) 3) (sym (ap (λ l. (l ++ settings_frame_of (announced_at setup Server)) ++ flat_map goaway_encoding (party w Server).own.goaways) type_of_control)) (untold_control laws setup w Client mine held incoming e h n k))
    (λ n k. subst (Tells (ahead e mine held incoming []) 7) (sym (ap (λ l. l ++ flat_map encoder_bytes (party w Server).own.instructions) type_of_encoder)) (untold_encoder laws setup w Client mine held incoming e h n k))
    (λ n k. subst (Tells (ahead e mine held incoming []) 11) (sym (ap (λ l. l ++ flat_map decoder_bytes (party w Server).own.replies) type_of_decoder)) (untold_decoder laws setup w Client mine held incoming e h n k)) none nothing
untold_tells laws setup w Server mine held incoming e id h own none nothing =
    each_own (λ q. came_of w Client q ≡ 0 → held_of Client held q ≡ [] → Tells (ahead e mine held incoming []) q (text_of setup w Client q)) Client id own
    (λ n k. subst (Tells (ahead e mine held incoming []) 2) (sym (ap (λ l. (l ++ settings_frame_of (announced_at setup Client)) ++ flat_map goaway_encoding (party w Client).own.goaways) type_of_control)) (untold_control laws setup w Server mine held incoming e h n k))
    (λ n k. subst (Tells (ahead e mine held incoming []) 6) (sym (ap (λ l. l ++ flat_map encoder_bytes (party w Client).own.instructions) type_of_encoder)) (untold_encoder laws setup w Server mine held incoming e h n k))
    (λ n k. subst (Tells (ahead e mine held incoming []) 10) (sym (ap (λ l. l ++ flat_map decoder_bytes (party w Client).own.replies) type_of_decoder)) (untold_decoder laws setup w Server mine held incoming e h n k)) none nothing

module _ (qpack : KeptLaws) (laws : Laws) (setup : Setup) (w : World) (side : Side) (mine : List Delivery) (f g : EndpointHistory) (made : IsMadeSetup setup) where
  abbrev t : Side
  t = other side

  -- nothing of it is read where it told its type
  told_step : (q count : ℕ) (ds : List Delivery) (id : ℕ) (bytes : List ℕ) (more : List Arrival) → is_own t q ≡ true → (came_of w t q ≡ 0 → ⊥) → Reading setup w side mine (Bytes q count ∷ ds) f g (BytesCame id bytes ∷ more)
      → PartStep setup w side mine (Bytes q count ∷ ds) (reading.held f id bytes) g (BytesCame id [] ∷ more)
  told_step q count ds id bytes more own told r =
      record {
        world = w;
        left = Bytes q count ∷ ds;
        goes = λ v rest p. p;
        reading = more_held setup w side mine q count ds f g (reading.held f id bytes) id bytes more own told r
            (ap (λ x. reading.held x id bytes) r.here.is ∙ ap (λ n. reading.held (ahead r.er mine r.here.held r.here.incoming []) n bytes) r.here.kept.0
            ∙ told_holds setup w side mine r.here.held r.here.incoming r.er q bytes r.two.both.here own told);
      }

own_of_kind : (setup : Setup) (w : World) (side : Side) (q : ℕ) (k : Side) → (is_own (other side) q || is_open w (other side) q) ≡ true → kind_of k q ≡ PeerUnidirectional → is_own (other side) q ≡ true
own_of_kind setup w side q k there kind = by_truth (is_own (other side) q) (λ own. own) (λ off. absurd (differ (sym (kind_is k q (open_there w (other side) q (second_is (is_own (other side) q) (is_open w (other side) q) off there)).request) ∙ kind)))
  where
    differ : Request ≡ PeerUnidirectional → ⊥
    differ e = cc

module _ (qpack : KeptLaws) (laws : Laws) (setup : Setup) (w : World) (side : Side) (mine : List Delivery) (f g : EndpointHistory) (made : IsMadeSetup setup) where
  abbrev u : Side
  u = other side

  -- **Bytes are held.**
  untold_step : (q count : ℕ) (ds : List Delivery) (id : ℕ) (bytes : List ℕ) (more : List Arrival) → is_own u q ≡ true → came_of w u q ≡ 0 → Reading setup w side mine (Bytes q count ∷ ds) f g (BytesCame id bytes ∷ more)
      → is_reader f id (role_after (known_streams f.announced) (unidirectional_at f id).role bytes).0 ≡ true → PartStep setup w side mine (Bytes q count ∷ ds) (reading.held f id bytes) g (BytesCame id [] ∷ more)
  untold_step q count ds id [] more own none r reads =
      absurd (clash (ap (λ x. is_reader x id (role_after (known_streams x.announced) (unidirectional_at x id).role []).0) r.here.is ∙ ap (λ n. is_reader F n (role_after (known_streams F.announced) (unidirectional_at F n).role []).0) r.here.kept.0 ∙ tells.nothing) reads)
    where
      F : EndpointHistory
      F = ahead r.er mine r.here.held r.here.incoming []

      tells : Tells F q (text_of setup w u q)
      tells = untold_tells laws.streams setup w side mine r.here.held r.here.incoming r.er q r.two.both.here own none (r.here.untold q none)

      clash : {b : Bool} → b ≡ false → b ≡ true → ⊥
      clash e f = grind (arith, e, f)
  untold_step q count ds id (b ∷ bytes) more own none r reads =
      record {
        world = step.world;
        left = step.left;
        goes = λ v rest p. subst (λ k. ReadsPart setup u w (Bytes q k ∷ ds) v rest) (sym c.size) (Cuts q c.first c.second (Reads (Bytes q c.first) (step.goes v rest p)));
        reading = subst (λ x. Reading setup step.world side mine step.left x g (BytesCame id [] ∷ more)) (sym same) step.reading;
      }
    where
      c : CutSo setup w side mine q count ds f g id (b ∷ []) bytes more
      c = cut_arrival setup w side mine q count ds f g id (b ∷ []) bytes more r

      first : ReadsFirst setup w side mine (Bytes q c.first) (Bytes q c.second ∷ ds) f g (BytesCame id (b ∷ [])) (BytesCame id bytes ∷ more)
      first = reads_first qpack laws setup w side mine f g made (Bytes q c.first) (Bytes q c.second ∷ ds) (BytesCame id (b ∷ [])) (BytesCame id bytes ∷ more) c.reading

      v : World
      v = read_delivery setup w u (Bytes q c.first)

      nothing_held : held_of u r.here.held q ≡ []
      nothing_held = r.here.untold q none

      -- its first byte has come
      some_first : c.first ≡ 0 → ⊥
      some_first zero_first = no_byte (ap (λ l. l ++ b ∷ []) (sym (c.reading.here.untold q none)) ∙ c.reading.here.kept.1 ∙ ap (λ n. take n (drop (came_of w u q) (text_of setup w u q))) zero_first)
        where
          no_byte : b ∷ [] ≡ [] → ⊥
          no_byte e = cc

      told : came_of v u q ≡ 0 → ⊥
      told nothing =
          some_first (some (came_of v u q) (came_of w u q) c.first ((read_on setup w side (Bytes q c.first) (Bytes q c.second ∷ ds) c.reading.here.may).came q ∙ Rattle.h3_memory.proofs.CutReading.counted_at (came_of w u) q c.first) nothing)
        where
          some : (a b c : ℕ) → a ≡ b + c → a ≡ 0 → c ≡ 0
          some a b c e f = omega (arith, e, f)

      step : PartStep setup v side mine (Bytes q c.second ∷ ds) (reading.held first.next id bytes) g (BytesCame id [] ∷ more)
      step = told_step qpack laws setup v side mine first.next g made q c.second ds id bytes more own told first.then_reads

      same : reading.held f id (b ∷ bytes) ≡ reading.held first.next id bytes
      same =
          ap (λ x. reading.held x id (b ∷ bytes)) r.here.is ∙ ap (λ n. reading.held (ahead r.er mine r.here.held r.here.incoming []) n (b ∷ bytes)) r.here.kept.0
          ∙ (untold_tells laws.streams setup w side mine r.here.held r.here.incoming r.er q r.two.both.here own none nothing_held).first b count bytes
          (ap (λ l. l ++ b ∷ bytes) (sym nothing_held) ∙ r.here.kept.1 ∙ ap (λ n. take count (drop n (text_of setup w u q))) none) first.next
          (ap (λ n. read_arrival (ahead r.er mine r.here.held r.here.incoming []) (BytesCame n (b ∷ []))) (sym r.here.kept.0) ∙ ap (λ x. read_arrival x (BytesCame id (b ∷ []))) (sym r.here.is) ∙ first.reads)
          ∙ ap (λ n. reading.held first.next n bytes) (sym r.here.kept.0)

  pub holds_step : (ds : List Delivery) (id : ℕ) (bytes : List ℕ) (more : List Arrival) → Reading setup w side mine ds f g (BytesCame id bytes ∷ more) → kind_of f.side id ≡ PeerUnidirectional
      → is_reader f id (role_after (known_streams f.announced) (unidirectional_at f id).role bytes).0 ≡ true → PartStep setup w side mine ds (reading.held f id bytes) g (BytesCame id [] ∷ more)
  holds_step [] id bytes more r kind reads = absurd r.here.kept
  holds_step (End q ∷ ds) id bytes more r kind reads = absurd r.here.kept
  holds_step (Reset q ∷ ds) id bytes more r kind reads = absurd r.here.kept
  holds_step (Bytes q count ∷ ds) id bytes more r kind reads =
      let own = own_of_kind setup w side q f.side r.here.may.0 (ap (kind_of f.side) (sym r.here.kept.0) ∙ kind) in
      by_zero (came_of w u q) refl own
    where
      by_zero : (n : ℕ) → came_of w u q ≡ n → is_own u q ≡ true → PartStep setup w side mine (Bytes q count ∷ ds) (reading.held f id bytes) g (BytesCame id [] ∷ more)
      by_zero Rattle.std.specs.Prelude.zero none own = untold_step q count ds id bytes more own none r reads
      by_zero (Rattle.std.specs.Prelude.suc n) some own = told_step qpack laws setup w side mine f g made q count ds id bytes more own (λ none. no_suc n (sym some ∙ none)) r
        where
          no_suc : (n : ℕ) → Rattle.std.specs.Prelude.suc n ≡ 0 → ⊥
          no_suc n e = cc
