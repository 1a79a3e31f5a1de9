-- A part of what is held of the encoder stream, or of the decoder stream once the settings are known, is read.
use Rattle.std.proofs.Common.{◌≡◌, ◌⊎◌, inl, inr, ℕ, ◌-◌, Bool, true, false, List, [], ◌∷◌, ◌++◌, refl, sym, ap, ◌∙◌, subst, if◌then◌else◌, Some, None}
use Rattle.h3_proto.specs.declared.stream.Side.{Side}
use Rattle.h3_qpack.specs.EncoderHistory.{EncoderHistory}
use Rattle.h3_connection.specs.declared.arrival.Arrival.{Arrival}
use Rattle.h3_connection.specs.declared.arrival.Arrival.TheVariants.{BytesCame}
use Rattle.h3_connection.specs.Control.{Found, increment, read_encoder, read_decoder, listened_to, kept_unread}
use Rattle.h3_connection.specs.Endpoint.{EndpointHistory, limit_of, replied}
use Rattle.h3_connection.specs.ExcessiveInstructions.{listen_up_to}
use Rattle.h3_connection.specs.Keeping.{read_arrival}
use Rattle.h3_connection.specs.LimitedHearingLaws.{hear_unlimited}
use Rattle.h3_connection.specs.LimitedListeningLaws.{listen_unlimited}
use Rattle.h3_connection.specs.Listeners.{Decoding}
use Rattle.h3_connection.specs.OwnIds.{other, encoder_id, decoder_id}
use Rattle.h3_connection.specs.PartReading.{HearsPart, ListensPart}
use Rattle.h3_connection.specs.StreamSets.{stream_at}
use Rattle.h3_connection.specs.Unidirectional.Role.{Encoder, Decoder}
use Rattle.h3_world.specs.Setup.{IsMadeSetup, Setup, TakesAnyLength}
use Rattle.h3_world.specs.World.{World, party}
use Rattle.h3_headline.specs.Cited.{Laws}
use Rattle.h3_headline.specs.Standing.{StandsAt}
use Rattle.h3_memory.specs.Kept.{Delivery, Bytes, End, Reset}
use Rattle.h3_memory.specs.Keeping.{ahead}
use Rattle.h3_memory.proofs.KeptLaws.{KeptLaws}
use Rattle.h3_memory.proofs.OwnAhead.{own_kind}
use Rattle.h3_memory.proofs.OwnNames.{encoder_own, decoder_own, encoder_came, decoder_came, encoder_held, decoder_held, encoder_holding, decoder_holding}
use Rattle.h3_memory.proofs.PartSteps.{PartStep, own_part, stays}
use Rattle.h3_memory.proofs.PartsRead.{ReadsHeld, Splits, Beyond, Within, hears_held, read_to, splits}
use Rattle.h3_memory.proofs.ReadingState.{Reading}
use Rattle.h3_memory.proofs.TellsRole.{IsReadAs, told_stream, came_on_is, encoder_reads, decoder_reads}
use Rattle.h3_memory.proofs.Unfinished.{encoder_unfinished, decoder_unfinished}

-- What is kept first came on this own stream.
pub of_own : (setup : Setup) (w : World) (side : Side) (mine : List Delivery) (f g : EndpointHistory) (ds : List Delivery) (q count i x : ℕ) (bytes : List ℕ) (more : List Arrival) (P : ℕ → Type 0)
    → i ≡ q → i ≡ x → (Reading setup w side mine (Bytes x count ∷ ds) f g (BytesCame i bytes ∷ more) → P x) → Reading setup w side mine (Bytes q count ∷ ds) f g (BytesCame i bytes ∷ more) → P q
of_own setup w side mine f g ds q count i x bytes more P same is go r =
    subst P (sym is ∙ same) (go (subst (λ k. Reading setup w side mine (Bytes k count ∷ ds) f g (BytesCame i bytes ∷ more)) (sym same ∙ is) r))

module _ (qpack : KeptLaws) (laws : Laws) (setup : Setup) (w : World) (side : Side) (mine : List Delivery) (f g : EndpointHistory) (made : IsMadeSetup setup) where
  abbrev t : Side
  t = other side

  -- **A front of what is held of the encoder stream.**
  pub hears_step : (ds : List Delivery) (id : ℕ) (d : Decoding) (more : List Arrival) → Reading setup w side mine ds f g (BytesCame id [] ∷ more) → f.encoder_on ≡ Some id → HearsPart (limit_of f) f.decoding d
      → PartStep setup w side mine ds (replied (record f { decoding = d }) (increment (d.decoder.table.inserted - f.decoding.decoder.table.inserted))) g (BytesCame id [] ∷ more)
  hears_step [] id d more r on h = absurd r.here.kept
  hears_step (End q ∷ ds) id d more r on h = absurd r.here.kept
  hears_step (Reset q ∷ ds) id d more r on h = absurd r.here.kept
  hears_step (Bytes q count ∷ ds) id d more r on h =
      of_own setup w side mine f g ds q count id (encoder_id t) [] more (λ k. PartStep setup w side mine (Bytes k count ∷ ds) after g (BytesCame id [] ∷ more)) r.here.kept.0 told.1 at r
    where
      after : EndpointHistory
      after = replied (record f { decoding = d }) (increment (d.decoder.table.inserted - f.decoding.decoder.table.inserted))

      told : ((party w t).own.encoder_taken ≡ 0 → ⊥) × (id ≡ encoder_id t)
      told = came_on_is (party w t).own.encoder_taken (encoder_id t) id (sym r.two.both.here.encoder_stream.is_on ∙ sym (ap (λ (e : EndpointHistory). e.encoder_on) r.here.is) ∙ on)

      at : Reading setup w side mine (Bytes (encoder_id t) count ∷ ds) f g (BytesCame id [] ∷ more) → PartStep setup w side mine (Bytes (encoder_id t) count ∷ ds) after g (BytesCame id [] ∷ more)
      at z = by_part part.is
        where
          e : StandsAt setup w side z.er
          e = z.two.both.here

          read_as : IsReadAs z.er (encoder_id t) Encoder z.er.encoder_on
          read_as = record {
            kind = own_kind setup w side z.er (encoder_id t) e (encoder_own t);
            stream = told_stream (party w t).own.encoder_taken Encoder (stream_at z.er.unidirectional (encoder_id t)) told.0 e.encoder_stream.stream_is;
            on_it = ap (λ (x : EndpointHistory). x.encoder_on) (sym z.here.is) ∙ on ∙ ap Some told.1;
          }

          part : ReadsHeld mine z.here.incoming [] z.er z.here.held (read_to mine z.here.incoming [] z.er (ahead z.er mine z.here.held z.here.incoming []) d)
          part =
              hears_held mine z.here.incoming [] z.er z.here.held d (subst (λ (x : EndpointHistory). HearsPart (limit_of x) x.decoding d) z.here.is h)
              (λ front left is. hear_unlimited (limit_of z.er) z.er.decoding.decoder front (subst TakesAnyLength (sym e.announced) e.any) ∙ encoder_unfinished laws.streams z.er.decoding.decoder ((party w t).own.encoder_taken - 1) (party w t).own.instructions front left z.two.both.writes_there.instructions (sym e.encoder_stream.unread ∙ is))

          after_is : after ≡ read_to mine z.here.incoming [] z.er (ahead z.er mine z.here.held z.here.incoming []) d
          after_is = ap (λ x. read_to mine z.here.incoming [] z.er x d) z.here.is

          by_part : (read_to mine z.here.incoming [] z.er (ahead z.er mine z.here.held z.here.incoming []) d ≡ ahead (read_encoder z.er part.read).0 mine (record z.here.held { encoder = part.left }) z.here.incoming [])
              ⊎ ((part.read ≡ []) × (read_to mine z.here.incoming [] z.er (ahead z.er mine z.here.held z.here.incoming []) d ≡ ahead z.er mine z.here.held z.here.incoming []))
              → PartStep setup w side mine (Bytes (encoder_id t) count ∷ ds) after g (BytesCame id [] ∷ more)
          by_part (inl is) =
              own_part qpack laws setup w side mine f g made after (encoder_id t) count ds id part.read part.left more (encoder_own t) (λ none. told.0 (sym (encoder_came w t) ∙ none)) z (encoder_held t z.here.held ∙ part.all)
              (after_is ∙ is ∙ ap (λ (x : Found). ahead x.0 mine (record z.here.held { encoder = part.left }) z.here.incoming []) (sym (encoder_reads z.er (encoder_id t) part.read read_as))
              ∙ ap (λ x. ahead (read_arrival z.er (BytesCame (encoder_id t) part.read)).0 mine x z.here.incoming []) (sym (encoder_holding t z.here.held part.left)))
          by_part (inr nothing) =
              subst (λ x. PartStep setup w side mine (Bytes (encoder_id t) count ∷ ds) x g (BytesCame id [] ∷ more)) (z.here.is ∙ sym (after_is ∙ nothing.1)) (stays setup w side mine (Bytes (encoder_id t) count ∷ ds) f g (BytesCame id [] ∷ more) z)

  -- **Of the decoder stream, once the settings are known.**
  pub listens_step : (ds : List Delivery) (id : ℕ) (encoder : EncoderHistory) (left : List ℕ) (pairs : List (ℕ × ℕ)) (more : List Arrival) → Reading setup w side mine ds f g (BytesCame id [] ∷ more) → f.decoder_on ≡ Some id
      → f.peer.settings ≡ Some pairs → ListensPart (limit_of f) f.encoder encoder f.decoder_unread left → PartStep setup w side mine ds (record f { encoder = encoder; decoder_unread = left }) g (BytesCame id [] ∷ more)
  listens_step [] id encoder left pairs more r on known h = absurd r.here.kept
  listens_step (End q ∷ ds) id encoder left pairs more r on known h = absurd r.here.kept
  listens_step (Reset q ∷ ds) id encoder left pairs more r on known h = absurd r.here.kept
  listens_step (Bytes q count ∷ ds) id encoder left pairs more r on known h =
      of_own setup w side mine f g ds q count id (decoder_id t) [] more (λ k. PartStep setup w side mine (Bytes k count ∷ ds) after g (BytesCame id [] ∷ more)) r.here.kept.0 told.1 at r
    where
      after : EndpointHistory
      after = record f { encoder = encoder; decoder_unread = left }

      told : ((party w t).own.decoder_taken ≡ 0 → ⊥) × (id ≡ decoder_id t)
      told = came_on_is (party w t).own.decoder_taken (decoder_id t) id (sym r.two.both.here.decoder_stream.is_on ∙ sym (ap (λ (e : EndpointHistory). e.decoder_on) r.here.is) ∙ on)

      at : Reading setup w side mine (Bytes (decoder_id t) count ∷ ds) f g (BytesCame id [] ∷ more) → PartStep setup w side mine (Bytes (decoder_id t) count ∷ ds) after g (BytesCame id [] ∷ more)
      at z = by_split (splits z.er.decoder_unread z.here.held.decoder part.front part.rest part.cut)
        where
          e : StandsAt setup w side z.er
          e = z.two.both.here

          known_behind : z.er.peer.settings ≡ Some pairs
          known_behind = ap (λ (x : EndpointHistory). x.peer.settings) (sym z.here.is) ∙ known

          read_as : IsReadAs z.er (decoder_id t) Decoder z.er.decoder_on
          read_as = record {
            kind = own_kind setup w side z.er (decoder_id t) e (decoder_own t);
            stream = told_stream (party w t).own.decoder_taken Decoder (stream_at z.er.unidirectional (decoder_id t)) told.0 e.decoder_stream.stream_is;
            on_it = ap (λ (x : EndpointHistory). x.decoder_on) (sym z.here.is) ∙ on ∙ ap Some told.1;
          }

          part : ListensPart (limit_of z.er) z.er.encoder encoder (z.er.decoder_unread ++ z.here.held.decoder) left
          part = subst (λ (x : EndpointHistory). ListensPart (limit_of x) x.encoder encoder x.decoder_unread left) z.here.is h

          F : EndpointHistory
          F = ahead z.er mine z.here.held z.here.incoming []

          listening : List ℕ → List ℕ → EndpointHistory
          listening front rest = record F { encoder = (listen_up_to (limit_of z.er) z.er.encoder front).encoder; decoder_unread = (listen_up_to (limit_of z.er) z.er.encoder front).left ++ rest }

          after_is : after ≡ listening part.front part.rest
          after_is =
              ap (λ (x : EndpointHistory). record x { encoder = encoder; decoder_unread = left }) z.here.is
              ∙ ap (λ x. record F { encoder = x; decoder_unread = left }) part.encoder
              ∙ ap (λ l. record F { encoder = (listen_up_to (limit_of z.er) z.er.encoder part.front).encoder; decoder_unread = l }) part.left_is

          reads_so : (read : List ℕ) → read_decoder z.er read ≡ listened_to z.er (listen_up_to (limit_of z.er) z.er.encoder (z.er.decoder_unread ++ read))
          reads_so read =
              ap (λ o. if Rattle.std.specs.Prelude.is_some o then listened_to z.er (listen_up_to (limit_of z.er) z.er.encoder (z.er.decoder_unread ++ read)) else kept_unread z.er (z.er.decoder_unread ++ read)) known_behind

          by_split : Splits z.er.decoder_unread z.here.held.decoder part.front part.rest → PartStep setup w side mine (Bytes (decoder_id t) count ∷ ds) after g (BytesCame id [] ∷ more)
          by_split (Beyond read is more_is) =
              own_part qpack laws setup w side mine f g made after (decoder_id t) count ds id read part.rest more (decoder_own t) (λ none. told.0 (sym (decoder_came w t) ∙ none)) z (decoder_held t z.here.held ∙ more_is)
              (after_is ∙ ap (λ l. listening l part.rest) is
              ∙ ap (λ (x : Found). ahead x.0 mine (record z.here.held { decoder = part.rest }) z.here.incoming []) (sym (reads_so read) ∙ sym (decoder_reads z.er (decoder_id t) read read_as))
              ∙ ap (λ x. ahead (read_arrival z.er (BytesCame (decoder_id t) read)).0 mine x z.here.incoming []) (sym (decoder_holding t z.here.held part.rest)))
          by_split (Within over_it is more_is) =
              let nothing =
              listen_unlimited (limit_of z.er) z.er.encoder part.front (subst TakesAnyLength (sym e.announced) e.any)
              ∙ decoder_unfinished laws.streams z.er.encoder ((party w t).own.decoder_taken - 1) (party w t).own.replies part.front over_it z.two.both.writes_there.replies (sym left_is ∙ is) in
              subst (λ x. PartStep setup w side mine (Bytes (decoder_id t) count ∷ ds) x g (BytesCame id [] ∷ more))
              (z.here.is ∙ sym (after_is ∙ ap (λ (x : Rattle.h3_qpack.specs.Hearing.Listened). record F { encoder = x.encoder; decoder_unread = x.left ++ part.rest }) nothing
              ∙ ap (λ l. record F { decoder_unread = l }) (sym part.cut)))
              (stays setup w side mine (Bytes (decoder_id t) count ∷ ds) f g (BytesCame id [] ∷ more) z)
            where
              left_is : z.er.decoder_unread ≡ Rattle.h3_qpack.specs.WholeInstructions.rest_in Rattle.h3_field.specs.Instruction.decoder_bytes ((party w t).own.decoder_taken - 1) (party w t).own.replies
              left_is = e.decoder_stream.left ∙ ap (λ b. Rattle.h3_headline.specs.Standing.replies_unread b (party w t).own.decoder_taken (party w t).own.replies) there
                where
                  by_known : (b : Bool) (x : List (ℕ × ℕ)) → (if b then Some x else None) ≡ Some pairs → b ≡ true
                  by_known true x same = refl
                  by_known false x same = absurd (cc)

                  there : Rattle.h3_headline.specs.Standing.are_settings_there setup t (party w t).own.control_taken ≡ true
                  there = by_known (Rattle.h3_headline.specs.Standing.are_settings_there setup t (party w t).own.control_taken) _ (sym e.control.settings ∙ known_behind)
