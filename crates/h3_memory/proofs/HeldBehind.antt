-- The settings are not known yet: what the decoder wrote before counts as not delivered, and is held behind the control stream.
use Rattle.std.proofs.Common.{◌≡◌, ℕ, ◌+◌, ◌-◌, ◌*◌, ◌^◌, ◌≤◌, Bool, true, false, List, [], ◌∷◌, length, take, flat_map, refl, sym, ap, ◌∙◌, subst, arith, if◌then◌else◌, Option, Some, None}
use Rattle.std.specs.Prelude.{◌==◌, map, min}
use Rattle.std.specs.List.{AllByRecursion}
use Rattle.h3_field.specs.Instruction.{decoder_bytes}
use Rattle.h3_proto.specs.declared.stream.Side.{Side}
use Rattle.h3_proto.specs.declared.stream.Side.TheVariants.{Client, Server}
use Rattle.h3_connection.specs.declared.arrival.Arrival.{Arrival}
use Rattle.h3_connection.specs.Endpoint.{EndpointHistory, Own}
use Rattle.h3_connection.specs.Incoming.{Incoming}
use Rattle.h3_connection.specs.Outgoing.{Outgoing}
use Rattle.h3_connection.specs.OwnIds.{other, control_id, decoder_id}
use Rattle.h3_connection.specs.StreamSets.{Streams, stream_at}
use Rattle.h3_connection.specs.Unidirectional.{Unidirectional, untold}
use Rattle.h3_connection.specs.Unidirectional.Role.{Untold, Decoder}
use Rattle.h3_world.specs.Refused.{held_back, with_replies_held}
use Rattle.h3_world.specs.Setup.{Setup}
use Rattle.h3_world.specs.Came.{settings_came}
use Rattle.h3_world.specs.Flow.{Flow}
use Rattle.h3_world.specs.Order.{outgoing_of}
use Rattle.h3_world.specs.Streams.{flow, is_open}
use Rattle.h3_world.specs.World.{World, Party, party}
use Rattle.h3_headline.specs.FlowLaws.{flow-with_party, is_open-with_party, party-with_other, party-with_party, party-with_peer, same_number}
use Rattle.h3_headline.specs.OwnEventLaws.{own_outgoing}
use Rattle.h3_headline.specs.Standing.{HasControlOf, HasDecoderStream, HasEncoderStreamOf, IsPeerStream, IsReadable, IsWritable, ReceivesAt, StandsAt, are_settings_there, came_on, replies_unread}
use Rattle.h3_headline.specs.WritingLaws.{party_count}
use Rattle.h3_memory.specs.Kept.{Delivery, Bytes, held_bytes}
use Rattle.h3_memory.specs.Keeping.{Held, ahead, bytes_in, handed_own, handed_stream}
use Rattle.h3_memory.proofs.KeptLaws.{KeptLaws}
use Rattle.h3_memory.proofs.ReadingEnds.{Two, client_of, taken_alike}

-- So much of the decoder stream, where something came of it: its type.
pub one_of : (n : ℕ) → (n ≡ 0 → ⊥) → min 1 n ≡ 1
one_of Rattle.std.specs.Prelude.zero some = absurd (some refl)
one_of (Rattle.std.specs.Prelude.suc n) some = omega arith

-- The reader behind got nothing of it but that; the writer has handed over no more.
abbrev pub back_reader : EndpointHistory → EndpointHistory
back_reader e = record e { decoder_unread = [] }

abbrev pub back_writer : EndpointHistory → EndpointHistory
back_writer e = record e { own = record e.own { decoder_taken = min 1 e.own.decoder_taken } }

still_peer : (came : ℕ) (o : Option Unidirectional) → (came ≡ 0 → ⊥) → IsPeerStream came Decoder o → IsPeerStream (min 1 came) Decoder o
still_peer came None some h = absurd (some h)
still_peer came (Some o) some h = h ∙ ap (λ b. record untold { role = if b then Untold [] else Decoder }) (by_test (came == 0) refl ∙ sym (ap (λ n. n == 0) (one_of came some)))
  where
    by_test : (b : Bool) → (came == 0) ≡ b → b ≡ false
    by_test true e = absurd (some (same_number came 0 e))
    by_test false e = refl

still_on : (came x : ℕ) (on : Option ℕ) → (came ≡ 0 → ⊥) → on ≡ came_on came x → on ≡ came_on (min 1 came) x
still_on came x on some h = h ∙ by_test (came == 0) refl ∙ sym (ap (λ n. came_on n x) (one_of came some))
  where
    by_test : (b : Bool) → (came == 0) ≡ b → (if b then None else Some x) ≡ came_on 1 x
    by_test true e = absurd (some (same_number came 0 e))
    by_test false e = refl

module _ (setup : Setup) (w : World) (side : Side) where
  abbrev s : Side
  s = other side

  abbrev v : World
  v = held_back w s

  writer_is : party v s ≡ with_replies_held (party w s)
  writer_is = party-with_party w s (with_replies_held (party w s))

  reader_is : party v side ≡ party w side
  reader_is = party-with_peer w side (with_replies_held (party w s))

  others_is : party v (other s) ≡ party w (other s)
  others_is = party-with_other w s (with_replies_held (party w s))

  flows_same : (t : Side) (i : ℕ) → flow v t i ≡ flow w t i
  flows_same t i = flow-with_party w s t (with_replies_held (party w s)) i

  opens_same : (t : Side) (i : ℕ) → is_open v t i ≡ is_open w t i
  opens_same t i = is_open-with_party w s t (with_replies_held (party w s)) i

  outgoing_same : (t : Side) (e : EndpointHistory) → StandsAt setup w t e → (i : ℕ) → stream_at e.outgoing i ≡ (if is_open v t i then Some (outgoing_of (flow v t i)) else None)
  outgoing_same t e h i =
      h.outgoing i ∙ ap (λ b. if b then Some (outgoing_of (flow w t i)) else None) (sym (opens_same t i)) ∙ ap (λ (f : Flow). if is_open v t i then Some (outgoing_of f) else None) (sym (flows_same t i))

  incoming_same : (t : Side) (e : EndpointHistory) → StandsAt setup w t e → (i : ℕ) → ReceivesAt (is_open v t i) (flow v (other t) i) (stream_at e.incoming i)
  incoming_same t e h i =
      subst (λ b. ReceivesAt b (flow v (other t) i) (stream_at e.incoming i)) (sym (opens_same t i)) (subst (λ (f : Flow). ReceivesAt (is_open w t i) f (stream_at e.incoming i)) (sym (flows_same (other t) i)) (h.incoming i))

  reader_back : (e : EndpointHistory) → StandsAt setup w side e → are_settings_there setup s (party w s).own.control_taken ≡ false → ((party w s).own.decoder_taken ≡ 0 → ⊥) → StandsAt setup v side (back_reader e)
  reader_back e h unknown some =
      record {
        side_is = h.side_is;
        announced = h.announced;
        any = h.any;
        remembered = h.remembered;
        no_fault = h.no_fault;
        nothing_kept = h.nothing_kept;
        own = h.own ∙ sym (ap (λ (p : Party). p.own) reader_is);
        encoder = h.encoder ∙ sym (ap (λ (p : Party). p.encoder) reader_is);
        control = subst (λ (p : Party). HasControlOf setup side p.own (back_reader e)) (sym writer_is)
            (record { stream_is = h.control.stream_is; is_on = h.control.is_on; settings = h.control.settings; goaways_are = h.control.goaways_are; most_pushes = h.control.most_pushes; updates = h.control.updates; others = h.control.others; unread = h.control.unread });
        encoder_stream = subst (λ (p : Party). HasEncoderStreamOf setup side p.own (back_reader e)) (sym writer_is)
            (record { stream_is = h.encoder_stream.stream_is; is_on = h.encoder_stream.is_on; decoder = h.encoder_stream.decoder; unread = h.encoder_stream.unread });
        decoder_stream = subst (λ (p : Party). HasDecoderStream side (are_settings_there setup s p.own.control_taken) p.own.decoder_taken p.own.replies (stream_at e.unidirectional (decoder_id s)) e.decoder_on []) (sym writer_is)
            (record {
              stream_is = still_peer (party w s).own.decoder_taken (stream_at e.unidirectional (decoder_id s)) some h.decoder_stream.stream_is;
              is_on = still_on (party w s).own.decoder_taken (decoder_id s) e.decoder_on some h.decoder_stream.is_on;
              left = sym (ap (λ b. replies_unread b (min 1 (party w s).own.decoder_taken) (party w s).own.replies) unknown ∙ ap (λ n. take (n - 1) (flat_map decoder_bytes (party w s).own.replies)) (one_of (party w s).own.decoder_taken some));
            });
        no_others = h.no_others;
        outgoing = outgoing_same side e h;
        incoming = incoming_same side e h;
        distinct = h.distinct;
      }

  writer_back : (e : EndpointHistory) → StandsAt setup w s e → StandsAt setup v s (back_writer e)
  writer_back e h =
      record {
        side_is = h.side_is;
        announced = h.announced;
        any = h.any;
        remembered = h.remembered;
        no_fault = h.no_fault;
        nothing_kept = h.nothing_kept;
        own = ap (λ (o : Own). record o { decoder_taken = min 1 o.decoder_taken }) h.own ∙ sym (ap (λ (p : Party). p.own) writer_is);
        encoder = h.encoder ∙ sym (ap (λ (p : Party). p.encoder) writer_is);
        control = subst (λ (p : Party). HasControlOf setup s p.own e) (sym others_is) h.control;
        encoder_stream = subst (λ (p : Party). HasEncoderStreamOf setup s p.own e) (sym others_is) h.encoder_stream;
        decoder_stream = subst (λ (p : Party). HasDecoderStream s (are_settings_there setup (other s) p.own.control_taken) p.own.decoder_taken p.own.replies (stream_at e.unidirectional (decoder_id (other s))) e.decoder_on e.decoder_unread) (sym others_is) h.decoder_stream;
        no_others = h.no_others;
        outgoing = outgoing_same s e h;
        incoming = incoming_same s e h;
        distinct = h.distinct;
      }

  next_back : (er ew : EndpointHistory) → (client_of side (back_reader er) (back_writer ew)).next_id ≡ (client_of side er ew).next_id
  next_back er ew = by_side side
    where
      by_side : (t : Side) → (client_of t (back_reader er) (back_writer ew)).next_id ≡ (client_of t er ew).next_id
      by_side Client = refl
      by_side Server = refl

  pub two_back : (qpack : KeptLaws) (er ew : EndpointHistory) → Two setup w side er ew → settings_came setup w s ≡ false → ((party w s).own.decoder_taken ≡ 0 → ⊥) → Two setup v side (back_reader er) (back_writer ew)
  two_back qpack er ew t unknown some =
      let count : length v.exchanges ≡ length w.exchanges = party_count w s (with_replies_held (party w s)) in
      record {
        both = record {
          here = reader_back er t.both.here unknown some;
          there = writer_back ew t.both.there;
          writes_here = subst (λ (p : Party). IsWritable side p.own) (sym reader_is) t.both.writes_here;
          writes_there = subst (λ (p : Party). IsWritable s p.own) (sym writer_is) (record { goaways = t.both.writes_there.goaways; instructions = t.both.writes_there.instructions; replies = t.both.writes_there.replies; updates = t.both.writes_there.updates });
          sends_here = λ i. subst (λ (f : Flow). AllByRecursion (IsReadable setup (other side)) f.sent) (sym (flows_same side i)) (t.both.sends_here i);
          sends_there = λ i. subst (λ (f : Flow). AllByRecursion (IsReadable setup side) f.sent) (sym (flows_same s i)) (t.both.sends_there i);
        };
        sound = qpack.held setup w s unknown t.sound;
        few = subst (λ n. 4 * n ≤ 2 ^ 62) (sym count) t.few;
        next_id = next_back er ew ∙ t.next_id ∙ sym (ap (λ n. 4 * n) count);
      }

back_own : (side : Side) (own : Own) (count : ℕ) (ds : List Delivery)
    → handed_own side own (Bytes (control_id side) count ∷ ds) ≡ handed_own side (record own { decoder_taken = min 1 own.decoder_taken }) (Bytes (control_id side) count ∷ Bytes (decoder_id side) (own.decoder_taken - 1) ∷ ds)
back_own Client own count ds = taken_alike own _ _ _ _ _ _ (omega arith) (omega arith) (omega arith)
back_own Server own count ds = taken_alike own _ _ _ _ _ _ (omega arith) (omega arith) (omega arith)

back_streams : (streams : Streams Outgoing) (c d count n : ℕ) (ds : List Delivery) → stream_at streams d ≡ None → map (handed_stream (Bytes c count ∷ ds)) streams ≡ map (handed_stream (Bytes c count ∷ Bytes d n ∷ ds)) streams
back_streams [] c d count n ds none = refl
back_streams ((q, o) ∷ streams) c d count n ds none = by_id (back_streams streams c d count n ds) (q == d) refl none
  where
    one : (q == d) ≡ false → bytes_in q (Bytes c count ∷ ds) ≡ bytes_in q (Bytes c count ∷ Bytes d n ∷ ds)
    one e = ap (λ k. (if c == q then count else 0) + k) (none_of (bytes_in q ds)) ∙ sym (ap (λ b. (if c == q then count else 0) + ((if b then n else 0) + bytes_in q ds)) (Rattle.h3_memory.proofs.TextsOf.flipped d q ∙ e))
      where
        none_of : (k : ℕ) → k ≡ 0 + k
        none_of k = omega arith

    by_id : (stream_at streams d ≡ None → map (handed_stream (Bytes c count ∷ ds)) streams ≡ map (handed_stream (Bytes c count ∷ Bytes d n ∷ ds)) streams) → (b : Bool) → (q == d) ≡ b → (if b then Some o else stream_at streams d) ≡ None
        → map (handed_stream (Bytes c count ∷ ds)) ((q, o) ∷ streams) ≡ map (handed_stream (Bytes c count ∷ Bytes d n ∷ ds)) ((q, o) ∷ streams)
    by_id later true e missing = cc
    by_id later false e missing =
        ap (λ k. (q, record o { taken = o.taken + k }) ∷ map (handed_stream (Bytes c count ∷ ds)) streams) (one e)
        ∙ ap (λ l. handed_stream (Bytes c count ∷ Bytes d n ∷ ds) (q, o) ∷ l) (later missing)

pub back_ahead : (setup : Setup) (w : World) (side : Side) (e : EndpointHistory) (count : ℕ) (ds : List Delivery) (held : Held) (incoming : Streams Incoming) (kept : List Arrival) → StandsAt setup w side e
    → ahead e (Bytes (control_id side) count ∷ ds) held incoming kept ≡ ahead (back_writer e) (Bytes (control_id side) count ∷ held_bytes w side ∷ ds) held incoming kept
back_ahead setup w side e count ds held incoming kept h =
    let none : stream_at e.outgoing (decoder_id side) ≡ None = own_outgoing setup w side (decoder_id side) e h (Rattle.h3_memory.proofs.OwnNames.decoder_own side) in
    let n = (party w side).own.decoder_taken - 1 in
    let own_is : handed_own e.side e.own (Bytes (control_id side) count ∷ ds) ≡ handed_own e.side (record e.own { decoder_taken = min 1 e.own.decoder_taken }) (Bytes (control_id side) count ∷ Bytes (decoder_id side) n ∷ ds) =
    ap (λ t. handed_own t e.own (Bytes (control_id side) count ∷ ds)) h.side_is ∙ back_own side e.own count ds
    ∙ ap (λ t. handed_own t (record e.own { decoder_taken = min 1 e.own.decoder_taken }) (Bytes (control_id side) count ∷ Bytes (decoder_id side) (e.own.decoder_taken - 1) ∷ ds)) (sym h.side_is)
    ∙ ap (λ k. handed_own e.side (record e.own { decoder_taken = min 1 e.own.decoder_taken }) (Bytes (control_id side) count ∷ Bytes (decoder_id side) (k - 1) ∷ ds)) (ap (λ (o : Own). o.decoder_taken) h.own) in
    ap (λ o. record (ahead e (Bytes (control_id side) count ∷ ds) held incoming kept) { own = o }) own_is
    ∙ ap (λ l. record (ahead (back_writer e) (Bytes (control_id side) count ∷ held_bytes w side ∷ ds) held incoming kept) { outgoing = l }) (back_streams e.outgoing (control_id side) (decoder_id side) count n ds none)
