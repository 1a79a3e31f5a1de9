-- Two endpoints that stand in a world, by which of them reads; and the writer behind, once so much more counts as delivered.
use Rattle.std.proofs.Common.{◌≡◌, ℕ, ◌+◌, ◌*◌, ◌^◌, ◌≤◌, true, List, [], ◌∷◌, length, refl, sym, ap, ◌∙◌, subst, arith, Option, Some, None}
use Rattle.std.specs.Prelude.{map, option_map}
use Rattle.h3_proto.specs.declared.stream.Side.{Side}
use Rattle.h3_proto.specs.declared.stream.Side.TheVariants.{Client, Server}
use Rattle.h3_connection.specs.declared.arrival.Arrival.{Arrival}
use Rattle.h3_connection.specs.Endpoint.{EndpointHistory, Own}
use Rattle.h3_connection.specs.Incoming.{Incoming}
use Rattle.h3_connection.specs.Outgoing.{Outgoing}
use Rattle.h3_connection.specs.OwnIds.{other, is_own, control_id, encoder_id, decoder_id}
use Rattle.h3_connection.specs.Sending.{own_advanced}
use Rattle.h3_connection.specs.StreamSets.{HaveDistinctIds, Streams, stream_at}
use Rattle.h3_world.specs.Setup.{Setup}
use Rattle.h3_world.specs.Ends.{Ends, end_at}
use Rattle.h3_world.specs.Sound.{IsSoundWorld}
use Rattle.h3_world.specs.World.{World}
use Rattle.h3_headline.specs.Calls.{Both}
use Rattle.h3_headline.specs.MovesLaws.{stands_moved}
use Rattle.h3_headline.specs.OwnEventLaws.{each_own}
use Rattle.h3_headline.specs.SendingLaws.{both_of}
use Rattle.h3_headline.specs.Standing.{Stands, StandsAt}
use Rattle.h3_memory.specs.Kept.{Delivery, Bytes, End, Reset}
use Rattle.h3_memory.specs.Keeping.{Held, ahead, bytes_in, handed_own, handed_stream}
use Rattle.h3_memory.proofs.Ahead.{at_mapped, further_taken}

-- the client of a reader and a writer, and both as ends
abbrev pub client_of : Side → EndpointHistory → EndpointHistory → EndpointHistory
client_of Client er ew = er
client_of Server er ew = ew

abbrev pub ends_of : Side → EndpointHistory → EndpointHistory → Ends
ends_of Client er ew = record { client = er; server = ew }
ends_of Server er ew = record { client = ew; server = er }

-- Both stand in the world.
pub record Two (setup : Setup) (w : World) (side : Side) (er ew : EndpointHistory) : Type 0 where
  pub both : Both setup w side er ew
  pub sound : IsSoundWorld setup w
  pub few : 4 * length w.exchanges ≤ 2 ^ 62
  pub next_id : (client_of side er ew).next_id ≡ 4 * length w.exchanges

pub two_of : (setup : Setup) (w : World) (side : Side) (ends : Ends) → Stands setup w ends → Two setup w side (end_at ends side) (end_at ends (other side))
two_of setup w Client ends h = record { both = both_of setup w Client ends h; sound = h.sound; few = h.few; next_id = h.next_id }
two_of setup w Server ends h = record { both = both_of setup w Server ends h; sound = h.sound; few = h.few; next_id = h.next_id }

pub stands_of : (setup : Setup) (w : World) (side : Side) (er ew : EndpointHistory) → Two setup w side er ew → Stands setup w (ends_of side er ew)
stands_of setup w Client er ew t =
    record {
      at_client = t.both.here;
      at_server = t.both.there;
      next_id = t.next_id;
      few = t.few;
      sound = t.sound;
      client_writes = t.both.writes_here;
      server_writes = t.both.writes_there;
      requests = t.both.sends_here;
      responses = t.both.sends_there;
    }
stands_of setup w Server er ew t =
    record {
      at_client = t.both.there;
      at_server = t.both.here;
      next_id = t.next_id;
      few = t.few;
      sound = t.sound;
      client_writes = t.both.writes_there;
      server_writes = t.both.writes_here;
      requests = t.both.sends_there;
      responses = t.both.sends_here;
    }

pub next_kept : (setup : Setup) (w : World) (side : Side) (er ew er_after ew_after : EndpointHistory) (n : ℕ) → Two setup w side er ew → er_after.next_id ≡ er.next_id → ew_after.next_id ≡ ew.next_id
    → n ≡ length w.exchanges → (client_of side er_after ew_after).next_id ≡ 4 * n
next_kept setup w Client er ew er_after ew_after n t reader writer count = reader ∙ t.next_id ∙ sym (ap (λ m. 4 * m) count)
next_kept setup w Server er ew er_after ew_after n t reader writer count = writer ∙ t.next_id ∙ sym (ap (λ m. 4 * m) count)

-- A writer that has handed over these.
abbrev pub handed : EndpointHistory → List Delivery → EndpointHistory
handed e ds = record e { own = handed_own e.side e.own ds; outgoing = map (handed_stream ds) e.outgoing }

pub one_and_more : (id n : ℕ) (d : Delivery) (ds : List Delivery) → n + bytes_in id (d ∷ []) + bytes_in id ds ≡ n + bytes_in id (d ∷ ds)
one_and_more id n (Bytes stream count) ds = omega arith
one_and_more id n (End stream) ds = omega arith
one_and_more id n (Reset stream) ds = omega arith

abbrev taken_to : Own → ℕ → ℕ → ℕ → Own
taken_to own a b c = record own { control_taken = a; encoder_taken = b; decoder_taken = c }

pub taken_alike : (own : Own) (a b c d e f : ℕ) → a ≡ d → b ≡ e → c ≡ f → taken_to own a b c ≡ taken_to own d e f
taken_alike own a b c d e f first second third = ap (λ x. taken_to own x b c) first ∙ ap (λ x. taken_to own d x c) second ∙ ap (λ x. taken_to own d e x) third

handed_own_both : (side : Side) (own : Own) (d : Delivery) (ds : List Delivery) → handed_own side (handed_own side own (d ∷ [])) ds ≡ handed_own side own (d ∷ ds)
handed_own_both side own d ds =
    taken_alike own _ _ _ _ _ _ (one_and_more (control_id side) own.control_taken d ds) (one_and_more (encoder_id side) own.encoder_taken d ds) (one_and_more (decoder_id side) own.decoder_taken d ds)

handed_streams_both : (streams : Streams Outgoing) (d : Delivery) (ds : List Delivery) → map (handed_stream ds) (map (handed_stream (d ∷ [])) streams) ≡ map (handed_stream (d ∷ ds)) streams
handed_streams_both [] d ds = refl
handed_streams_both ((id, o) ∷ streams) d ds =
    ap (λ n. (id, record o { taken = n }) ∷ map (handed_stream ds) (map (handed_stream (d ∷ [])) streams)) (one_and_more id o.taken d ds)
    ∙ ap (λ l. (id, record o { taken = o.taken + bytes_in id (d ∷ ds) }) ∷ l) (handed_streams_both streams d ds)

-- **What is read of what a writer handed over is no longer ahead of the one behind.**
pub handed_both : (e : EndpointHistory) (d : Delivery) (ds : List Delivery) (held : Held) (incoming : Streams Incoming) (kept : List Arrival)
    → ahead (handed e (d ∷ [])) ds held incoming kept ≡ ahead e (d ∷ ds) held incoming kept
handed_both e d ds held incoming kept =
    ap (λ own. record (ahead e (d ∷ ds) held incoming kept) { own = own; outgoing = map (handed_stream ds) (map (handed_stream (d ∷ [])) e.outgoing) }) (handed_own_both e.side e.own d ds)
    ∙ ap (λ l. record (ahead e (d ∷ ds) held incoming kept) { outgoing = l }) (handed_streams_both e.outgoing d ds)

-- An endpoint whose streams are these stands where one of the same streams does.
pub outgoing_alike : (setup : Setup) (w : World) (side : Side) (e f : EndpointHistory) → StandsAt setup w side e → f ≡ record e { own = f.own; outgoing = f.outgoing } → f.own ≡ e.own
    → ((i : ℕ) → stream_at f.outgoing i ≡ stream_at e.outgoing i) → StandsAt setup w side f
outgoing_alike setup w side e f h is own same =
    stands_moved setup w w side e f h
    (record {
      same = is ∙ ap (λ i. record e { incoming = i; own = f.own; outgoing = f.outgoing }) (sym (ap (λ x. x.incoming) is)) ∙ ap (λ i. record e { incoming = f.incoming; own = f.own; outgoing = f.outgoing; encoder = i }) (sym (ap (λ x. x.encoder) is))
          ∙ ap (λ i. record e { incoming = f.incoming; own = f.own; outgoing = f.outgoing; encoder = f.encoder; sent = i }) (sym (ap (λ x. x.sent) is)) ∙ ap (λ i. record e { incoming = f.incoming; own = f.own; outgoing = f.outgoing; encoder = f.encoder; sent = f.sent; next_id = i }) (sym (ap (λ x. x.next_id) is));
      own = own ∙ h.own;
      encoder = ap (λ x. x.encoder) is ∙ h.encoder;
      control = h.control;
      encoder_stream = h.encoder_stream;
      decoder_stream = h.decoder_stream;
      outgoing = λ i. same i ∙ h.outgoing i;
      incoming = λ i. subst (λ l. Rattle.h3_headline.specs.Standing.ReceivesAt (Rattle.h3_world.specs.Streams.is_open w side i) (Rattle.h3_world.specs.Streams.flow w (other side) i) (stream_at l i)) (sym (ap (λ x. x.incoming) is)) (h.incoming i);
      distinct = subst Rattle.h3_connection.specs.StreamSets.HaveDistinctIds (sym (ap (λ x. x.incoming) is)) h.distinct;
    })

-- no bytes of a stream leave it as it is
none_taken : (d : Delivery) (i : ℕ) (o : Option Outgoing) → bytes_in i (d ∷ []) ≡ 0 → option_map (further_taken (d ∷ []) i) o ≡ o
none_taken d i None none = refl
none_taken d i (Some o) none =
    let same : o.taken + bytes_in i (d ∷ []) ≡ o.taken = omega (arith, none) in
    ap (λ n. Some (record o { taken = n })) same

pub at_handed : (streams : Streams Outgoing) (d : Delivery) (i : ℕ) → bytes_in i (d ∷ []) ≡ 0 → stream_at (map (handed_stream (d ∷ [])) streams) i ≡ stream_at streams i
at_handed streams d i none = at_mapped (d ∷ []) streams i ∙ none_taken d i (stream_at streams i) none

-- no bytes of own streams
pub own_untaken : (side : Side) (own : Own) (d : Delivery) → bytes_in (control_id side) (d ∷ []) ≡ 0 → bytes_in (encoder_id side) (d ∷ []) ≡ 0 → bytes_in (decoder_id side) (d ∷ []) ≡ 0 → handed_own side own (d ∷ []) ≡ own
own_untaken side own d control encoder decoder = taken_alike own _ _ _ _ _ _ (omega (arith, control)) (omega (arith, encoder)) (omega (arith, decoder))

-- bytes of an own stream
pub own_taken : (side : Side) (own : Own) (id count : ℕ) → is_own side id ≡ true → handed_own side own (Bytes id count ∷ []) ≡ own_advanced own side id count
own_taken Client own id count is =
    each_own (λ i. handed_own Client own (Bytes i count ∷ []) ≡ own_advanced own Client i count) Client id is
    (taken_alike own _ _ _ _ _ _ (omega arith) (omega arith) (omega arith)) (taken_alike own _ _ _ _ _ _ (omega arith) (omega arith) (omega arith)) (taken_alike own _ _ _ _ _ _ (omega arith) (omega arith) (omega arith))
own_taken Server own id count is =
    each_own (λ i. handed_own Server own (Bytes i count ∷ []) ≡ own_advanced own Server i count) Server id is
    (taken_alike own _ _ _ _ _ _ (omega arith) (omega arith) (omega arith)) (taken_alike own _ _ _ _ _ _ (omega arith) (omega arith) (omega arith)) (taken_alike own _ _ _ _ _ _ (omega arith) (omega arith) (omega arith))

-- no id comes to stand twice
handed_missing : (streams : Streams Outgoing) (ds : List Delivery) (id : ℕ) → stream_at streams id ≡ None → stream_at (map (handed_stream ds) streams) id ≡ None
handed_missing streams ds id none = at_mapped ds streams id ∙ ap (option_map (further_taken ds id)) none

pub handed_distinct : (streams : Streams Outgoing) (ds : List Delivery) → HaveDistinctIds streams → HaveDistinctIds (map (handed_stream ds) streams)
handed_distinct [] ds h = tt
handed_distinct ((id, o) ∷ streams) ds h = (handed_missing streams ds id h.0, handed_distinct streams ds h.1)
