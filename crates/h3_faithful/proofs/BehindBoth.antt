-- Two ends that stand in a world with what they keep, beside those that got nothing of it.
use Rattle.std.proofs.Common.{◌≡◌, ◌⊎◌, inl, inr, ℕ, Bool, true, false, List, [], ◌∷◌, ◌++◌, refl, sym, ap, ◌∙◌, subst, Some, None, if◌then◌else◌, take, drop}
use Rattle.std.specs.Prelude.{◌==◌, ◌||◌, map, unwrap_or}
use Rattle.h3_proto.specs.declared.stream.Side.{Side}
use Rattle.h3_proto.specs.declared.stream.Side.TheVariants.{Client, Server}
use Rattle.h3_connection.specs.declared.arrival.Arrival.{Arrival}
use Rattle.h3_connection.specs.declared.arrival.Arrival.TheVariants.{BytesCame, EndCame, ResetCame}
use Rattle.h3_connection.specs.Endpoint.{EndpointHistory, kind_of}
use Rattle.h3_connection.specs.Endpoint.Kind.{Request}
use Rattle.h3_connection.specs.Incoming.{Incoming}
use Rattle.h3_connection.specs.Keeping.{unkept}
use Rattle.h3_connection.specs.Outgoing.{Outgoing, nothing_sent}
use Rattle.h3_connection.specs.OwnIds.{control_id, decoder_id, encoder_id, is_own, other}
use Rattle.h3_connection.specs.PartReading.{Resumes}
use Rattle.h3_connection.specs.Sending.{outgoing_at}
use Rattle.h3_connection.specs.StreamSets.{Streams, stream_at}
use Rattle.h3_connection.specs.declared.setup.Announced.{Announced}
use Rattle.h3_world.specs.Ends.{Ends, end_at}
use Rattle.h3_world.specs.Delivering.{is_closed}
use Rattle.h3_world.specs.Pulling.{own_delivered}
use Rattle.h3_world.specs.Setup.{Setup, announced_at}
use Rattle.h3_world.specs.Streams.{flow, has_outgoing, is_open}
use Rattle.h3_world.specs.World.{World, party}
use Rattle.h3_headline.specs.ComingLaws.{kind_is}
use Rattle.h3_headline.specs.FlowLaws.{open_there, same_number}
use Rattle.h3_headline.specs.Standing.{StandsAt}
use Rattle.h3_memory.specs.Kept.{Bytes, Delivery, End, KeepingWorld, Reset, kept_at}
use Rattle.h3_memory.specs.Keeping as keeping
use Rattle.h3_memory.specs.Keeping.{AreKept, ComesFirst, EachResumes, Keeps, MayAllBeRead, StandsKeeping, ahead, came_of, handed_stream, text_of}
use Rattle.h3_strict.specs.PlainEnds.{plain_ends, plain_setup}
use Rattle.h3_strict.specs.Plainly.{each_stream, plain, plain_incoming, plain_outgoing, plainly}
use Rattle.h3_strict.specs.ReadsBehind.{Follows, Held, IsOfDecoder, ReadsBehind, held_of, own_text}
use Rattle.h3_strict.specs.StandsBehind.{GoesOnAt, StandsBehind}
use Rattle.h3_faithful.proofs.PlainMemory.{at_end}

-- a stream among those that were made of others
out_plain : (streams : Streams Outgoing) (id : ℕ) → (unwrap_or (stream_at (each_stream plain_outgoing streams) id) nothing_sent).parts ≡ (unwrap_or (stream_at streams id) nothing_sent).parts
out_plain [] id = refl
out_plain ((q, o) ∷ streams) id = by_test (q == id) (out_plain streams id)
  where
    by_test : (b : Bool) → (unwrap_or (stream_at (each_stream plain_outgoing streams) id) nothing_sent).parts ≡ (unwrap_or (stream_at streams id) nothing_sent).parts
        → (unwrap_or (if b then Some (plain_outgoing o) else stream_at (each_stream plain_outgoing streams) id) nothing_sent).parts ≡ (unwrap_or (if b then Some o else stream_at streams id) nothing_sent).parts
    by_test true later = refl
    by_test false later = later

out_handed : (ds : List Delivery) (streams : Streams Outgoing) (id : ℕ) → (unwrap_or (stream_at (map (handed_stream ds) streams) id) nothing_sent).parts ≡ (unwrap_or (stream_at streams id) nothing_sent).parts
out_handed ds [] id = refl
out_handed ds ((q, o) ∷ streams) id = by_test (q == id) (out_handed ds streams id)
  where
    by_test : (b : Bool) → (unwrap_or (stream_at (map (handed_stream ds) streams) id) nothing_sent).parts ≡ (unwrap_or (stream_at streams id) nothing_sent).parts
        → (unwrap_or (if b then Some (handed_stream ds (q, o)).1 else stream_at (map (handed_stream ds) streams) id) nothing_sent).parts ≡ (unwrap_or (if b then Some o else stream_at streams id) nothing_sent).parts
    by_test true later = refl
    by_test false later = later

-- each stream goes on as that of the end behind
received_at : (side : Side) (own : Announced) (olds news : Streams Incoming) (id : ℕ) → EachResumes side (plain own) olds (each_stream plain_incoming news) → GoesOnAt side own id (stream_at olds id) (stream_at news id)
received_at side own [] [] id h = tt
received_at side own [] (new ∷ news) id h = absurd h
received_at side own (old ∷ olds) [] id h = absurd h
received_at side own ((p, old) ∷ olds) ((q, new) ∷ news) id h =
    subst (λ n. GoesOnAt side own id (if p == id then Some old else stream_at olds id) (if n == id then Some new else stream_at news id)) (sym h.0)
    (by_test (p == id) refl (received_at side own olds news id h.2))
  where
    by_test : (b : Bool) → (p == id) ≡ b → GoesOnAt side own id (stream_at olds id) (stream_at news id) → GoesOnAt side own id (if b then Some old else stream_at olds id) (if b then Some new else stream_at news id)
    by_test true e rest = subst (λ n. Resumes side (plain own) n old (plain_incoming new)) (same_number p id e) h.1
    by_test false e rest = rest

plain_at : (setup : Setup) (side : Side) → announced_at (plain_setup setup) side ≡ plain (announced_at setup side)
plain_at setup Client = refl
plain_at setup Server = refl

module _ (setup : Setup) (k : KeepingWorld) (ends : Ends) (h : StandsKeeping (plain_setup setup) k (plain_ends ends)) where
  pub keeps_at : (side : Side) → Keeps (plain_setup setup) k side (end_at h.behind side) (end_at (plain_ends ends) side)
  keeps_at Client = h.client
  keeps_at Server = h.server

  at : (side : Side) → StandsAt (plain_setup setup) k.world side (end_at h.behind side)
  at Client = h.stands.at_client
  at Server = h.stands.at_server

  ahead_is : (side : Side) → plainly (end_at ends side) ≡ ahead (end_at h.behind side) (kept_at k (other side)) (keeps_at side).held (keeps_at side).incoming (keeps_at side).arrivals
  ahead_is side = sym (at_end ends side) ∙ (keeps_at side).is

  received_so : (side : Side) (id : ℕ) → GoesOnAt side (announced_at setup side) id (stream_at (end_at h.behind side).incoming id) (stream_at (end_at ends side).incoming id)
  received_so side id =
      received_at side (announced_at setup side) (end_at h.behind side).incoming (end_at ends side).incoming id
      (subst (λ a. EachResumes side a (end_at h.behind side).incoming (each_stream plain_incoming (end_at ends side).incoming)) ((at side).announced ∙ plain_at setup side)
      (subst (EachResumes side (end_at h.behind side).announced (end_at h.behind side).incoming) (sym (ap (λ (e : EndpointHistory). e.incoming) (ahead_is side))) (keeps_at side).resumes))

  -- **Both stand beside them.**
  pub stands_behind : StandsBehind setup k.world ends
  stands_behind = record {
    behind = h.behind;
    stands = h.stands;
    side_is = λ side. ap (λ (e : EndpointHistory). e.side) (ahead_is side) ∙ (at side).side_is;
    closed = λ side. ap (λ (e : EndpointHistory). e.closed) (ahead_is side) ∙ (at side).no_fault;
    remembered = λ side. ap (λ (e : EndpointHistory). e.announced.remembered) (ahead_is side) ∙ ap (λ (x : Announced). x.remembered) (at side).announced ∙ (at side).remembered;
    settings = λ side. ap (λ (e : EndpointHistory). e.peer.settings) (ahead_is side);
    decoder = λ side. ap (λ (e : EndpointHistory). e.decoding.decoder) (ahead_is side);
    next_id = ap (λ (e : EndpointHistory). e.next_id) (ahead_is Client);
    sent = λ side id. sym (out_plain (end_at ends side).outgoing id) ∙ ap (λ (e : EndpointHistory). (outgoing_at e id).parts) (ahead_is side) ∙ out_handed (kept_at k (other side)) (end_at h.behind side).outgoing id;
    received = received_so;
  }

  -- What a side reads next, where its end is this one but for what it keeps.
  module _ (told : (side : Side) → (end_at ends side).announced ≡ announced_at setup side) (side : Side) (a : Arrival) where
    abbrev c : Keeps (plain_setup setup) k side (end_at h.behind side) (end_at (plain_ends ends) side)
    c = keeps_at side

    abbrev pub held_so : Held
    held_so = record { control = (keeps_at side).held.control; encoder = (keeps_at side).held.encoder; decoder = (keeps_at side).held.decoder }

    control_none : (s : Side) (held : keeping.Held) → ((id : ℕ) → came_of k.world s id ≡ 0 → keeping.held_of s held id ≡ []) → (party k.world s).own.control_taken ≡ 0 → held.control ≡ []
    control_none Client held untold e = untold 2 e
    control_none Server held untold e = untold 3 e

    encoder_none : (s : Side) (held : keeping.Held) → ((id : ℕ) → came_of k.world s id ≡ 0 → keeping.held_of s held id ≡ []) → (party k.world s).own.encoder_taken ≡ 0 → held.encoder ≡ []
    encoder_none Client held untold e = untold 6 e
    encoder_none Server held untold e = untold 7 e

    decoder_none : (s : Side) (held : keeping.Held) → ((id : ℕ) → came_of k.world s id ≡ 0 → keeping.held_of s held id ≡ []) → (party k.world s).own.decoder_taken ≡ 0 → held.decoder ≡ []
    decoder_none Client held untold e = untold 10 e
    decoder_none Server held untold e = untold 11 e

    pub reads_behind : Follows setup k.world (other side) (unkept (end_at ends side)) held_so a → ((end_at h.behind side).peer.settings ≡ None → ((keeps_at side).held.decoder ≡ []) ⊎ IsOfDecoder (other side) a)
        → ReadsBehind setup k.world side (unkept (end_at ends side)) a
    reads_behind follows early = record {
      behind = h.behind;
      stands = h.stands;
      held = held_so;
      side_is = stands_behind.side_is side;
      announced = told side;
      unidirectional = ap (λ (e : EndpointHistory). e.unidirectional) (ahead_is side);
      peer = ap (λ (e : EndpointHistory). e.peer) (ahead_is side);
      encoder_unread = ap (λ (e : EndpointHistory). e.decoding.unread) (ahead_is side);
      decoder_unread = ap (λ (e : EndpointHistory). e.decoder_unread) (ahead_is side);
      follows = follows;
      control_untold = control_none (other side) (keeps_at side).held (keeps_at side).untold;
      encoder_untold = encoder_none (other side) (keeps_at side).held (keeps_at side).untold;
      decoder_untold = decoder_none (other side) (keeps_at side).held (keeps_at side).untold;
      early = early;
    }

-- what came of an own stream, and its text
own_came : (w : World) (writer : Side) (id : ℕ) → is_own writer id ≡ true → came_of w writer id ≡ own_delivered w writer id
own_came w writer id own = ap (λ b. if b then own_delivered w writer id else (flow w writer id).delivered) own

own_is_text : (setup : Setup) (w : World) (writer : Side) (id : ℕ) → is_own writer id ≡ true → text_of (plain_setup setup) w writer id ≡ own_text setup w writer id
own_is_text setup w writer id own = by_tests _ _ _ _ _ (id == control_id writer) (id == encoder_id writer) (id == decoder_id writer) own
  where
    by_tests : (x y z u v : List ℕ) (a b t : Bool) → (a || b || t) ≡ true → (if a then x else (if b then y else (if t then z else u))) ≡ (if a then x else (if b then y else (if t then z else v)))
    by_tests x y z u v true b t h = refl
    by_tests x y z u v false true t h = refl
    by_tests x y z u v false false true h = refl
    by_tests x y z u v false false false h = absurd (cc)

-- a stream that is sent, and is no own one, is a request's
request_of : (w : World) (writer : Side) (s : Side) (id : ℕ) → has_outgoing w writer id ≡ true → is_own writer id ≡ false → kind_of s id ≡ Request
request_of w writer s id has off = kind_is s id (open_there w writer id (behind_own (is_own writer id) (is_open w writer id) off has)).request
  where
    behind_own : (b t : Bool) → b ≡ false → (b || t) ≡ true → t ≡ true
    behind_own true t off has = absurd (cc)
    behind_own false t off has = has

-- What stands next among what is kept follows what came.
pub kept_follows : (setup : Setup) (w : World) (writer : Side) (e : EndpointHistory) (held : keeping.Held) (ds : List Delivery) (a : Arrival) (arrivals : List Arrival)
    → AreKept (text_of (plain_setup setup) w writer) (came_of w writer) (keeping.held_of writer held) ds (a ∷ arrivals) → MayAllBeRead (plain_setup setup) w writer (came_of w writer) (is_closed w writer) ds
    → Follows setup w writer e (record { control = held.control; encoder = held.encoder; decoder = held.decoder }) a
kept_follows setup w writer e held [] a arrivals kept may = absurd kept
kept_follows setup w writer e held (Bytes id count ∷ ds) (BytesCame i bytes) arrivals kept may = (
  λ own.
      let same : id ≡ i = sym kept.0 in
      let own_id : is_own writer id ≡ true = ap (is_own writer) same ∙ own in (
        count,
        subst (λ n. held_of writer (record { control = held.control; encoder = held.encoder; decoder = held.decoder }) n ++ bytes ≡ take count (drop (own_delivered w writer n) (own_text setup w writer n))) same
            (kept.1 ∙ ap (λ n. take count (drop n (text_of (plain_setup setup) w writer id))) (own_came w writer id own_id) ∙ ap (λ l. take count (drop (own_delivered w writer id) l)) (own_is_text setup w writer id own_id)),
      ),
  λ off. request_of w writer e.side i (ap (has_outgoing w writer) kept.0 ∙ may.0) off,
)
kept_follows setup w writer e held (End id ∷ ds) (EndCame i) arrivals kept may = tt
kept_follows setup w writer e held (Reset id ∷ ds) (ResetCame i code) arrivals kept may = tt
kept_follows setup w writer e held (Bytes id count ∷ ds) (EndCame i) arrivals kept may = absurd kept
kept_follows setup w writer e held (Bytes id count ∷ ds) (ResetCame i code) arrivals kept may = absurd kept
kept_follows setup w writer e held (End id ∷ ds) (BytesCame i bytes) arrivals kept may = absurd kept
kept_follows setup w writer e held (End id ∷ ds) (ResetCame i code) arrivals kept may = absurd kept
kept_follows setup w writer e held (Reset id ∷ ds) (BytesCame i bytes) arrivals kept may = absurd kept
kept_follows setup w writer e held (Reset id ∷ ds) (EndCame i) arrivals kept may = absurd kept

-- if it comes first, it is of the decoder stream
pub first_of_decoder : (writer : Side) (a : Arrival) (arrivals : List Arrival) → ComesFirst (decoder_id writer) (a ∷ arrivals) → IsOfDecoder writer a
first_of_decoder writer (BytesCame id bytes) arrivals first = first
first_of_decoder writer (EndCame id) arrivals first = tt
first_of_decoder writer (ResetCame id code) arrivals first = tt

-- **The first of what is kept.**
pub first_behind : (setup : Setup) (k : KeepingWorld) (ends : Ends) (h : StandsKeeping (plain_setup setup) k (plain_ends ends)) (told : (side : Side) → (end_at ends side).announced ≡ announced_at setup side) (side : Side) (a : Arrival) (arrivals : List Arrival)
    → (end_at ends side).kept ≡ a ∷ arrivals → ReadsBehind setup k.world side (unkept (end_at ends side)) a
first_behind setup k ends h told side a arrivals kept =
    reads_behind setup k ends h told side a
    (kept_follows setup k.world (other side) (unkept (end_at ends side)) c.held (kept_at k side) a arrivals (subst (AreKept _ _ _ (kept_at k side)) kept_is c.kept) c.may)
    (λ unknown. by_early (c.early unknown))
  where
    c : Keeps (plain_setup setup) k side (end_at h.behind side) (end_at (plain_ends ends) side)
    c = keeps_at setup k ends h side

    kept_is : c.arrivals ≡ a ∷ arrivals
    kept_is = sym (ap (λ (e : EndpointHistory). e.kept) c.is) ∙ ap (λ (e : EndpointHistory). e.kept) (at_end ends side) ∙ kept

    by_early : (c.held.decoder ≡ []) ⊎ ComesFirst (decoder_id (other side)) c.arrivals → (c.held.decoder ≡ []) ⊎ IsOfDecoder (other side) a
    by_early (inl none) = inl none
    by_early (inr first) = inr (first_of_decoder (other side) a arrivals (subst (ComesFirst (decoder_id (other side))) kept_is first))

-- nothing is held where nothing is kept
none_came : (text : ℕ → List ℕ) (came : ℕ → ℕ) (held : ℕ → List ℕ) (ds : List Delivery) → AreKept text came held ds [] → (id : ℕ) → held id ≡ []
none_came text came held [] h = λ id. h id
none_came text came held (Bytes id count ∷ ds) h = absurd h
none_came text came held (End id ∷ ds) h = absurd h
none_came text came held (Reset id ∷ ds) h = absurd h

all_none : (s : Side) (held : keeping.Held) → ((id : ℕ) → keeping.held_of s held id ≡ []) → held ≡ record { control = []; encoder = []; decoder = [] }
all_none Client held none = three held (none 2) (none 6) (none 10)
  where
    three : (held : keeping.Held) → held.control ≡ [] → held.encoder ≡ [] → held.decoder ≡ [] → held ≡ record { control = []; encoder = []; decoder = [] }
    three held a b c = ap (λ l. record held { control = l }) a ∙ ap (λ l. record held { control = []; encoder = l }) b ∙ ap (λ l. record held { control = []; encoder = []; decoder = l }) c
all_none Server held none = three held (none 3) (none 7) (none 11)
  where
    three : (held : keeping.Held) → held.control ≡ [] → held.encoder ≡ [] → held.decoder ≡ [] → held ≡ record { control = []; encoder = []; decoder = [] }
    three held a b c = ap (λ l. record held { control = l }) a ∙ ap (λ l. record held { control = []; encoder = l }) b ∙ ap (λ l. record held { control = []; encoder = []; decoder = l }) c

nothing_of : (s : Side) (held : keeping.Held) → ((id : ℕ) → keeping.held_of s held id ≡ []) → (id : ℕ) → held_of s (record { control = held.control; encoder = held.encoder; decoder = held.decoder }) id ≡ []
nothing_of s held none id = none id

-- **What is offered where nothing is kept**: bytes that wait at the writer, or an end or a reset.
pub offered_behind : (setup : Setup) (k : KeepingWorld) (ends : Ends) (h : StandsKeeping (plain_setup setup) k (plain_ends ends)) (told : (side : Side) → (end_at ends side).announced ≡ announced_at setup side) (side : Side) (a : Arrival)
    → (end_at ends side).kept ≡ []
    → ((id : ℕ) (bytes : List ℕ) → a ≡ BytesCame id bytes → (has_outgoing k.world (other side) id ≡ true) × ((count : ℕ) × (bytes ≡ take count (drop (came_of k.world (other side) id) (text_of (plain_setup setup) k.world (other side) id)))))
    → ReadsBehind setup k.world side (unkept (end_at ends side)) a
offered_behind setup k ends h told side a kept offered = reads_behind setup k ends h told side a (follows a refl) (λ unknown. inl (ap (λ (x : keeping.Held). x.decoder) (all_none (other side) c.held none)))
  where
    c : Keeps (plain_setup setup) k side (end_at h.behind side) (end_at (plain_ends ends) side)
    c = keeps_at setup k ends h side

    kept_is : c.arrivals ≡ []
    kept_is = sym (ap (λ (e : EndpointHistory). e.kept) c.is) ∙ ap (λ (e : EndpointHistory). e.kept) (at_end ends side) ∙ kept

    none : (id : ℕ) → keeping.held_of (other side) c.held id ≡ []
    none = none_came _ _ _ (kept_at k side) (subst (AreKept _ _ _ (kept_at k side)) kept_is c.kept)

    follows : (x : Arrival) → a ≡ x → Follows setup k.world (other side) (unkept (end_at ends side)) (record { control = c.held.control; encoder = c.held.encoder; decoder = c.held.decoder }) x
    follows (BytesCame id bytes) is =
        let o = offered id bytes is in (
          λ own. (
            o.1.0,
            ap (λ l. l ++ bytes) (nothing_of (other side) c.held none id) ∙ o.1.1 ∙ ap (λ n. take o.1.0 (drop n (text_of (plain_setup setup) k.world (other side) id))) (own_came k.world (other side) id own)
                ∙ ap (λ l. take o.1.0 (drop (own_delivered k.world (other side) id) l)) (own_is_text setup k.world (other side) id own),
          ),
          λ off. request_of k.world (other side) (end_at ends side).side id o.0 off,
        )
    follows (EndCame id) is = tt
    follows (ResetCame id code) is = tt
