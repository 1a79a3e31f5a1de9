-- The first of what is kept is read, whole: by the real endpoint without a fault, and the rest is kept of the world in which it counts as delivered.
use Rattle.std.proofs.Common.{◌≡◌, ◌⊎◌, inl, inr, ℕ, ◌≤◌, true, false, ◌||◌, List, [], ◌∷◌, ◌++◌, refl, sym, ap, ◌∙◌, subst, arith, Some, None}
use Rattle.std.specs.Prelude.{take, drop}
use Rattle.h3_proto.specs.declared.stream.Side.{Side}
use Rattle.h3_connection.specs.Arrivals.{stream_of}
use Rattle.h3_connection.specs.Control.{Found}
use Rattle.h3_connection.specs.declared.arrival.Arrival.{Arrival}
use Rattle.h3_connection.specs.declared.arrival.Arrival.TheVariants.{BytesCame, EndCame, ResetCame}
use Rattle.h3_connection.specs.Endpoint.{EndpointHistory}
use Rattle.h3_connection.specs.Incoming.{Incoming}
use Rattle.h3_connection.specs.Keeping.{read_arrival}
use Rattle.h3_connection.specs.Outgoing.{Outgoing}
use Rattle.h3_connection.specs.OwnIds.{other, is_own, control_id, decoder_id}
use Rattle.h3_connection.specs.StreamSets.{HaveDistinctIds, Streams, stream_at}
use Rattle.h3_world.specs.Delivering.{is_closed, reset_code}
use Rattle.h3_world.specs.Setup.{IsMadeSetup, Setup}
use Rattle.h3_world.specs.Streams.{is_open}
use Rattle.h3_world.specs.World.{World}
use Rattle.h3_headline.specs.Cited.{Laws}
use Rattle.h3_headline.specs.ComingLaws.{incoming_there, kind_is}
use Rattle.h3_headline.specs.FlowLaws.{open_there}
use Rattle.h3_headline.specs.Standing.{StandsAt}
use Rattle.h3_headline.specs.Steps.{IsThere}
use Rattle.h3_memory.specs.Kept.{Delivery, Bytes, End, Reset, read_delivery}
use Rattle.h3_memory.specs.Keeping.{Held, AreKept, EachResumes, MayAllBeRead, ahead, bytes_in, came_of, held_of, text_of, without_held}
use Rattle.h3_memory.proofs.AheadRequests.{ReadsAhead, request_comes, request_distinct}
use Rattle.h3_memory.proofs.BehindOwn.{BehindReads, arrival_of, found_as}
use Rattle.h3_memory.proofs.BehindReads.{behind_reads}
use Rattle.h3_memory.proofs.KeptAlike.{kept_alike, held_without, held_without_is, none_held, none_of_closed, still_none, decoder_none, decoder_gone}
use Rattle.h3_memory.proofs.KeptLaws.{KeptLaws}
use Rattle.h3_memory.proofs.OwnAhead.{own_ahead, own_kind, streams_of, unidirectional_leaves}
use Rattle.h3_memory.proofs.OwnReads.{came_after}
use Rattle.h3_memory.proofs.ReadDeliveries.{ReadOn, may_after, read_on}
use Rattle.h3_memory.proofs.ReadingEnds.{handed}
use Rattle.h3_memory.proofs.ReadingState.{Reading, ReadsAt, writes_after, came_more, none_before, still_unknown}
use Rattle.h3_memory.proofs.TextsOf.{by_truth, second_is, open_apart, request_apart}

-- What is held once a delivery has been read.
abbrev pub held_after : Side → Held → Delivery → Held
held_after writer held (Bytes id count) = held_without writer held id
held_after writer held (End id) = held
held_after writer held (Reset id) = held

abbrev pub held_then : (ℕ → List ℕ) → Delivery → ℕ → List ℕ
held_then held (Bytes id count) = without_held held id
held_then held (End id) = held
held_then held (Reset id) = held

held_after_is : (writer : Side) (held : Held) (d : Delivery) (i : ℕ) → held_of writer (held_after writer held d) i ≡ held_then (held_of writer held) d i
held_after_is writer held (Bytes id count) i = held_without_is writer held id i
held_after_is writer held (End id) i = refl
held_after_is writer held (Reset id) i = refl

held_none : (writer : Side) (held : Held) (d : Delivery) (i : ℕ) → held_of writer held i ≡ [] → held_of writer (held_after writer held d) i ≡ []
held_none writer held (Bytes id count) i none = still_none writer held id i none
held_none writer held (End id) i none = none
held_none writer held (Reset id) i none = none

decoder_after : (writer : Side) (held : Held) (d : Delivery) → held.decoder ≡ [] → (held_after writer held d).decoder ≡ []
decoder_after writer held (Bytes id count) none = decoder_none writer held id none
decoder_after writer held (End id) none = none
decoder_after writer held (Reset id) none = none

-- The first of what is kept, and the rest.
pub record KeptFirst (setup : Setup) (w : World) (writer : Side) (held : Held) (d : Delivery) (ds : List Delivery) (a : Arrival) (arrivals : List Arrival) : Type 0 where
  pub rest : AreKept (text_of setup w writer) (came_after (came_of w writer) d) (held_then (held_of writer held) d) ds arrivals

kept_first : (setup : Setup) (w : World) (writer : Side) (held : Held) (d : Delivery) (ds : List Delivery) (a : Arrival) (arrivals : List Arrival)
    → AreKept (text_of setup w writer) (came_of w writer) (held_of writer held) (d ∷ ds) (a ∷ arrivals) → KeptFirst setup w writer held d ds a arrivals
kept_first setup w writer held (Bytes id count) ds (BytesCame i bytes) arrivals kept = record { rest = kept.2 }
kept_first setup w writer held (End id) ds (EndCame i) arrivals kept = record { rest = kept.1 }
kept_first setup w writer held (Reset id) ds (ResetCame i code) arrivals kept = record { rest = kept.2 }
kept_first setup w writer held (Bytes id count) ds (EndCame i) arrivals kept = absurd kept
kept_first setup w writer held (Bytes id count) ds (ResetCame i code) arrivals kept = absurd kept
kept_first setup w writer held (End id) ds (BytesCame i bytes) arrivals kept = absurd kept
kept_first setup w writer held (End id) ds (ResetCame i code) arrivals kept = absurd kept
kept_first setup w writer held (Reset id) ds (BytesCame i bytes) arrivals kept = absurd kept
kept_first setup w writer held (Reset id) ds (EndCame i) arrivals kept = absurd kept

-- The real endpoint reads it as the one behind does.
record RealReads (setup : Setup) (w : World) (side : Side) (mine : List Delivery) (er f : EndpointHistory) (held : Held) (d : Delivery) (a : Arrival) (after : EndpointHistory) : Type 0 where
  incoming : Streams Incoming
  reads : read_arrival f a ≡ found_as (ahead after mine (held_after (other side) held d) incoming [])
  resumes : EachResumes side after.announced after.incoming incoming
  distinct : HaveDistinctIds er.outgoing → HaveDistinctIds after.outgoing

-- request streams of which nothing came are not among what the other side keeps
pub nothing_sent_yet : (setup : Setup) (w : World) (side : Side) (mine : List Delivery) (er : EndpointHistory) (id : ℕ) → StandsAt setup w side er → is_own side id ≡ false
    → MayAllBeRead setup w side (came_of w side) (is_closed w side) mine → stream_at er.incoming id ≡ None → bytes_in id mine ≡ 0
nothing_sent_yet setup w side mine er id h off may missing =
    by_truth (is_open w side id)
    (λ opened. absurd (clash (sym missing ∙ (incoming_there setup w side id er h opened).1)))
    (λ shut. none_of_closed setup w side (came_of w side) (is_closed w side) mine id (ap (λ b. b || is_open w side id) off ∙ shut) may)
  where
    clash : {i : Incoming} → None ≡ Some i → ⊥
    clash e = cc

request_reads : (setup : Setup) (w v : World) (side : Side) (mine ds : List Delivery) (er f after : EndpointHistory) (held : Held) (incoming : Streams Incoming) (d : Delivery) (a b : Arrival) (id : ℕ) → StandsAt setup w side er → StandsAt setup v side after
    → is_open w (other side) id ≡ true → f ≡ ahead er mine held incoming [] → EachResumes side er.announced er.incoming incoming → MayAllBeRead setup w side (came_of w side) (is_closed w side) mine
    → stream_of a ≡ id → a ≡ b → read_arrival er b ≡ found_as after → held_after (other side) held d ≡ held → RealReads setup w side mine er f held d a after
request_reads setup w v side mine ds er f after held incoming d a b id h k opened is resumes may of same reads none =
    record {
      incoming = r.incoming;
      reads = ap (λ x. read_arrival x a) is ∙ r.is ∙ ap (λ (x : Found). (ahead x.0 mine held r.incoming [], x.1)) reads_a ∙ ap (λ x. found_as (ahead after mine x r.incoming [])) (sym none);
      resumes = subst (λ s. EachResumes s after.announced after.incoming r.incoming) h.side_is
          (subst (λ p. EachResumes er.side p after.incoming r.incoming) (h.announced ∙ sym k.announced) (subst (λ (x : Found). EachResumes er.side er.announced x.0.incoming r.incoming) reads_a r.resumes));
      distinct = λ e. subst (λ (x : Found). HaveDistinctIds x.0.outgoing) reads_a (request_distinct er a id of (kind_is er.side id there.request) e);
    }
  where
    there : IsThere w id
    there = open_there w (other side) id opened

    reads_a : read_arrival er a ≡ found_as after
    reads_a = ap (read_arrival er) same ∙ reads

    r : ReadsAhead er mine held [] (read_arrival er a) (read_arrival (ahead er mine held incoming []) a)
    r = request_comes mine held [] er incoming id a of (kind_is er.side id there.request) (subst (λ s. EachResumes s er.announced er.incoming incoming) (sym h.side_is) resumes)
        (λ missing. nothing_sent_yet setup w side mine er id h (request_apart side id there.request) may missing)

own_reads : (setup : Setup) (w v : World) (side : Side) (mine : List Delivery) (er f after : EndpointHistory) (held : Held) (incoming : Streams Incoming) (id count i : ℕ) (bytes : List ℕ) → StandsAt setup w side er → StandsAt setup v side after
    → is_own (other side) id ≡ true → f ≡ ahead er mine held incoming [] → EachResumes side er.announced er.incoming incoming → i ≡ id
    → held_of (other side) held id ++ bytes ≡ take count (drop (came_of w (other side) id) (text_of setup w (other side) id))
    → (came_of w (other side) id ≡ 0 → held_of (other side) held id ≡ []) → (id ≡ control_id (other side) → er.peer.settings ≡ None → held.decoder ≡ [])
    → read_arrival er (arrival_of setup w (other side) (Bytes id count)) ≡ found_as after → RealReads setup w side mine er f held (Bytes id count) (BytesCame i bytes) after
own_reads setup w v side mine er f after held incoming id count i bytes h k own is resumes same stands untold early reads =
    record {
      incoming = incoming;
      reads = ap (λ x. read_arrival x (BytesCame i bytes)) is ∙ ap (λ n. read_arrival (ahead er mine held incoming []) (BytesCame n bytes)) same
          ∙ own_ahead setup w side mine held incoming [] er id h own count bytes stands untold early
          ∙ ap (λ (x : Found). (ahead x.0 mine (held_without (other side) held id) incoming [], x.1)) (ap (λ l. read_arrival er (BytesCame id l)) stands ∙ reads);
      resumes = subst (λ l. EachResumes side after.announced l incoming) (sym incoming_is) (subst (λ p. EachResumes side p er.incoming incoming) (h.announced ∙ sym k.announced) resumes);
      distinct = λ e. subst HaveDistinctIds (sym (ap (λ (x : Streams Incoming × Streams Outgoing). x.1) same_streams)) e;
    }
  where
    same_streams : streams_of after ≡ streams_of er
    same_streams =
        sym (ap (λ (x : Found). streams_of x.0) reads)
        ∙ unidirectional_leaves er id (take count (drop (came_of w (other side) id) (text_of setup w (other side) id))) (own_kind setup w side er id h own)

    incoming_is : after.incoming ≡ er.incoming
    incoming_is = ap (λ (x : Streams Incoming × Streams Outgoing). x.0) same_streams

-- **The first of what is kept.**
pub record ReadsFirst (setup : Setup) (w : World) (side : Side) (mine : List Delivery) (d : Delivery) (ds : List Delivery) (f g : EndpointHistory) (a : Arrival) (arrivals : List Arrival) : Type 0 where
  pub next : EndpointHistory
  pub reads : read_arrival f a ≡ found_as next
  pub then_reads : Reading setup (read_delivery setup w (other side) d) side mine ds next g arrivals

-- before the settings bytes of the decoder stream are held for the first arrival alone
no_decoder_held : (setup : Setup) (w : World) (side : Side) (mine ds : List Delivery) (er f : EndpointHistory) (id : ℕ) (a : Arrival) (arrivals : List Arrival) → (h : ReadsAt setup w side mine ds er f (a ∷ arrivals)) → stream_of a ≡ id
    → id ≡ control_id (other side) → er.peer.settings ≡ None → h.held.decoder ≡ []
no_decoder_held setup w side mine ds er f id a arrivals h of control unknown = by_early (h.early unknown)
  where
    differ : (writer : Side) → control_id writer ≡ decoder_id writer → ⊥
    differ Rattle.h3_proto.specs.declared.stream.Side.TheVariants.Client e = cc
    differ Rattle.h3_proto.specs.declared.stream.Side.TheVariants.Server e = cc

    by_early : (h.held.decoder ≡ []) ⊎ (stream_of a ≡ decoder_id (other side)) → h.held.decoder ≡ []
    by_early (inl none) = none
    by_early (inr first) = absurd (differ (other side) (sym control ∙ sym of ∙ first))

-- and the decoder's own arrival takes them
early_after : (writer : Side) (held : Held) (d : Delivery) (a : Arrival) → (held.decoder ≡ []) ⊎ (stream_of a ≡ decoder_id writer) → ((q : ℕ) → q ≡ decoder_id writer → stream_of a ≡ q → (held_after writer held d).decoder ≡ [])
    → (held_after writer held d).decoder ≡ []
early_after writer held d a (inl none) gone = decoder_after writer held d none
early_after writer held d a (inr first) gone = gone (decoder_id writer) refl first

module _ (qpack : KeptLaws) (laws : Laws) (setup : Setup) (w : World) (side : Side) (mine : List Delivery) (f g : EndpointHistory) (made : IsMadeSetup setup) where
  abbrev s : Side
  s = other side

  -- the state after it, by what the real endpoint reads
  then_at : (d : Delivery) (ds : List Delivery) (a : Arrival) (arrivals : List Arrival) (r : Reading setup w side mine (d ∷ ds) f g (a ∷ arrivals)) (b : BehindReads setup w side r.er r.ew d)
      → RealReads setup w side mine r.er f r.here.held d a b.after → (stream_of a ≡ decoder_id s → (held_after s r.here.held d).decoder ≡ []) → ReadsFirst setup w side mine d ds f g a arrivals
  then_at d ds a arrivals r b real gone =
      record {
        next = ahead b.after mine (held_after s r.here.held d) real.incoming [];
        reads = real.reads;
        then_reads = record {
          er = b.after;
          ew = handed r.ew (d ∷ []);
          two = b.two;
          here = record {
            held = held_after s r.here.held d;
            incoming = real.incoming;
            is = refl;
            resumes = real.resumes;
            kept = kept_alike (text_of setup w s) (text_of setup v s) (came_after (came_of w s) d) (came_of v s) (held_then (held_of s r.here.held) d) (held_of s (held_after s r.here.held d)) ds arrivals on.text on.came (held_after_is s r.here.held d)
                (kept_first setup w s r.here.held d ds a arrivals r.here.kept).rest;
            may = may_after setup w side d ds r.here.may;
            early = λ unknown. inl (early_after s r.here.held d a (r.here.early (still_unknown setup w v side r.er b.after r.two.both.here b.two.both.here further unknown)) (λ q is of. gone (of ∙ is)));
            untold = λ i none. held_none s r.here.held d i (r.here.untold i (none_before (came_of w s) d i (came_of v s i) (on.came i) none));
            distinct = real.distinct r.here.distinct;
          };
          there = writes_after setup w side mine d ds r.ew g r.here.may r.there;
        };
      }
    where
      v : World
      v = read_delivery setup w s d

      on : ReadOn setup w v side d
      on = read_on setup w side d ds r.here.may

      further : came_of w s (control_id s) ≤ came_of v s (control_id s)
      further = omega (arith, on.came (control_id s), came_more (came_of w s) d (control_id s))

  no_bytes_gone : (d : Delivery) (id : ℕ) (a : Arrival) → is_open w s id ≡ true → stream_of a ≡ id → (held : Held) → stream_of a ≡ decoder_id s → held.decoder ≡ []
  no_bytes_gone d id a opened of held first = absurd (differ s (open_apart w s id opened) (sym of ∙ first))
    where
      differ : (writer : Side) → is_own writer id ≡ false → id ≡ decoder_id writer → ⊥
      differ Rattle.h3_proto.specs.declared.stream.Side.TheVariants.Client off is = clash (ap (is_own Rattle.h3_proto.specs.declared.stream.Side.TheVariants.Client) (sym is) ∙ off)
        where
          clash : true ≡ false → ⊥
          clash e = cc
      differ Rattle.h3_proto.specs.declared.stream.Side.TheVariants.Server off is = clash (ap (is_own Rattle.h3_proto.specs.declared.stream.Side.TheVariants.Server) (sym is) ∙ off)
        where
          clash : true ≡ false → ⊥
          clash e = cc

  pub reads_first : (d : Delivery) (ds : List Delivery) (a : Arrival) (arrivals : List Arrival) → Reading setup w side mine (d ∷ ds) f g (a ∷ arrivals) → ReadsFirst setup w side mine d ds f g a arrivals
  reads_first (Bytes id count) ds (BytesCame i bytes) arrivals r =
      then_at (Bytes id count) ds (BytesCame i bytes) arrivals r b
      (by_truth (is_own s id)
      (λ own. own_reads setup w _ side mine r.er f b.after r.here.held r.here.incoming id count i bytes r.two.both.here b.two.both.here own r.here.is r.here.resumes r.here.kept.0 r.here.kept.1 (r.here.untold id)
      (no_decoder_held setup w side mine (Bytes id count ∷ ds) r.er f id (BytesCame i bytes) arrivals r.here r.here.kept.0) b.reads)
      (λ off. request_reads setup w _ side mine ds r.er f b.after r.here.held r.here.incoming (Bytes id count) (BytesCame i bytes) (arrival_of setup w s (Bytes id count)) id r.two.both.here b.two.both.here
      (second_is (is_own s id) (is_open w s id) off r.here.may.0) r.here.is r.here.resumes r.there.may r.here.kept.0
      (ap (λ n. BytesCame n bytes) r.here.kept.0 ∙ ap (λ l. BytesCame id l) (sym (ap (λ l. l ++ bytes) (none_held s r.here.held id off)) ∙ r.here.kept.1)) b.reads (Rattle.h3_memory.proofs.KeptAlike.off_without s r.here.held id off)))
      (λ first. ap (λ n. (held_without s r.here.held n).decoder) (sym r.here.kept.0 ∙ first) ∙ decoder_gone s r.here.held)
    where
      b : BehindReads setup w side r.er r.ew (Bytes id count)
      b = behind_reads qpack laws setup w side r.er r.ew (Bytes id count) ds made r.two r.here.may
  reads_first (End id) ds (EndCame i) arrivals r =
      let b = behind_reads qpack laws setup w side r.er r.ew (End id) ds made r.two r.here.may in
      then_at (End id) ds (EndCame i) arrivals r b
      (request_reads setup w _ side mine ds r.er f b.after r.here.held r.here.incoming (End id) (EndCame i) (EndCame id) id r.two.both.here b.two.both.here r.here.may.0 r.here.is r.here.resumes r.there.may r.here.kept.0
      (ap EndCame r.here.kept.0) b.reads refl)
      (no_bytes_gone (End id) id (EndCame i) r.here.may.0 r.here.kept.0 r.here.held)
  reads_first (Reset id) ds (ResetCame i code) arrivals r =
      let b = behind_reads qpack laws setup w side r.er r.ew (Reset id) ds made r.two r.here.may in
      then_at (Reset id) ds (ResetCame i code) arrivals r b
      (request_reads setup w _ side mine ds r.er f b.after r.here.held r.here.incoming (Reset id) (ResetCame i code) (ResetCame id reset_code) id r.two.both.here b.two.both.here r.here.may.0 r.here.is r.here.resumes r.there.may r.here.kept.0
      (ap (λ n. ResetCame n code) r.here.kept.0 ∙ ap (λ c. ResetCame id c) r.here.kept.1) b.reads refl)
      (no_bytes_gone (Reset id) id (ResetCame i code) r.here.may.0 r.here.kept.0 r.here.held)
  reads_first (Bytes id count) ds (EndCame i) arrivals r = absurd r.here.kept
  reads_first (Bytes id count) ds (ResetCame i code) arrivals r = absurd r.here.kept
  reads_first (End id) ds (BytesCame i bytes) arrivals r = absurd r.here.kept
  reads_first (End id) ds (ResetCame i code) arrivals r = absurd r.here.kept
  reads_first (Reset id) ds (BytesCame i bytes) arrivals r = absurd r.here.kept
  reads_first (Reset id) ds (EndCame i) arrivals r = absurd r.here.kept
