-- What is kept is read by the endpoint that got nothing of it, and both stand in the world in which it counts as delivered.
use Rattle.std.proofs.Common.{◌≡◌, ℕ, ◌+◌, ◌≤◌, ◌<◌, ◌*◌, ◌^◌, Bool, true, false, ◌||◌, List, [], ◌∷◌, length, take, drop, map, refl, sym, ap, ◌∙◌, subst, arith, if◌then◌else◌, Option, Some, None}
use Rattle.std.specs.Prelude.{◌==◌, option_map}
use Rattle.h3_proto.specs.declared.stream.Side.{Side}
use Rattle.h3_connection.specs.Arrivals.{stream_of}
use Rattle.h3_connection.specs.declared.arrival.Arrival.{Arrival}
use Rattle.h3_connection.specs.declared.arrival.Arrival.TheVariants.{BytesCame, EndCame, ResetCame}
use Rattle.h3_connection.specs.Delivering.{bytes_at, kept, opened, opened_at, incoming_at, taken, with_incoming}
use Rattle.h3_connection.specs.declared.event.Refusal.{Refusal}
use Rattle.h3_connection.specs.Endpoint.{EndpointHistory, Own, kind_of}
use Rattle.h3_connection.specs.Endpoint.Kind.{Request}
use Rattle.h3_connection.specs.Incoming.{Incoming}
use Rattle.h3_connection.specs.Keeping.{arrives, read_arrival}
use Rattle.h3_connection.specs.Outgoing.{Outgoing}
use Rattle.h3_connection.specs.OwnIds.{other, is_own, control_id, encoder_id, decoder_id}
use Rattle.h3_connection.specs.StreamSets.{Streams, stream_at}
use Rattle.h3_world.specs.Delivering.{delivered_own, delivered_message, delivered_end, delivered_reset, is_closed, reset_code}
use Rattle.h3_world.specs.Flow.{Flow, flow_bytes}
use Rattle.h3_world.specs.Order.{outgoing_of}
use Rattle.h3_world.specs.Setup.{IsMadeSetup, Setup}
use Rattle.h3_world.specs.Sound.{IsSoundWorld}
use Rattle.h3_world.specs.Streams.{flow, with_flow, is_open}
use Rattle.h3_world.specs.World.{World}
use Rattle.h3_headline.specs.Arriving.{Comes, Receives, saying, come}
use Rattle.h3_headline.specs.Calls.{Both}
use Rattle.h3_headline.specs.Cited.{Laws}
use Rattle.h3_headline.specs.ComesLaws.{end_comes_over, reset_comes_over, received_both, arrives_next}
use Rattle.h3_headline.specs.ComingLaws.{kind_is, stands_after_coming, saying_nothing}
use Rattle.h3_headline.specs.DeliverLaws.{flow_received, still_heard, goes_on}
use Rattle.h3_headline.specs.FewLaws.{open_is_small}
use Rattle.h3_headline.specs.FlowLaws.{open_there, same_number}
use Rattle.h3_headline.specs.MovesLaws.{sender_stands}
use Rattle.h3_headline.specs.OwnStreams.{accepted}
use Rattle.h3_headline.specs.ReceivingLaws.{bytes_come}
use Rattle.h3_headline.specs.SendingLaws.{flow_count}
use Rattle.h3_headline.specs.Standing.{StandsAt}
use Rattle.h3_headline.specs.Steps.{IsThere}
use Rattle.h3_memory.specs.Kept.{Delivery, Bytes, End, Reset, read_delivery}
use Rattle.h3_memory.specs.Keeping.{MayAllBeRead, bytes_in, came_of, text_of, handed_own, handed_stream}
use Rattle.h3_memory.proofs.Ahead.{at_mapped, further_taken}
use Rattle.h3_memory.proofs.BehindOwn.{BehindReads, arrival_of, found_as, not_it, own_reads, read_of_arrives}
use Rattle.h3_memory.proofs.KeptLaws.{KeptLaws}
use Rattle.h3_memory.proofs.Reading.{read_sound}
use Rattle.h3_memory.proofs.ReadingEnds.{Two, ends_of, stands_of, next_kept, handed, outgoing_alike, at_handed, own_untaken}
use Rattle.h3_memory.proofs.TextsOf.{by_truth, neither_is, second_is, message_text_is, message_came_is, message_closed_is, open_apart}

abbrev with_own : EndpointHistory → Own → EndpointHistory
with_own e own = record e { own = own }

-- a stream of the writer that is none of its own
record IsMessage (w : World) (writer : Side) (id : ℕ) : Type 0 where
  opened : is_open w writer id ≡ true
  off : is_own writer id ≡ false
  goes : ((flow w writer id).ended || (flow w writer id).reset_came) ≡ false

is_message : (w : World) (writer : Side) (id : ℕ) → is_open w writer id ≡ true → is_closed w writer id ≡ false → IsMessage w writer id
is_message w writer id opened goes = record { opened = opened; off = open_apart w writer id opened; goes = sym (message_closed_is w writer id (open_apart w writer id opened)) ∙ goes }

-- the three own ids are others
record NoOwn (side : Side) (id : ℕ) : Type 0 where
  control : (id == control_id side) ≡ false
  encoder : (id == encoder_id side) ≡ false
  decoder : (id == decoder_id side) ≡ false

no_own : (side : Side) (id : ℕ) → is_own side id ≡ false → NoOwn side id
no_own side id off =
    let last = neither_is (id == control_id side || id == encoder_id side) (id == decoder_id side) off in
    let two = neither_is (id == control_id side) (id == encoder_id side) last.0 in
    record { control = two.0; encoder = two.1; decoder = last.1 }

pub message_untaken : (side : Side) (own : Own) (id count : ℕ) → is_own side id ≡ false → handed_own side own (Bytes id count ∷ []) ≡ own
message_untaken side own id count off =
    let n = no_own side id off in
    own_untaken side own (Bytes id count) (not_it id (control_id side) count n.control) (not_it id (encoder_id side) count n.encoder) (not_it id (decoder_id side) count n.decoder)

handed_is : (e : EndpointHistory) (d : Delivery) → handed_own e.side e.own (d ∷ []) ≡ e.own → record e { outgoing = map (handed_stream (d ∷ [])) e.outgoing } ≡ handed e (d ∷ [])
handed_is e d same = ap (λ o. record e { own = o; outgoing = map (handed_stream (d ∷ [])) e.outgoing }) (sym same)

-- opening a stream writes nothing
opened_own : (e : EndpointHistory) (id : ℕ) (o : Option Incoming) (j : Incoming) → record (with_incoming (opened_at e id o) id j) { own = saying e.own [] } ≡ with_incoming (opened_at e id o) id j
opened_own e id None j = ap (with_own (with_incoming (opened_at e id None) id j)) (saying_nothing e.own)
opened_own e id (Some i) j = ap (with_own (with_incoming (opened_at e id (Some i)) id j)) (saying_nothing e.own)

-- **Bytes of a request stream, also of one that its sender has reset since.**
message_reads : (qpack : KeptLaws) (setup : Setup) (w : World) (side : Side) (er ew : EndpointHistory) (id count : ℕ) (ds : List Delivery) → Two setup w side er ew
    → is_own (other side) id ≡ false → MayAllBeRead setup w (other side) (came_of w (other side)) (is_closed w (other side)) (Bytes id count ∷ ds) → BehindReads setup w side er ew (Bytes id count)
message_reads qpack setup w side er ew id count ds t off may =
    record {
      after = new;
      reads = ap (λ l. read_arrival er (BytesCame id l)) came_is ∙ reads;
      two = record {
        both = subst (λ x. Both setup x side new (handed ew (Bytes id count ∷ []))) (sym is) both;
        sound = read_sound qpack setup w s (Bytes id count) ds t.sound may;
        few = subst (λ n. 4 * n ≤ 2 ^ 62) (sym same_count) t.few;
        next_id = next_kept setup w side er ew new (handed ew (Bytes id count ∷ [])) _ t
            (sym (ap (λ (p : Option Refusal × EndpointHistory). p.1.next_id) arrived) ∙ arrives_next er (BytesCame id bytes) t.both.here.nothing_kept (kind_is er.side id there.request)) refl same_count;
      };
    }
  where
    s : Side
    s = other side

    f : Flow
    f = flow w s id

    m : IsMessage w s id
    m = is_message w s id (second_is (is_own s id) (is_open w s id) off may.0) may.1

    there : IsThere w id
    there = open_there w s id m.opened

    v : World
    v = with_flow w s id (come f count)

    is : read_delivery setup w s (Bytes id count) ≡ v
    is = ap (λ b. if b then delivered_own setup w s id count else delivered_message w s id count) off

    same_count : length (read_delivery setup w s (Bytes id count)).exchanges ≡ length w.exchanges
    same_count = ap (λ (x : World). length x.exchanges) is ∙ flow_count w s id (come f count)

    bytes : List ℕ
    bytes = take count (drop f.delivered (flow_bytes f))

    came_is : take count (drop (came_of w s id) (text_of setup w s id)) ≡ bytes
    came_is = ap (λ n. take count (drop n (text_of setup w s id))) (message_came_is w s id off) ∙ ap (λ l. take count (drop f.delivered l)) (message_text_is setup w s id off)

    new : EndpointHistory
    new = with_incoming (opened er id) id (kept (incoming_at er id) bytes)

    reads : read_arrival er (BytesCame id bytes) ≡ found_as new
    reads = ap (bytes_at er id bytes) (kind_is er.side id there.request)

    arrived : arrives er (BytesCame id bytes) ≡ accepted new
    arrived = goes_on setup w side id er (BytesCame id bytes) t.both.here t.sound there refl m.goes ∙ ap (taken None None er) reads

    r : Receives w v side id [] (come f count)
    r = flow_received w side id (come f count) there refl

    reader : StandsAt setup v side new
    reader =
        subst (StandsAt setup v side) (opened_own er id (stream_at er.incoming id) (kept (incoming_at er id) bytes))
        (stands_after_coming setup w v side id [] (come f count) er (λ i. kept i bytes) t.both.here t.sound there r (λ i k. bytes_come f i bytes count k refl))

    outgoing : Streams Outgoing
    outgoing = map (handed_stream (Bytes id count ∷ [])) ew.outgoing

    stream : stream_at ew.outgoing id ≡ Some (outgoing_of f)
    stream = t.both.there.outgoing id ∙ ap (λ b. if b then Some (outgoing_of f) else None) m.opened

    further : f.delivered + bytes_in id (Bytes id count ∷ []) ≡ f.delivered + count
    further = ap (λ b. f.delivered + ((if b then count else 0) + 0)) (Rattle.h3_headline.specs.WaitingLaws.self id) ∙ more
      where
        more : f.delivered + (count + 0) ≡ f.delivered + count
        more = omega arith

    sends : (i : ℕ) (b : Bool) → (id == i) ≡ b → stream_at outgoing i ≡ (if is_open w s i then Some (outgoing_of (if b then come f count else flow w s i)) else None)
    sends i true e =
        let same = same_number id i e in
        ap (stream_at outgoing) (sym same) ∙ at_mapped (Bytes id count ∷ []) ew.outgoing id ∙ ap (option_map (further_taken (Bytes id count ∷ []) id)) stream
        ∙ ap (λ n. Some (record (outgoing_of f) { taken = n })) further
        ∙ sym (ap (λ b. if b then Some (outgoing_of (come f count)) else None) (ap (is_open w s) (sym same) ∙ m.opened))
    sends i false e = at_handed ew.outgoing (Bytes id count) i (not_it id i count e) ∙ t.both.there.outgoing i

    writer : StandsAt setup v s (handed ew (Bytes id count ∷ []))
    writer =
        subst (StandsAt setup v s) (handed_is ew (Bytes id count) (message_untaken ew.side ew.own id count (ap (λ x. is_own x id) t.both.there.side_is ∙ off)))
        (sender_stands setup w v side id [] (come f count) ew (record ew { outgoing = outgoing }) outgoing t.both.there r refl (still_heard setup w side ew t.both.there) (λ i. sends i (id == i) refl))

    both : Both setup v side new (handed ew (Bytes id count ∷ []))
    both = received_both setup w v side id [] (come f count) er ew new (handed ew (Bytes id count ∷ [])) t.both r refl tt reader writer

-- no bytes
told_writer : (setup : Setup) (v : World) (side : Side) (ew : EndpointHistory) (d : Delivery) → ((i : ℕ) → bytes_in i (d ∷ []) ≡ 0) → StandsAt setup v side ew → StandsAt setup v side (handed ew (d ∷ []))
told_writer setup v side ew d none h =
    outgoing_alike setup v side ew (handed ew (d ∷ [])) h refl (own_untaken ew.side ew.own d (none (control_id ew.side)) (none (encoder_id ew.side)) (none (decoder_id ew.side)))
    (λ i. at_handed ew.outgoing d i (none i))

told_reads : (setup : Setup) (w v : World) (side : Side) (er ew : EndpointHistory) (a : Arrival) (d : Delivery) → Two setup w side er ew → ((i : ℕ) → bytes_in i (d ∷ []) ≡ 0)
    → arrival_of setup w (other side) d ≡ a → read_delivery setup w (other side) d ≡ v → kind_of er.side (stream_of a) ≡ Request → IsSoundWorld setup v → Comes setup w v side er ew a → BehindReads setup w side er ew d
told_reads setup w v side er ew a d t none a_is is kind sound c =
    record {
      after = c.after;
      reads = ap (read_arrival er) a_is ∙ read_of_arrives er c.after a t.both.here.nothing_kept c.arrived;
      two = subst (λ x. Two setup x side c.after (handed ew (d ∷ []))) (sym is)
          (record {
            both = record {
              here = c.both.here;
              there = told_writer setup v (other side) ew d none c.both.there;
              writes_here = c.both.writes_here;
              writes_there = c.both.writes_there;
              sends_here = c.both.sends_here;
              sends_there = c.both.sends_there;
            };
            sound = sound;
            few = subst (λ n. 4 * n ≤ 2 ^ 62) (sym c.count) t.few;
            next_id = next_kept setup w side er ew c.after (handed ew (d ∷ [])) _ t
                (sym (ap (λ (p : Option Refusal × EndpointHistory). p.1.next_id) c.arrived) ∙ arrives_next er a t.both.here.nothing_kept kind) refl c.count;
          });
    }

-- the writer, by name
opened_small : (setup : Setup) (w : World) (side : Side) (er ew : EndpointHistory) (id : ℕ) → Two setup w side er ew → is_open w (other side) id ≡ true → id < 2 ^ 62
opened_small setup w side er ew id t opened = open_is_small setup w (ends_of side er ew) (other side) id (stands_of setup w side er ew t) opened

-- **What is kept is read by the endpoint behind.**
pub behind_reads : (qpack : KeptLaws) (laws : Laws) (setup : Setup) (w : World) (side : Side) (er ew : EndpointHistory) (d : Delivery) (ds : List Delivery) → IsMadeSetup setup → Two setup w side er ew
    → MayAllBeRead setup w (other side) (came_of w (other side)) (is_closed w (other side)) (d ∷ ds) → BehindReads setup w side er ew d
behind_reads qpack laws setup w side er ew (Bytes id count) ds made t may =
    by_truth (is_own (other side) id) (λ own. own_reads qpack laws setup w side er ew id count ds made t own may) (λ off. message_reads qpack setup w side er ew id count ds t off may)
behind_reads qpack laws setup w side er ew (End id) ds made t may =
    let m = is_message w (other side) id may.0 may.1 in
    let there = open_there w (other side) id m.opened in
    told_reads setup w (delivered_end w (other side) id) side er ew (EndCame id) (End id) t (λ i. refl) refl refl (kind_is er.side id there.request)
    (read_sound qpack setup w (other side) (End id) ds t.sound may) (end_comes_over setup w side id er ew t.both t.sound m.opened m.goes)
behind_reads qpack laws setup w side er ew (Reset id) ds made t may =
    let m = is_message w (other side) id may.0 may.1 in
    let there = open_there w (other side) id m.opened in
    told_reads setup w (delivered_reset w (other side) id) side er ew (ResetCame id reset_code) (Reset id) t (λ i. refl) refl refl (kind_is er.side id there.request)
    (read_sound qpack setup w (other side) (Reset id) ds t.sound may)
    (reset_comes_over setup w side id er ew t.both t.sound m.opened (opened_small setup w side er ew id t m.opened) m.goes)
