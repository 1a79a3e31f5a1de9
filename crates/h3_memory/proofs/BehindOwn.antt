-- Bytes of an own stream that are kept are read by the endpoint that got nothing of them, and both stand in the world in which they count as delivered.
use Rattle.std.proofs.Common.{◌≡◌, ℕ, ◌+◌, ◌≤◌, ◌*◌, ◌^◌, Bool, true, false, List, [], ◌∷◌, length, take, drop, map, refl, sym, ap, ◌∙◌, subst, if◌then◌else◌, Option, Some, None}
use Rattle.std.specs.Prelude.{◌==◌, option_map}
use Rattle.h3_proto.specs.declared.stream.Side.{Side}
use Rattle.h3_connection.specs.Arrivals.{stream_of}
use Rattle.h3_connection.specs.declared.arrival.Arrival.{Arrival}
use Rattle.h3_connection.specs.declared.arrival.Arrival.TheVariants.{BytesCame, EndCame, ResetCame}
use Rattle.h3_connection.specs.Control.{Found}
use Rattle.h3_connection.specs.Delivering.{taken, delivery_refusal}
use Rattle.h3_connection.specs.declared.event.Refusal.{Refusal}
use Rattle.h3_connection.specs.Endpoint.{EndpointHistory, bytes_waiting}
use Rattle.h3_connection.specs.Keeping.{arrives, arrives_behind, read_arrival}
use Rattle.h3_connection.specs.OwnIds.{other, is_own}
use Rattle.h3_connection.specs.Sending.{own_advanced}
use Rattle.h3_connection.specs.StreamSets.{stream_at}
use Rattle.h3_world.specs.Delivering.{delivered_own, delivered_message, is_closed, reset_code}
use Rattle.h3_world.specs.Flow.{Flow}
use Rattle.h3_world.specs.Setup.{IsMadeSetup, Setup}
use Rattle.h3_world.specs.World.{World, party, with_party}
use Rattle.h3_headline.specs.Calls.{Both}
use Rattle.h3_headline.specs.Cited.{Laws}
use Rattle.h3_headline.specs.FlowLaws.{same_number}
use Rattle.h3_headline.specs.OwnEventLaws.{own_come, own_outgoing}
use Rattle.h3_headline.specs.OwnOverLaws.{advanced_is, waiting_own}
use Rattle.h3_headline.specs.OwnStreams.{accepted, OwnCome, SameStreams}
use Rattle.h3_headline.specs.OwnWorldLaws.{streams_after}
use Rattle.h3_headline.specs.OwnWritesLaws.{reader_writable, writer_writable, readable_same}
use Rattle.h3_headline.specs.Standing.{StandsAt, IsReadable}
use Rattle.h3_headline.specs.WritingLaws.{party_count}
use Rattle.std.specs.List.{AllByRecursion}
use Rattle.h3_memory.specs.Kept.{Delivery, Bytes, End, Reset, read_delivery}
use Rattle.h3_memory.specs.Keeping.{MayAllBeRead, bytes_in, came_of, text_of, handed_own, handed_stream}
use Rattle.h3_memory.proofs.Ahead.{at_mapped, further_taken}
use Rattle.h3_memory.proofs.KeptLaws.{KeptLaws}
use Rattle.h3_memory.proofs.Reading.{read_sound}
use Rattle.h3_memory.proofs.ReadingEnds.{Two, next_kept, handed, outgoing_alike, at_handed, own_taken}
use Rattle.h3_memory.proofs.TextsOf.{own_left_is}

-- what comes with a delivery where nothing is held
abbrev pub arrival_of : Setup → World → Side → Delivery → Arrival
arrival_of setup w writer (Bytes id count) = BytesCame id (take count (drop (came_of w writer id) (text_of setup w writer id)))
arrival_of setup w writer (End id) = EndCame id
arrival_of setup w writer (Reset id) = ResetCame id reset_code

abbrev pub found_as : EndpointHistory → Found
found_as e = (e, None)

pub record BehindReads (setup : Setup) (w : World) (side : Side) (er ew : EndpointHistory) (d : Delivery) : Type 0 where
  pub after : EndpointHistory
  pub reads : read_arrival er (arrival_of setup w (other side) d) ≡ found_as after
  pub two : Two setup (read_delivery setup w (other side) d) side after (handed ew (d ∷ []))

not_none : {r : Refusal} → Some r ≡ None → ⊥
not_none e = cc

-- what arrives without a refusal is read
taken_read : (c : Option ℕ) (r : Option Refusal) (e x : EndpointHistory) (found : Found) → taken c r e found ≡ accepted x → found ≡ found_as x
taken_read (Some code) r e x found h = absurd (not_none (ap (λ (p : Option Refusal × EndpointHistory). p.0) h))
taken_read None (Some refused) e x found h = absurd (not_none (ap (λ (p : Option Refusal × EndpointHistory). p.0) h))
taken_read None None e x (new, Some code) h = absurd (not_none (ap (λ (p : Option Refusal × EndpointHistory). p.0) h))
taken_read None None e x (new, None) h = ap (λ (p : Option Refusal × EndpointHistory). found_as p.1) h

pub read_of_arrives : (e x : EndpointHistory) (a : Arrival) → e.kept ≡ [] → arrives e a ≡ accepted x → read_arrival e a ≡ found_as x
read_of_arrives e x a none h =
    taken_read e.closed (delivery_refusal e (stream_of a)) e x (read_arrival e a) (sym (ap (λ k. arrives_behind k e a) none) ∙ h)

-- the worlds of own streams have the same exchanges
own_count : (setup : Setup) (w : World) (writer : Side) (id count : ℕ) → length (delivered_own setup w writer id count).exchanges ≡ length w.exchanges
own_count setup w writer id count = party_count (with_party w writer _) (other writer) _ ∙ party_count w writer _

pub not_it : (id i count : ℕ) → (id == i) ≡ false → bytes_in i (Bytes id count ∷ []) ≡ 0
not_it id i count e = ap (λ b. (if b then count else 0) + 0) e

-- **Bytes of an own stream.**
pub own_reads : (qpack : KeptLaws) (laws : Laws) (setup : Setup) (w : World) (side : Side) (er ew : EndpointHistory) (id count : ℕ) (ds : List Delivery) → IsMadeSetup setup → Two setup w side er ew
    → is_own (other side) id ≡ true → MayAllBeRead setup w (other side) (came_of w (other side)) (is_closed w (other side)) (Bytes id count ∷ ds) → BehindReads setup w side er ew (Bytes id count)
own_reads qpack laws setup w side er ew id count ds made t own may =
    record {
      after = c.after;
      reads = ap (λ l. read_arrival er (BytesCame id (take count l))) (sym left) ∙ read_of_arrives er c.after (BytesCame id (take count (bytes_waiting ew id))) t.both.here.nothing_kept c.arrived;
      two = record {
        both = subst (λ x. Both setup x side c.after (handed ew (Bytes id count ∷ []))) (sym is) both;
        sound = read_sound qpack setup w s (Bytes id count) ds t.sound may;
        few = subst (λ n. 4 * n ≤ 2 ^ 62) (sym same_count) t.few;
        next_id = next_kept setup w side er ew c.after (handed ew (Bytes id count ∷ [])) _ t c.reader_next refl same_count;
      };
    }
  where
    s : Side
    s = other side

    v : World
    v = delivered_own setup w s id count

    c : OwnCome setup w side er ew count id
    c = own_come laws.streams setup w side er ew count id made t.sound t.both.writes_there t.both.here t.both.there own

    is : read_delivery setup w s (Bytes id count) ≡ v
    is = ap (λ b. if b then v else delivered_message w s id count) own

    same_count : length (read_delivery setup w s (Bytes id count)).exchanges ≡ length w.exchanges
    same_count = ap (λ (x : World). length x.exchanges) is ∙ own_count setup w s id count

    none : stream_at ew.outgoing id ≡ None
    none = own_outgoing setup w s id ew t.both.there own

    left : bytes_waiting ew id ≡ drop (came_of w s id) (text_of setup w s id)
    left = waiting_own setup w s id ew t.both.there none ∙ own_left_is setup w s id t.both.writes_there.updates own

    streams : SameStreams w v
    streams = streams_after setup w s id count

    own_is : handed_own ew.side ew.own (Bytes id count ∷ []) ≡ own_advanced (party w s).own s id count
    own_is = ap (λ x. handed_own x ew.own (Bytes id count ∷ [])) t.both.there.side_is ∙ own_taken s ew.own id count own ∙ ap (λ o. own_advanced o s id count) t.both.there.own

    at_each : (i : ℕ) (b : Bool) → (id == i) ≡ b → stream_at (map (handed_stream (Bytes id count ∷ [])) ew.outgoing) i ≡ stream_at ew.outgoing i
    at_each i true e =
        let nothing : stream_at ew.outgoing i ≡ None = ap (stream_at ew.outgoing) (sym (same_number id i e)) ∙ none in
        at_mapped (Bytes id count ∷ []) ew.outgoing i ∙ ap (option_map (further_taken (Bytes id count ∷ []) i)) nothing ∙ sym nothing
    at_each i false e = at_handed ew.outgoing (Bytes id count) i (not_it id i count e)

    writer : StandsAt setup v s (handed ew (Bytes id count ∷ []))
    writer =
        outgoing_alike setup v s (record ew { own = own_advanced (party w s).own s id count }) (handed ew (Bytes id count ∷ []))
        (subst (StandsAt setup v s) (advanced_is setup w s id count ew t.both.there none) c.writer) refl own_is (λ i. at_each i (id == i) refl)

    both : Both setup v side c.after (handed ew (Bytes id count ∷ []))
    both = record {
      here = c.reader;
      there = writer;
      writes_here = reader_writable laws.streams setup w side id count made t.sound t.both.writes_here;
      writes_there = writer_writable setup w side id count t.both.writes_there;
      sends_here = readable_same setup w v side streams t.both.sends_here;
      sends_there = λ i. subst (λ (f : Flow). AllByRecursion (IsReadable setup side) f.sent) (sym (streams.flows s i)) (t.both.sends_there i);
    }
