-- A request stream is open to a reader once something of it was handed over: the endpoint behind is opened in the world that says so, and the one
-- ahead alike.
use Rattle.std.proofs.Common.{◌≡◌, ℕ, ◌+◌, ◌*◌, ◌^◌, ◌≤◌, zero, suc, true, List, [], refl, sym, ap, ◌∙◌, subst, arith, if◌then◌else◌, Option, Some, None}
use Rattle.std.specs.Prelude.{map, unwrap_or}
use Rattle.h3_proto.specs.declared.stream.Side.{Side}
use Rattle.h3_connection.specs.Delivering.{opened, opened_at, with_incoming}
use Rattle.h3_connection.specs.Endpoint.{EndpointHistory, Own}
use Rattle.h3_connection.specs.Incoming.{Incoming, nothing_came}
use Rattle.h3_connection.specs.Outgoing.{nothing_sent}
use Rattle.h3_connection.specs.OwnIds.{other}
use Rattle.h3_connection.specs.StreamSets.{HaveDistinctIds, Streams, stream_at, set_stream}
use Rattle.h3_connection.specs.StreamSetLaws.{set-distinct}
use Rattle.h3_world.specs.Setup.{Setup}
use Rattle.h3_world.specs.Flow.{Flow, Part, Section}
use Rattle.h3_world.specs.Flow.Part.{Interim, Head, Body, Trailer, End}
use Rattle.h3_world.specs.Order.{next_part, section_of_part}
use Rattle.h3_world.specs.Sound.{IsSoundWorld}
use Rattle.h3_world.specs.Streams.{flow, with_flow, is_open}
use Rattle.h3_world.specs.World.{World}
use Rattle.h3_headline.specs.Arriving.{Receives, saying}
use Rattle.h3_headline.specs.ComesLaws.{received_both}
use Rattle.h3_headline.specs.ComingLaws.{saying_nothing, stands_after_coming}
use Rattle.h3_headline.specs.DeliverLaws.{flow_received, sends_same, still_heard}
use Rattle.h3_headline.specs.FlowLaws.{open_there}
use Rattle.h3_headline.specs.MovesLaws.{sender_stands, set_at}
use Rattle.h3_headline.specs.SendingLaws.{flow_count}
use Rattle.h3_headline.specs.SettledPullLaws.{set_same}
use Rattle.h3_headline.specs.Standing.{ReceivesFlow, StandsAt, StandsBefore, WaitsIn}
use Rattle.h3_headline.specs.Steps.{IsThere}
use Rattle.h3_headline.specs.WaitingLaws.{self}
use Rattle.h3_memory.specs.Kept.{Delivery}
use Rattle.h3_memory.specs.Keeping.{EachResumes, Held, ahead, bytes_in, handed_stream}
use Rattle.h3_memory.proofs.Ahead.{further_taken, set_mapped}
use Rattle.h3_memory.proofs.AheadPulls.{ResumesAt, resumes_itself, set_resumed}
use Rattle.h3_memory.proofs.ReadingEnds.{Two, next_kept}

abbrev pub seen_flow : Flow → Flow
seen_flow f = record f { seen = true }

-- what is kept of it is the same
seen_comes : (f : Flow) (i : Incoming) → ReceivesFlow f i → ReceivesFlow (seen_flow f) i
seen_comes f i h =
    record {
      fault = h.fault;
      ended = h.ended;
      was_reset = h.was_reset;
      is_over = h.is_over;
      waits_for = h.waits_for;
      reads = λ alive. record {
        unread = before_seen i.body_left (next_part f) _ (h.reads alive).unread;
        waits = waits_seen i.section (section_of_part (next_part f)) (h.reads alive).waits;
        pieces = (h.reads alive).pieces;
        place = (h.reads alive).place;
        content = (h.reads alive).content;
      };
      given_up = h.given_up;
    }
  where
    before_seen : (n : ℕ) (part : Option Part) (left : List ℕ) → StandsBefore f n part left → StandsBefore (seen_flow f) n part left
    before_seen zero part left h = h
    before_seen (suc n) None left h = h
    before_seen (suc n) (Some (Interim s)) left h = h
    before_seen (suc n) (Some (Head s)) left h = h
    before_seen (suc n) (Some (Body bytes own)) left h = h
    before_seen (suc n) (Some (Trailer s)) left h = h
    before_seen (suc n) (Some End) left h = h

    waits_seen : (section : Option (List ℕ)) (part : Option Section) → WaitsIn f i section part → WaitsIn (seen_flow f) i section part
    waits_seen None part h = h
    waits_seen (Some bytes) None h = h
    waits_seen (Some bytes) (Some s) h = h

abbrev with_streams : EndpointHistory → Streams Incoming → EndpointHistory
with_streams e streams = record e { incoming = streams }

abbrev with_own : EndpointHistory → Own → EndpointHistory
with_own e own = record e { own = own }

-- what is set again is there already
opened_is : (e : EndpointHistory) (id : ℕ) (o : Option Incoming) → stream_at e.incoming id ≡ o
    → record (with_incoming (opened_at e id o) id (unwrap_or o nothing_came)) { own = saying e.own [] } ≡ opened_at e id o
opened_is e id None at =
    let there : stream_at (set_stream e.incoming id nothing_came) id ≡ Some nothing_came = set_at e.incoming id id nothing_came ∙ ap (λ b. if b then Some nothing_came else stream_at e.incoming id) (self id) in
    ap (λ l. with_own (with_streams (opened_at e id None) l) (saying e.own [])) (set_same (set_stream e.incoming id nothing_came) id nothing_came there)
    ∙ ap (with_own (opened_at e id None)) (saying_nothing e.own)
opened_is e id (Some i) at = ap (λ l. with_own (with_streams e l) (saying e.own [])) (set_same e.incoming id i at) ∙ ap (with_own e) (saying_nothing e.own)

-- what an opening leaves alone
pub record OpensAlone (e new : EndpointHistory) : Type 0 where
  pub announced : new.announced ≡ e.announced
  pub peer : new.peer ≡ e.peer
  pub next_id : new.next_id ≡ e.next_id
  pub distinct : HaveDistinctIds e.outgoing → HaveDistinctIds new.outgoing

pub opens_alone : (e : EndpointHistory) (id : ℕ) (o : Option Incoming) → OpensAlone e (opened_at e id o)
opens_alone e id None = record { announced = refl; peer = refl; next_id = refl; distinct = set-distinct e.outgoing id nothing_sent }
opens_alone e id (Some i) = record { announced = refl; peer = refl; next_id = refl; distinct = λ d. d }

-- **The endpoint behind, and its writer.**
pub opened_two : (setup : Setup) (w : World) (side : Side) (id : ℕ) (er ew : EndpointHistory) → Two setup w side er ew → is_open w (other side) id ≡ true
    → IsSoundWorld setup (with_flow w (other side) id (seen_flow (flow w (other side) id))) → Two setup (with_flow w (other side) id (seen_flow (flow w (other side) id))) side (opened er id) ew
opened_two setup w side id er ew t sending sound =
    record {
      both = received_both setup w v side id [] g er ew (opened er id) ew t.both r refl tt reader writer;
      sound = sound;
      few = subst (λ n. 4 * n ≤ 2 ^ 62) (sym (flow_count w (other side) id g)) t.few;
      next_id = next_kept setup w side er ew (opened er id) ew _ t (opens_alone er id (stream_at er.incoming id)).next_id refl (flow_count w (other side) id g);
    }
  where
    f : Flow
    f = flow w (other side) id

    g : Flow
    g = seen_flow (flow w (other side) id)

    v : World
    v = with_flow w (other side) id (seen_flow (flow w (other side) id))

    there : IsThere w id
    there = open_there w (other side) id sending

    r : Receives w (with_flow w (other side) id (seen_flow (flow w (other side) id))) side id [] (seen_flow (flow w (other side) id))
    r = flow_received w side id g there refl

    reader : StandsAt setup (with_flow w (other side) id (seen_flow (flow w (other side) id))) side (opened er id)
    reader =
        subst (StandsAt setup v side) (opened_is er id (stream_at er.incoming id) refl)
        (stands_after_coming setup w v side id [] g er (λ i. i) t.both.here t.sound there r (λ i k. seen_comes f i k))

    writer : StandsAt setup (with_flow w (other side) id (seen_flow (flow w (other side) id))) (other side) ew
    writer = sender_stands setup w v side id [] g ew ew ew.outgoing t.both.there r refl (still_heard setup w side ew t.both.there) (sends_same setup w (other side) id g ew t.both.there refl)

-- **The endpoint ahead is opened alike.** Nothing is ahead of a stream on which the one behind sends nothing yet.
pub record OpensAhead (mine : List Delivery) (held : Held) (behind : EndpointHistory) (new : EndpointHistory) (side : Side) : Type 0 where
  pub incoming : Streams Incoming
  pub is : new ≡ ahead behind mine held incoming []
  pub resumes : EachResumes side behind.announced behind.incoming incoming

pub opens_ahead : (mine : List Delivery) (held : Held) (side : Side) (e : EndpointHistory) (news : Streams Incoming) (id : ℕ) (o n : Option Incoming) → EachResumes side e.announced e.incoming news → ResumesAt side e.announced id o n
    → (o ≡ None → bytes_in id mine ≡ 0) → OpensAhead mine held (opened_at e id o) (opened_at (ahead e mine held news []) id n) side
opens_ahead mine held side e news id None None h r none =
    let f = ahead e mine held news [] in
    let none_taken : 0 + bytes_in id mine ≡ 0 = omega (arith, none refl) in
    let fresh : further_taken mine id nothing_sent ≡ nothing_sent = ap (λ k. record nothing_sent { taken = k }) none_taken in
    let outgoing : set_stream (map (handed_stream mine) e.outgoing) id nothing_sent ≡ map (handed_stream mine) (set_stream e.outgoing id nothing_sent) =
    ap (set_stream (map (handed_stream mine) e.outgoing) id) (sym fresh) ∙ set_mapped mine e.outgoing id nothing_sent in
    record {
      incoming = set_stream news id nothing_came;
      is = ap (λ l. record f { incoming = set_stream news id nothing_came; outgoing = l }) outgoing;
      resumes = set_resumed side e.announced e.incoming news id nothing_came nothing_came h (resumes_itself side e.announced id nothing_came);
    }
opens_ahead mine held side e news id None (Some new) h r none = absurd r
opens_ahead mine held side e news id (Some old) None h r none = absurd r
opens_ahead mine held side e news id (Some old) (Some new) h r none = record { incoming = news; is = refl; resumes = h }
