-- What comes on any streams, whatever is kept, leaves what is counted of request streams: any of them may be given up.
use Rattle.std.proofs.Common.{◌≡◌, inl, inr, ℕ, Bool, true, List, [], ◌∷◌, ◌++◌, refl, sym, ap, ◌∙◌, subst, Some, None}
use Rattle.std.specs.Prelude.{fold}
use Rattle.h3_connection.specs.Arrivals.{stream_of}
use Rattle.h3_connection.specs.declared.arrival.Arrival.{Arrival}
use Rattle.h3_connection.specs.declared.arrival.Arrival.TheVariants.{BytesCame}
use Rattle.h3_connection.specs.Control.{Found}
use Rattle.h3_connection.specs.Delivering.{delivery_refusal, incoming_at, unidirectional_at, with_unidirectional}
use Rattle.h3_connection.specs.Endpoint.{EndpointHistory, Kind, kind_of}
use Rattle.h3_connection.specs.Endpoint.Kind.{OwnUnidirectional, PeerUnidirectional, Request, ServerOpened}
use Rattle.h3_connection.specs.Incoming.{Incoming}
use Rattle.h3_connection.specs.Keeping.{arrival_refusal, arrives, arrives_behind, opened_as, opened_by, read_all, read_arrival, unkept, unless_faulty}
use Rattle.h3_connection.specs.PartReading.{Goes, Hears, Holds, Listens, ReadsFrames, ReadsFront, ReadsOn, ReadsPart, ReadsWhole, Stops, held, held_as}
use Rattle.h3_connection.specs.StrictConnection.{known_streams}
use Rattle.h3_connection.specs.Unidirectional.{Role, role_after, with_bytes}
use Rattle.h3_connection.specs.Unidirectional.Role.{Control, Decoder, Encoder, Ignored, Push, Session, Untold, Other}
use Rattle.h3_strict.proofs.KeepsCounts.{KeepsAt, KeepsBut, SameCounts, SameStreams, arrival_keeps, if_learned_same, lost_by, opened_announced, opened_in, opened_out, same_counts, same_streams, streams_keep, taken_keeps}
use Rattle.h3_strict.proofs.TunnelSends.{kept_at}
use Rattle.h3_strict.specs.Tallies.{IsFine}

abbrev pub any_stream : ℕ → Bool
any_stream id = true

pub keeps_any : (only : ℕ → Bool) (e f : EndpointHistory) → KeepsBut only e f → KeepsBut any_stream e f
keeps_any only e f h = record { out = h.out; same = λ id never. absurd (cc); kept = λ id yes. kept_at only e f id h; announced = h.announced }

then_counts : (i j k : Incoming) → SameCounts i j → SameCounts j k → SameCounts i k
then_counts i j k h g = record { fault = g.fault ∙ h.fault; content = g.content ∙ h.content; left = g.left ∙ h.left; response = g.response ∙ h.response }

then_at : (i j k : Incoming) → KeepsAt i j → KeepsAt j k → KeepsAt i k
then_at i j k (inl h) (inl g) = inl (then_counts i j k h g)
then_at i j k (inl h) (inr g) = inr (record { lost = g.lost; fine = λ x. g.fine (subst IsFine (sym h.fault) x); response = g.response ∙ h.response })
then_at i j k (inr h) (inl g) = inr (record { lost = λ none. h.lost (sym g.fault ∙ none); fine = λ x. subst IsFine (sym g.fault) (h.fine x); response = g.response ∙ h.response })
then_at i j k (inr h) (inr g) = inr (record { lost = g.lost; fine = λ x. g.fine (h.fine x); response = g.response ∙ h.response })

-- one after the other
pub then_any : (e f g : EndpointHistory) → KeepsBut any_stream e f → KeepsBut any_stream f g → KeepsBut any_stream e g
then_any e f g h k = record {
  out = λ id. let a = h.out id in let b = k.out id in record { takes = λ t. a.takes (b.takes t); content = λ t. b.content t ∙ a.content (b.takes t) };
  same = λ id never. absurd (cc);
  kept = λ id yes. then_at (incoming_at e id) (incoming_at f id) (incoming_at g id) (h.kept id refl) (k.kept id refl);
  announced = k.announced ∙ h.announced;
}

then_read : (e : EndpointHistory) (go : EndpointHistory → Found) (x : Found) → KeepsBut any_stream e x.0 → ((f : EndpointHistory) → KeepsBut any_stream f (go f).0) → KeepsBut any_stream e (unless_faulty go x).0
then_read e go (f, Some code) h goes = h
then_read e go (f, None) h goes = then_any e f (go f).0 h (goes f)

-- **All that is kept.**
pub all_keep : (arrivals : List Arrival) (e : EndpointHistory) → KeepsBut any_stream e (read_all arrivals e).0
all_keep [] e = streams_keep any_stream e e (same_streams e)
all_keep (a ∷ arrivals) e = then_read e (read_all arrivals) (read_arrival e a) (keeps_any (lost_by a) e (read_arrival e a).0 (arrival_keeps e a)) (λ f. all_keep arrivals f)

behind_keeps : (kept : List Arrival) (e : EndpointHistory) (a : Arrival) → KeepsBut any_stream e (arrives_behind kept e a).1
behind_keeps [] e a = taken_keeps any_stream e.closed (delivery_refusal e (stream_of a)) e (read_arrival e a) (keeps_any (lost_by a) e (read_arrival e a).0 (arrival_keeps e a))
behind_keeps (k ∷ kept) e a =
    let all = all_keep (k ∷ kept ++ a ∷ []) (unkept e) in
    taken_keeps any_stream e.closed (arrival_refusal e (stream_of a)) e (read_all (k ∷ kept ++ a ∷ []) (unkept e)) (record { out = all.out; same = all.same; kept = all.kept; announced = all.announced })

-- **What comes.**
pub arrives_any : (e : EndpointHistory) (a : Arrival) → KeepsBut any_stream e (arrives e a).1
arrives_any e a = behind_keeps e.kept e a

-- What is read where memory is refused.
held_same : (e : EndpointHistory) (id : ℕ) (x : Role × List ℕ) → SameStreams e (held_as e id x)
held_same e id (Control, bytes) = record { incoming = refl; outgoing = refl; announced = refl }
held_same e id (Encoder, bytes) = record { incoming = refl; outgoing = refl; announced = refl }
held_same e id (Decoder, bytes) = record { incoming = refl; outgoing = refl; announced = refl }
held_same e id (Untold front, bytes) = same_streams e
held_same e id (Push push, bytes) = same_streams e
held_same e id (Session session, bytes) = same_streams e
held_same e id (Ignored, bytes) = same_streams e
held_same e id (Other kind, bytes) = same_streams e

holds_same : (e : EndpointHistory) (id : ℕ) (bytes : List ℕ) → SameStreams e (held e id bytes)
holds_same e id bytes =
    let o = unidirectional_at e id in
    let read_as = role_after (known_streams e.announced) o.role bytes in
    let k = held_same (with_unidirectional e id (with_bytes o read_as)) id read_as in
    record { incoming = k.incoming; outgoing = k.outgoing; announced = k.announced }

whole_keeps : (e new : EndpointHistory) (a : Arrival) → read_arrival e a ≡ (new, None) → KeepsBut any_stream e new
whole_keeps e new a is = subst (KeepsBut any_stream e) (ap (λ (x : Found). x.0) is) (keeps_any (lost_by a) e (read_arrival e a).0 (arrival_keeps e a))

step_keeps : {e new : EndpointHistory} {arrivals more : List Arrival} → ReadsOn e arrivals new more → KeepsBut any_stream e new
step_keeps {e = e} {new = new} (ReadsWhole {a = a} is) = whole_keeps e new a is
step_keeps {e = e} {new = new} (ReadsFront front rest {id = id} is) = whole_keeps e new (BytesCame id front) is
step_keeps {e = e} (Holds {id = id} {bytes = bytes} kind reads) = streams_keep any_stream e (held e id bytes) (holds_same e id bytes)
step_keeps {e = e} (ReadsFrames {p = p} on may part) =
    let k = if_learned_same e.peer.settings p.settings (record e { peer = p }) in
    streams_keep any_stream e _ (record { incoming = k.incoming; outgoing = k.outgoing; announced = k.announced })
step_keeps {e = e} (Hears on part) = streams_keep any_stream e _ (record { incoming = refl; outgoing = refl; announced = refl })
step_keeps {e = e} (Listens on came part) = streams_keep any_stream e _ (record { incoming = refl; outgoing = refl; announced = refl })

-- what is kept opens its streams
opens_keep : (e : EndpointHistory) (id : ℕ) (k : Kind) → KeepsBut any_stream e (opened_as k e id)
opens_keep e id Request = record {
  out = λ j. opened_out e id j;
  same = λ j never. absurd (cc);
  kept = λ j yes. inl (subst (SameCounts (incoming_at e j)) (sym (opened_in e id j)) (same_counts (incoming_at e j)));
  announced = opened_announced e id;
}
opens_keep e id ServerOpened = streams_keep any_stream e e (same_streams e)
opens_keep e id OwnUnidirectional = streams_keep any_stream e e (same_streams e)
opens_keep e id PeerUnidirectional = streams_keep any_stream e e (same_streams e)

all_open : (e : EndpointHistory) (arrivals : List Arrival) → KeepsBut any_stream e (fold opened_by e arrivals)
all_open e [] = streams_keep any_stream e e (same_streams e)
all_open e (a ∷ arrivals) = then_any e (opened_by e a) (fold opened_by (opened_by e a) arrivals) (opens_keep e (stream_of a) (kind_of e.side (stream_of a))) (all_open (opened_by e a) arrivals)

-- **A part of what is kept.**
pub part_keeps : {e new : EndpointHistory} {arrivals : List Arrival} → ReadsPart e arrivals new → KeepsBut any_stream e new
part_keeps {e = e} (Stops {rest = rest}) = let k = all_open e rest in record { out = k.out; same = k.same; kept = k.kept; announced = k.announced }
part_keeps {e = e} {new = new} (Goes {next = next} on behind) = then_any e next new (step_keeps on) (part_keeps behind)
