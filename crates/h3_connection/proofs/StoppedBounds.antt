-- What is left where memory was refused keeps the bounds.
use Rattle.std.proofs.Common.{arith, ◌≡◌, ℕ, ◌-◌, List, [], ◌∷◌, refl, ap, subst, inl, inr}
use Rattle.std.specs.Prelude.{◌⊎◌, take, fold, Some, unwrap_or}
use Rattle.h3_field.specs.Field.{Field}
use Rattle.h3_connection.specs.Arrivals.{Arrival, BytesCame, stream_of}
use Rattle.h3_connection.specs.Bounds.{IsBounded, StandsBounded}
use Rattle.h3_connection.specs.Control.{increment}
use Rattle.h3_connection.specs.Delivering.{unidirectional_at, incoming_at, with_incoming, with_unidirectional}
use Rattle.h3_connection.specs.Endpoint.{EndpointHistory, limit_of, Kind, kind_of, replied}
use Rattle.h3_connection.specs.Endpoint.Kind.{Request, ServerOpened, OwnUnidirectional, PeerUnidirectional}
use Rattle.h3_connection.specs.Incoming.{Incoming, nothing_came}
use Rattle.h3_connection.specs.Keeping.{keeping, opened_as, opened_by}
use Rattle.h3_connection.specs.Listeners.{Decoding}
use Rattle.h3_connection.specs.PartReading.{ReadsOn, ReadsPart, HearsPart, Resumes, StandsAsked, held, held_as, after_frames}
use Rattle.h3_connection.specs.PartReading.ReadsOn.{ReadsWhole, ReadsFront, Holds, ReadsFrames, Hears, Listens}
use Rattle.h3_connection.specs.PartReading.ReadsPart.{Stops, Goes}
use Rattle.h3_connection.specs.PeerReading.{Peer}
use Rattle.h3_connection.specs.ReceivingContracts.{StoresArrival, LosesNothing}
use Rattle.h3_connection.specs.Sections.{with_insertions}
use Rattle.h3_connection.specs.SendingContracts.{CutsOff}
use Rattle.h3_connection.specs.State.{EndpointState, StandsFor}
use Rattle.h3_connection.specs.StreamSets.{stream_at}
use Rattle.h3_connection.specs.Unidirectional.{Role, role_after, with_bytes}
use Rattle.h3_connection.specs.Unidirectional.Role.{Untold, Control, Encoder, Decoder, Session, Push, Ignored, Other}
use Rattle.h3_connection.proofs.Bounded.{as_before, rests, opens, hears, hears_more, sets_peer, arrival_on, forgets, changes_at}
use Rattle.h3_connection.proofs.Quiet.{Quiet, quiet_if_learned}

-- bytes that a reader holds
holds_as : (e : EndpointHistory) (id : ℕ) (read_as : Role × List ℕ) → IsBounded e → IsBounded (held_as e id read_as)
holds_as e id (Untold front, bytes) h = h
holds_as e id (Control, bytes) h = rests e _ refl refl refl refl h
holds_as e id (Encoder, bytes) h = as_before e _ (record { incoming = refl; decoder = refl; announced = refl; closed = λ x. x }) h
holds_as e id (Decoder, bytes) h = rests e _ refl refl refl refl h
holds_as e id (Session n, bytes) h = h
holds_as e id (Push n, bytes) h = h
holds_as e id (Ignored, bytes) h = h
holds_as e id (Other kind, bytes) h = h

holds : (e : EndpointHistory) (id : ℕ) (bytes : List ℕ) → IsBounded e → IsBounded (held e id bytes)
holds e id bytes h =
    let o = unidirectional_at e id in
    let read_as = role_after _ o.role bytes in
    holds_as (with_unidirectional e id (with_bytes o read_as)) id read_as (sets_peer e id (with_bytes o read_as) h)

frames : (e : EndpointHistory) (p : Peer) → IsBounded e → IsBounded (after_frames e p)
frames e p h =
    let f = record e { peer = p } in
    let q : Quiet f (after_frames e p) = quiet_if_learned e.peer.settings p.settings f in
    rests f (after_frames e p) q.incoming q.decoding q.announced q.closed (rests e f refl refl refl refl h)

heard : (e : EndpointHistory) (d : Decoding) → HearsPart (limit_of e) e.decoding d → IsBounded e
    → IsBounded (replied (record e { decoding = d }) (increment (d.decoder.table.inserted - e.decoding.decoder.table.inserted)))
heard e d part h = hears e _ refl (rw part.left (hears_more (limit_of e) e.decoding.decoder part.front)) refl (λ x. x) h

-- one step of reading
reads_on : {e new : EndpointHistory} {arrivals more : List Arrival} → ReadsOn e arrivals new more → IsBounded e → IsBounded new
reads_on {e = e} (ReadsWhole {a = a} is) h = subst (λ found. IsBounded found.0) is (arrival_on e a h)
reads_on {e = e} (ReadsFront front rest {id = id} is) h = subst (λ found. IsBounded found.0) is (arrival_on e (BytesCame id front) h)
reads_on {e = e} (Holds {id = id} {bytes = bytes} kind reader) h = holds e id bytes h
reads_on {e = e} (ReadsFrames {p = p} on may part) h = frames e p h
reads_on {e = e} (Hears {d = d} on part) h = heard e d part h
reads_on {e = e} (Listens on came part) h = rests e _ refl refl refl refl h

-- what is kept opens its streams
opens_as : (e : EndpointHistory) (id : ℕ) (k : Kind) → IsBounded e → IsBounded (opened_as k e id)
opens_as e id Request h = opens e id (stream_at e.incoming id) h
opens_as e id ServerOpened h = h
opens_as e id OwnUnidirectional h = h
opens_as e id PeerUnidirectional h = h

all_open : (e : EndpointHistory) (arrivals : List Arrival) → IsBounded e → IsBounded (fold opened_by e arrivals)
all_open e [] h = h
all_open e (a ∷ arrivals) h = all_open (opened_by e a) arrivals (opens_as e (stream_of a) (kind_of e.side (stream_of a)) h)

pub reads_part : {e new : EndpointHistory} {arrivals : List Arrival} → ReadsPart e arrivals new → IsBounded e → IsBounded new
reads_part {e = e} (Stops {rest = rest}) h = rests (fold opened_by e rest) (keeping e rest) refl refl refl refl (all_open e rest h)
reads_part (Goes on behind) h = reads_part behind (reads_on on h)

-- the stream that goes on as if it had not been asked
pub asked : (e : EndpointHistory) (id : ℕ) (old new : Incoming) → stream_at e.incoming id ≡ Some old → Resumes e.side e.announced id old new → IsBounded e → IsBounded (with_incoming e id new)
asked e id old new here r h =
    let was : incoming_at e id ≡ old = ap (λ at. unwrap_or at nothing_came) here in
    let tries : new.tries ≡ old.tries = ap (λ i. i.tries) r.same in
    let waits : new.waits_for ≡ old.waits_for = ap (λ i. i.waits_for) r.same in
    changes_at e id new h (rw was (record { tries = tries; waits = omega (arith, waits) }))

-- a delivery that was kept, a pull that lost nothing, and a section that was cut off
pub kept_bounded : (e : EndpointHistory) (a : Arrival) (new : EndpointState) → IsBounded e → StoresArrival e a new → StandsBounded new
kept_bounded e a new h stores = record { history = stores.after; stands = stores.stands; bounded = reads_part stores.read (forgets e h) }

pub lost_bounded : (e : EndpointHistory) (id : ℕ) (new : EndpointState) → IsBounded e → LosesNothing e id new → StandsBounded new
lost_bounded e id new h loses = by loses.stands
  where
    after : IsBounded loses.after
    after = reads_part loses.read (forgets e h)

    by : StandsFor new loses.after ⊎ ((loses.after.kept ≡ []) × StandsAsked new loses.after id) → StandsBounded new
    by (inl stands) = record { history = loses.after; stands = stands; bounded = after }
    by (inr x) = record { history = with_incoming loses.after id x.1.new; stands = x.1.stands; bounded = asked loses.after id x.1.old x.1.new x.1.here x.1.resumes after }

pub inserted_bounded : (e : EndpointHistory) (id : ℕ) (fields : List Field) → IsBounded e → IsBounded (with_insertions e id fields)
inserted_bounded e id fields h = rests e _ refl refl refl refl h

pub cut_bounded : (e : EndpointHistory) (id : ℕ) (fields : List Field) (new : EndpointState) → IsBounded e → CutsOff e id fields new → StandsBounded new
cut_bounded e id fields new h cut = record { history = _; stands = cut.stands; bounded = inserted_bounded e id (take cut.front fields) h }
