-- What comes on a request stream, once it is its receiver's.
use Rattle.std.proofs.Common.{◌≡◌, ℕ, [], append-nil, Option, Some, None, refl, ap, sym, subst, ◌∙◌}
use Rattle.std.specs.Prelude.{IsSome}
use Rattle.h3_connection.specs.Arrivals.{stream_of}
use Rattle.h3_connection.specs.Control.{Found}
use Rattle.h3_connection.specs.Delivering.{with_incoming, incoming_at, opened, opened_at, bytes_at, end_at, reset_at}
use Rattle.h3_connection.specs.Endpoint.{EndpointHistory, kind_of, replied}
use Rattle.h3_connection.specs.Endpoint.Kind.{Request}
use Rattle.h3_connection.specs.Incoming.{Incoming, nothing_came}
use Rattle.h3_connection.specs.Keeping.{read_arrival}
use Rattle.h3_connection.specs.State.{EndpointState, StandsFor, kept_at}
use Rattle.h3_connection.specs.StandsLaws.{still_there}
use Rattle.h3_connection.specs.StreamSets.{stream_at}
use Rattle.h3_connection.specs.declared.arrival.Arrival.{Arrival}
use Rattle.h3_connection.specs.declared.arrival.Arrival.TheVariants.{BytesCame, EndCame, ResetCame}
use Rattle.h3_requests.specs.Changing.{opened_at as request_at}
use Rattle.h3_session.specs.Arriving.{received, replies_to, IsReceived}
use Rattle.h3_session.proofs.Opened.{received_at, incoming_of, stands_replied}
use Rattle.h3_session.specs.Changes.{ChangesRequests}
use Rattle.h3_session.specs.Reading.{GoesOn, ReadsWholly}

-- the endpoint after it
abbrev pub receiving : EndpointHistory → Arrival → EndpointHistory
receiving e a = replied (with_incoming (opened e (stream_of a)) (stream_of a) (received a (incoming_at e (stream_of a)))) (replies_to a (incoming_at e (stream_of a)))

no_replies : (e : EndpointHistory) → e ≡ replied e []
no_replies e = ap (λ r. record e { own = record e.own { replies = r } }) (sym (append-nil e.own.replies))

pub read_as : (e : EndpointHistory) (a : Arrival) → kind_of e.side (stream_of a) ≡ Request → read_arrival e a ≡ (receiving e a, None)
read_as e (BytesCame id bytes) is = ap (bytes_at e id bytes) is ∙ ap (λ f. (f, None)) (no_replies (with_incoming (opened e id) id (received (BytesCame id bytes) (incoming_at e id))))
read_as e (EndCame id) is = ap (end_at e id) is ∙ ap (λ f. (f, None)) (no_replies (with_incoming (opened e id) id (received (EndCame id) (incoming_at e id))))
read_as e (ResetCame id code) is = ap (reset_at e id code) is

opened_stays : (e : EndpointHistory) (id q : ℕ) (at : Option Incoming) → IsSome (stream_at e.incoming q) → IsSome (stream_at (opened_at e id at).incoming q)
opened_stays e id q (Some i) h = h
opened_stays e id q None h = still_there e.incoming id q nothing_came h

opened_side : (e : EndpointHistory) (id : ℕ) (at : Option Incoming) → (opened_at e id at).side ≡ e.side
opened_side e id (Some i) = refl
opened_side e id None = refl

receiving_on : (e : EndpointHistory) (a : Arrival) → GoesOn e (receiving e a)
receiving_on e a = record {
  side = opened_side e (stream_of a) (stream_at e.incoming (stream_of a));
  stays = λ q h. still_there (opened e (stream_of a)).incoming (stream_of a) q (received a (incoming_at e (stream_of a))) (opened_stays e (stream_of a) q (stream_at e.incoming (stream_of a)) h);
}

received_stands : (s new : EndpointState) (e : EndpointHistory) (a : Arrival) → StandsFor s e → ChangesRequests s new → IsReceived a s.requests new.requests s.own.decoder new.own.decoder → StandsFor new (receiving e a)
received_stands s new e a h rest got =
    let id = stream_of a in
    let i = incoming_at e id in
    let here : (request_at s.requests id).incoming ≡ i = incoming_of s e id (kept_at s.requests id) h refl in
    let mid : StandsFor (record s { requests = new.requests }) (with_incoming (opened e id) id (received a i)) =
    subst (λ x. StandsFor (record s { requests = new.requests }) (with_incoming (opened e id) id (received a x))) here
    (received_at s e new.requests id (received a (request_at s.requests id).incoming) (kept_at s.requests id) h refl got.streams) in
    subst (λ n. StandsFor n (receiving e a)) (sym rest)
    (subst (λ x. StandsFor (record s { requests = new.requests; own = record s.own { decoder = new.own.decoder } }) (replied (with_incoming (opened e id) id (received a i)) (replies_to a x))) here
    (stands_replied (record s { requests = new.requests }) (with_incoming (opened e id) id (received a i)) new.own.decoder (replies_to a (request_at s.requests id).incoming) mid got.replies))

-- it was read, without a fault
pub reads_request : (s new : EndpointState) (e : EndpointHistory) (a : Arrival) → StandsFor s e → kind_of s.side (stream_of a) ≡ Request → ChangesRequests s new
    → IsReceived a s.requests new.requests s.own.decoder new.own.decoder → ReadsWholly e a None new
reads_request s new e a h kind rest got =
    let is : read_arrival e a ≡ (receiving e a, None) = read_as e a (subst (λ side. kind_of side (stream_of a) ≡ Request) h.side kind) in
    record {
      finds = rw is (refl, received_stands s new e a h rest got);
      on = subst (λ (f : Found). GoesOn e f.0) (sym is) (receiving_on e a);
    }
