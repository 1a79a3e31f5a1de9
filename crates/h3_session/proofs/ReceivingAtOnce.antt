-- What comes on a request stream and is its receiver's at once, since nothing is kept.
use Rattle.std.proofs.Common.{◌≡◌, ℕ, List, [], ◌++◌, append-nil, Option, Some, None, Ok, Err, Result, refl, ap, sym, subst, ◌∙◌}
use Rattle.std.specs.Prelude.{OnOk, OnErr, IfErr}
use Rattle.h3_connection.specs.Arrivals.{is_closed_in, stream_of}
use Rattle.h3_connection.specs.Calls.{AllSame, IsSame}
use Rattle.h3_connection.specs.Delivering.{kept, with_end}
use Rattle.h3_connection.specs.Endpoint.{EndpointHistory, kind_of}
use Rattle.h3_connection.specs.Endpoint.Kind.{Request}
use Rattle.h3_connection.specs.Incoming.{Incoming}
use Rattle.h3_connection.specs.Keeping.{refused_behind}
use Rattle.h3_connection.specs.ReceivingContracts.{Receives, KeepsBehind, Delivers, DeliversEnd, IsTaken, bytes_of}
use Rattle.h3_connection.specs.State.{EndpointState, RequestState, StandsFor, kept_at}
use Rattle.h3_connection.specs.StreamSets.{Streams}
use Rattle.h3_connection.specs.declared.arrival.Arrival.{Arrival}
use Rattle.h3_connection.specs.declared.arrival.Arrival.TheVariants.{BytesCame, EndCame}
use Rattle.h3_connection.specs.declared.event.DeliverError.{DeliverError}
use Rattle.h3_connection.specs.declared.event.DeliverError.TheVariants as deliver_error
use Rattle.h3_connection.specs.declared.event.Refusal.{Refusal}
use Rattle.h3_incoming.specs.Replying.{encodings}
use Rattle.h3_requests.specs.Changing.{Receives as ReceivesHere, opened_at, receiver_refusal, IsRefusedBy}
use Rattle.h3_session.specs.Arriving.{delivery_refused, arrival_refused, received, replies_to}
use Rattle.h3_session.proofs.Opened.{stands_same}
use Rattle.h3_session.proofs.ReceivingArrives.{refused_as, received_once, took_none}
use Rattle.h3_session.proofs.ReceivingCancel.{requests_same}
use Rattle.h3_session.proofs.ReceivingRefusals.{arrival_refusal_is}

-- with nothing kept the refusal is the stream's own
refused_here : (s : EndpointState) (id : ℕ) (o : Option Refusal) → s.kept ≡ [] → kind_of s.side id ≡ Request → receiver_refusal s.side (kept_at s.requests id) ≡ o → arrival_refused s id ≡ o
refused_here s id o none kind is =
    ap (λ l. refused_behind (is_closed_in l id) (delivery_refused s id (kind_of s.side id))) none ∙ ap (λ k. refused_behind (is_closed_in [] id) (delivery_refused s id k)) kind
    ∙ ap (refused_behind (is_closed_in [] id)) is ∙ by o
  where
    by : (o : Option Refusal) → refused_behind (is_closed_in [] id) o ≡ o
    by None = refl
    by (Some r) = refl

-- what is written to the peer of nothing that is owed
silent_here : (s : EndpointState) (a : Arrival) → ((i : Incoming) → replies_to a i ≡ []) → s.own.decoder ≡ s.own.decoder ++ encodings (replies_to a (opened_at s.requests (stream_of a)).incoming)
silent_here s a silent = sym (append-nil s.own.decoder) ∙ ap (λ l. s.own.decoder ++ encodings l) (sym (silent (opened_at s.requests (stream_of a)).incoming))

arrives_here : (s : EndpointState) (new : Streams RequestState) (a : Arrival) (result : Result Unit DeliverError) → s.closed ≡ None → s.kept ≡ [] → kind_of s.side (stream_of a) ≡ Request
    → ((i : Incoming) → replies_to a i ≡ []) → OnOk result (ReceivesHere s.requests new (stream_of a) (received a)) → OnOk result (receiver_refusal s.side (kept_at s.requests (stream_of a)) ≡ None)
    → IfErr result (λ e. IsRefusedBy (receiver_refusal s.side (kept_at s.requests (stream_of a))) (bytes_of a) e) → OnErr result (AllSame s.requests new)
    → Receives s (record s { requests = new }) a result × KeepsBehind s (stream_of a) result
arrives_here s new a result closed none kind silent = by result
  where
    taken : receiver_refusal s.side (kept_at s.requests (stream_of a)) ≡ None → (e : EndpointHistory) → StandsFor s e → IsTaken e (stream_of a)
    taken is e h = record { open_still = sym h.closed ∙ closed; accepted = sym (arrival_refusal_is s e (stream_of a) h) ∙ refused_here s (stream_of a) None none kind is }

    unchanged : AllSame s.requests new → IsSame s (record s { requests = new })
    unchanged same = requests_same s (record s { requests = new }) refl same refl

    by : (result : Result Unit DeliverError) → OnOk result (ReceivesHere s.requests new (stream_of a) (received a)) → OnOk result (receiver_refusal s.side (kept_at s.requests (stream_of a)) ≡ None)
        → IfErr result (λ e. IsRefusedBy (receiver_refusal s.side (kept_at s.requests (stream_of a))) (bytes_of a) e) → OnErr result (AllSame s.requests new)
        → Receives s (record s { requests = new }) a result × KeepsBehind s (stream_of a) result
    by (Ok done) sets is why same =
        (received_once s (record s { requests = new }) a none kind (taken is) refl (record { streams = sets; replies = silent_here s a silent }), λ k is. cc)
    by (Err (deliver_error.Refused r)) sets is why same = (
      record {
        done = λ e h memory.
            rw (refused_as e.kept e a r refl (sym h.closed ∙ closed) (sym (arrival_refusal_is s e (stream_of a) h) ∙ refused_here s (stream_of a) (Some r) none kind why)) (refl, stands_same s e new h same);
        same = λ q is closed. unchanged same;
        back = λ handed is. cc;
        refused = λ e handed h is. cc;
        kept = λ e h is. cc;
        some_kept = λ is. cc;
      },
      λ k is. cc,
    )
    by (Err (deliver_error.OutOfMemory handed)) sets is why same = (
      subst (λ l. Receives s (record s { requests = new }) a (Err (deliver_error.OutOfMemory l))) (sym why.1) (took_none s (record s { requests = new }) a (taken why.0) (unchanged same)),
      λ k is. cc,
    )
    by (Err deliver_error.Kept) sets is why same = absurd why

pub delivers_at_once : (s new : EndpointState) (id : ℕ) (bytes : List ℕ) (result : Result Unit DeliverError) → s.closed ≡ None → s.kept ≡ [] → kind_of s.side id ≡ Request → new ≡ record s { requests = new.requests }
    → OnOk result (ReceivesHere s.requests new.requests id (λ i. kept i bytes)) → OnOk result (receiver_refusal s.side (kept_at s.requests id) ≡ None)
    → IfErr result (λ e. IsRefusedBy (receiver_refusal s.side (kept_at s.requests id)) bytes e) → OnErr result (AllSame s.requests new.requests)
    → Delivers s new id bytes result
delivers_at_once s new id bytes result closed none kind rest sets taken why same =
    let found = arrives_here s new.requests (BytesCame id bytes) result closed none kind (λ i. refl) sets taken why same in
    subst (λ n. Delivers s n id bytes result) (sym rest) (record { receives = found.0; behind = found.1 })

-- and so its end
pub ends_at_once : (s new : EndpointState) (id : ℕ) (result : Result Unit DeliverError) → s.closed ≡ None → s.kept ≡ [] → kind_of s.side id ≡ Request → new ≡ record s { requests = new.requests }
    → OnOk result (ReceivesHere s.requests new.requests id with_end) → OnOk result (receiver_refusal s.side (kept_at s.requests id) ≡ None)
    → IfErr result (λ e. IsRefusedBy (receiver_refusal s.side (kept_at s.requests id)) [] e) → OnErr result (AllSame s.requests new.requests)
    → DeliversEnd s new id result
ends_at_once s new id result closed none kind rest sets taken why same =
    let found = arrives_here s new.requests (EndCame id) result closed none kind (λ i. refl) sets taken why same in
    subst (λ n. DeliversEnd s n id result) (sym rest) (record { receives = found.0; behind = found.1 })
