-- What is stored tells of datagrams what each history tells that this stands for, and what is written in front of a payload reads back.
use Rattle.std.proofs.Common.{arith, ◌≡◌, ◌∙◌, ◌+◌, ◌%◌, ◌^◌, ◌<◌, ℕ, Bool, true, false, List, ◌++◌, length, if◌then◌else◌, refl, sym, ap, subst, length-append}
use Rattle.std.specs.Prelude.{◌-◌, ◌&&◌, ◌||◌, not, Option, Some, None, IfSome, is_some, option_map, Ok, Err}
use Rattle.std.proofs.lemmas.Bool.{eqb-true}
use Rattle.h3_capsule.specs.Datagram.{datagram_head as head_bytes, datagram_of}
use Rattle.h3_proto.specs.StreamIds.{is_request_stream}
use Rattle.h3_proto.specs.declared.stream.Side.{Side}
use Rattle.h3_proto.specs.declared.stream.Side.TheVariants.{Client, Server}
use Rattle.h3_connection.specs.Arrivals.{is_closed_in}
use Rattle.h3_connection.specs.Remembering.{settings_known}
use Rattle.h3_connection.specs.declared.arrival.Arrival.{Arrival}
use Rattle.h3_connection.specs.Delivering.{closed_refusal}
use Rattle.h3_connection.specs.Endpoint.{EndpointHistory}
use Rattle.h3_connection.specs.Keeping.{is_settled_request}
use Rattle.h3_connection.specs.Outgoing.{Outgoing, is_unended}
use Rattle.h3_connection.specs.State.{EndpointState, OutgoingState, RequestState, SameAt, IsOfOutgoing, StandsFor, kept_at}
use Rattle.h3_connection.specs.StreamSets.{stream_at}
use Rattle.h3_outgoing.specs.Sent.{is_open}
use Rattle.h3_requests.specs.Changing.{receiver_refusal}
use Rattle.h3_session.proofs.Opened.{stands_closed}
use Rattle.h3_session.specs.Datagrams.{announces, datagram_at, datagram_error, datagram_head, datagram_refusal, datagram_refused, if_known, is_late, is_off, peer_announces, peer_has_none, quarter_read, read_datagram, read_unless, refusal_by, unless_off, unless_refused, ReadsDatagram, ShowsDatagramHead, TakesDatagrams}
use Rattle.h3_session.specs.declared.endpoint.datagrams.DatagramError.{DatagramError}
use Rattle.h3_session.specs.declared.endpoint.datagrams.DatagramRead.{DatagramRead}
use Rattle.h3_session.specs.declared.endpoint.datagrams.DatagramRead.TheVariants.{For, Early, Late, Off, Fault}

-- Sending: whether it goes on is told by what is kept.
open_of : (o : Outgoing) (w : OutgoingState) → IsOfOutgoing o w → is_open w ≡ is_unended o
open_of o w h = ap (λ b. not b && not w.is_reset) h.is_finished ∙ ap (λ b. not o.is_finished && not b) h.is_reset

sending_at : (there : Option Outgoing) (kept : Option OutgoingState) → SameAt IsOfOutgoing there kept → option_map is_open kept ≡ option_map is_unended there
sending_at None None h = refl
sending_at None (Some w) h = absurd h
sending_at (Some o) None h = absurd h
sending_at (Some o) (Some w) h = ap Some (open_of o w h)

refused_is : (s : EndpointState) (e : EndpointHistory) (id : ℕ) → StandsFor s e → datagram_refused s id ≡ datagram_refusal e id
refused_is s e id h =
    let asked = is_request_stream id in
    let sending = option_map is_open (option_map (λ (r : RequestState). r.outgoing) (kept_at s.requests id)) in
    ap (λ closed. refusal_by closed asked (announces s.announced.settings && peer_announces (settings_known s.announced s.peer.settings)) sending) h.closed
    ∙ ap (λ a. refusal_by e.closed asked (announces a.settings && peer_announces (settings_known a s.peer.settings)) sending) h.announced
    ∙ ap (λ p. refusal_by e.closed asked (announces e.announced.settings && peer_announces (settings_known e.announced p.settings)) sending) h.peer
    ∙ ap (refusal_by e.closed asked (announces e.announced.settings && peer_announces (settings_known e.announced e.peer.settings))) (sending_at (stream_at e.outgoing id) (option_map (λ (r : RequestState). r.outgoing) (kept_at s.requests id)) (h.outgoing id))

pub shows_head : (s : EndpointState) (id : ℕ) (head : List ℕ) → None ≡ datagram_refused s id → head ≡ head_bytes id → ShowsDatagramHead s id (Ok head)
shows_head s id head none is = λ e h. ap Ok is ∙ ap (λ r. unless_refused r (head_bytes id)) (none ∙ refused_is s e id h)

pub shows_refusal : (s : EndpointState) (id : ℕ) (error : DatagramError) → Some error ≡ datagram_refused s id → ShowsDatagramHead s id (Err error)
shows_refusal s id error some = λ e h. ap (λ r. unless_refused r (head_bytes id)) (some ∙ refused_is s e id h)

-- Receiving: that nothing more is received.
refused_if : (b : Bool) → is_some (closed_refusal b) ≡ b
refused_if true = refl
refused_if false = refl

refused_of : (side : Side) (r : RequestState) → is_some (receiver_refusal side (Some r)) ≡ (r.incoming.ended || r.incoming.was_reset)
refused_of Client r = refused_if (r.incoming.ended || r.incoming.was_reset)
refused_of Server r = refused_if (r.incoming.ended || r.incoming.was_reset)

pub late_is : (side : Side) (kept : List Arrival) (id : ℕ) (there : Option RequestState)
    → IfSome there (λ r. ((is_some (receiver_refusal side there) || is_closed_in kept id) || is_settled_request (option_map (λ (q : RequestState). q.incoming) there)) ≡ is_late kept id r.incoming)
late_is side kept id None = tt
late_is side kept id (Some r) = ap (λ b. (b || is_closed_in kept id) || is_settled_request (Some r.incoming)) (refused_of side r)

-- What a datagram is for a stream: by whether it is there, whether nothing more is received on it, and the settings.
pub is_early : (kept : List Arrival) (settings : Option (List (ℕ × ℕ))) (id from : ℕ) (there : Option RequestState) → is_some there ≡ false
    → Early id ≡ datagram_at kept settings id from (option_map (λ (r : RequestState). r.incoming) there)
is_early kept settings id from None absent = refl
is_early kept settings id from (Some r) absent = absurd (cc)

is_there : (kept : List Arrival) (settings : Option (List (ℕ × ℕ))) (id from : ℕ) (there : Option RequestState) (late : Bool) → is_some there ≡ true
    → IfSome there (λ r. late ≡ is_late kept id r.incoming) → (if late then Late else if_known settings id from) ≡ datagram_at kept settings id from (option_map (λ (r : RequestState). r.incoming) there)
is_there kept settings id from None late present is = absurd (cc)
is_there kept settings id from (Some r) late present is = ap (λ b. if b then Late else if_known settings id from) is

pub is_dropped : (kept : List Arrival) (settings : Option (List (ℕ × ℕ))) (id from : ℕ) (there : Option RequestState) (late : Bool) → is_some there ≡ true
    → IfSome there (λ r. late ≡ is_late kept id r.incoming) → late ≡ true → Late ≡ datagram_at kept settings id from (option_map (λ (r : RequestState). r.incoming) there)
is_dropped kept settings id from there true present is dropped = is_there kept settings id from there true present is
is_dropped kept settings id from there false present is dropped = absurd (cc)

pub is_taken : (kept : List Arrival) (settings : Option (List (ℕ × ℕ))) (id from : ℕ) (there : Option RequestState) (late : Bool) (result : DatagramRead) → is_some there ≡ true
    → IfSome there (λ r. late ≡ is_late kept id r.incoming) → late ≡ false → result ≡ if_known settings id from
    → result ≡ datagram_at kept settings id from (option_map (λ (r : RequestState). r.incoming) there)
is_taken kept settings id from there true result present is received known = absurd (cc)
is_taken kept settings id from there false result present is received known = known ∙ is_there kept settings id from there false present is

-- What a datagram is, by what is stored.
off_is : (s : EndpointState) (e : EndpointHistory) → StandsFor s e → is_off s.announced.settings s.peer.settings ≡ is_off e.announced.settings e.peer.settings
off_is s e h = ap (λ a. is_off a.settings s.peer.settings) h.announced ∙ ap (λ p. is_off e.announced.settings p.settings) h.peer

at_is : (s : EndpointState) (e : EndpointHistory) (id from : ℕ) → StandsFor s e
    → datagram_at s.kept s.peer.settings id from (option_map (λ (r : RequestState). r.incoming) (kept_at s.requests id)) ≡ datagram_at e.kept e.peer.settings id from (stream_at e.incoming id)
at_is s e id from h =
    let there = option_map (λ (r : RequestState). r.incoming) (kept_at s.requests id) in
    ap (λ kept. datagram_at kept s.peer.settings id from there) h.kept
    ∙ ap (λ p. datagram_at e.kept p.settings id from there) h.peer
    ∙ ap (datagram_at e.kept e.peer.settings id from) (h.incoming id)

-- an answer, and what stands for the endpoint after it
pub record Does (new : EndpointState) (result : DatagramRead) (does : DatagramRead × EndpointHistory) : Type 0 where
  pub answer : result ≡ does.0
  pub stands : StandsFor new does.1

by_closed : (new : EndpointState) (result : DatagramRead) (e : EndpointHistory) (bytes : List ℕ) (closed : Option ℕ) → e.closed ≡ closed → Does new result (read_unless closed e bytes)
    → (result ≡ (read_datagram e bytes).0) × StandsFor new (read_datagram e bytes).1
by_closed new result e bytes closed is d =
    (d.answer ∙ ap (λ c. (read_unless c e bytes).0) (sym is), subst (λ c. StandsFor new (read_unless c e bytes).1) (sym is) d.stands)

by_off : (new : EndpointState) (result : DatagramRead) (e : EndpointHistory) (bytes : List ℕ) (off : Bool) → is_off e.announced.settings e.peer.settings ≡ off → Does new result (unless_off off e bytes)
    → Does new result (read_unless None e bytes)
by_off new result e bytes off is d =
    record {
      answer = d.answer ∙ ap (λ b. (unless_off b e bytes).0) (sym is);
      stands = subst (λ b. StandsFor new (unless_off b e bytes).1) (sym is) d.stands;
    }

by_quarter : (new : EndpointState) (result : DatagramRead) (e : EndpointHistory) (bytes : List ℕ) (read : Option (ℕ × List ℕ)) → datagram_of bytes ≡ read → Does new result (quarter_read e bytes read)
    → Does new result (unless_off false e bytes)
by_quarter new result e bytes read is d =
    record {
      answer = d.answer ∙ ap (λ r. (quarter_read e bytes r).0) (sym is);
      stands = subst (λ r. StandsFor new (quarter_read e bytes r).1) (sym is) d.stands;
    }

pub was_closed : (s : EndpointState) (bytes : List ℕ) (code : ℕ) → s.closed ≡ Some code → ReadsDatagram s s bytes (Fault code)
was_closed s bytes code is = λ e h. by_closed s (Fault code) e bytes (Some code) (sym h.closed ∙ is) (record { answer = refl; stands = h })

pub was_off : (s : EndpointState) (bytes : List ℕ) → s.closed ≡ None → is_off s.announced.settings s.peer.settings ≡ true → ReadsDatagram s s bytes Off
was_off s bytes none off = λ e h.
    by_closed s Off e bytes None (sym h.closed ∙ none) (by_off s Off e bytes true (sym (off_is s e h) ∙ off) (record { answer = refl; stands = h }))

pub was_malformed : (s : EndpointState) (bytes : List ℕ) → s.closed ≡ None → is_off s.announced.settings s.peer.settings ≡ false → datagram_of bytes ≡ None
    → ReadsDatagram s (record s { closed = Some datagram_error }) bytes (Fault datagram_error)
was_malformed s bytes none on malformed = λ e h.
    let new : EndpointState = record s { closed = Some datagram_error } in
    by_closed new (Fault datagram_error) e bytes None (sym h.closed ∙ none) (by_off new (Fault datagram_error) e bytes false (sym (off_is s e h) ∙ on)
    (by_quarter new (Fault datagram_error) e bytes None malformed (record { answer = refl; stands = stands_closed s e datagram_error h })))

pub was_read : (s : EndpointState) (bytes payload : List ℕ) (number id from : ℕ) (result : DatagramRead) → s.closed ≡ None → is_off s.announced.settings s.peer.settings ≡ false
    → datagram_of bytes ≡ Some (number, payload) → id ≡ number → from ≡ length bytes - length payload
    → result ≡ datagram_at s.kept s.peer.settings id from (option_map (λ (r : RequestState). r.incoming) (kept_at s.requests id))
    → ReadsDatagram s s bytes result
was_read s bytes payload number id from result none on read same place is = λ e h.
    let there : result ≡ datagram_at e.kept e.peer.settings number (length bytes - length payload) (stream_at e.incoming number) = is ∙ at_is s e id from h
    ∙ ap (λ i. datagram_at e.kept e.peer.settings i from (stream_at e.incoming i)) same ∙ ap (λ n. datagram_at e.kept e.peer.settings number n (stream_at e.incoming number)) place in
    by_closed s result e bytes None (sym h.closed ∙ none) (by_off s result e bytes false (sym (off_is s e h) ∙ on)
    (by_quarter s result e bytes (Some (number, payload)) read (record { answer = there; stands = h })))

-- What is written in front of a payload reads back.
request_of : (id : ℕ) (closed : Option ℕ) (asked on : Bool) (sending : Option Bool) (head : List ℕ) → unless_refused (refusal_by closed asked on sending) (head_bytes id) ≡ Ok head
    → (asked ≡ true) × (head ≡ head_bytes id)
request_of id (Some code) asked on sending head is = absurd (cc)
request_of id None false on sending head is = absurd (cc)
request_of id None true false sending head is = absurd (cc)
request_of id None true true None head is = absurd (cc)
request_of id None true true (Some false) head is = absurd (cc)
request_of id None true true (Some true) head is = (refl, cc)

pub is_for : (r : EndpointHistory) (id : ℕ) (payload : List ℕ) → datagram_of (head_bytes id ++ payload) ≡ Some (id, payload) → TakesDatagrams r id
    → read_datagram r (head_bytes id ++ payload) ≡ (For id (length (head_bytes id)), r)
is_for r id payload read takes =
    let bytes = head_bytes id ++ payload in
    let from = length bytes - length payload in
    let on : is_off r.announced.settings r.peer.settings ≡ false = ap (λ b. not b || peer_has_none r.peer.settings) takes.own ∙ ap peer_has_none takes.came ∙ ap not takes.theirs in
    let place : from ≡ length (head_bytes id) = omega (arith, length-append (head_bytes id) payload) in
    ap (λ closed. read_unless closed r bytes) takes.closed
    ∙ ap (λ off. unless_off off r bytes) on
    ∙ ap (quarter_read r bytes) read
    ∙ ap (λ there. let answer : DatagramRead × EndpointHistory = (datagram_at r.kept r.peer.settings id from there, r) in answer) takes.there
    ∙ ap (λ late. let answer : DatagramRead × EndpointHistory = ((if late then Late else if_known r.peer.settings id from), r) in answer) takes.receives
    ∙ ap (λ known. let answer : DatagramRead × EndpointHistory = (if_known known id from, r) in answer) takes.came
    ∙ ap (λ n. let answer : DatagramRead × EndpointHistory = (For id n, r) in answer) place

pub read_back : (s r : EndpointHistory) (id : ℕ) (head payload : List ℕ) → ((i : ℕ) (p : List ℕ) → i < 2 ^ 62 → i % 4 ≡ 0 → datagram_of (head_bytes i ++ p) ≡ Some (i, p))
    → id < 2 ^ 62 → datagram_head s id ≡ Ok head → TakesDatagrams r id → read_datagram r (head ++ payload) ≡ (For id (length head), r)
read_back s r id head payload law below given takes =
    let parts = request_of id s.closed (is_request_stream id) (announces s.announced.settings && peer_announces (settings_known s.announced s.peer.settings)) (option_map is_unended (stream_at s.outgoing id)) head given in
    let back = is_for r id payload (law id payload below (eqb-true (id % 4) 0 parts.0)) takes in
    subst (λ h. read_datagram r (h ++ payload) ≡ (For id (length h), r)) (sym parts.1) back
