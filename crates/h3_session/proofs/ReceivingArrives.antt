-- What a delivery answers and leaves, by how far it came.
use Rattle.std.proofs.Common.{◌≡◌, ℕ, Bool, true, false, List, [], ◌∷◌, ◌++◌, Option, Some, None, refl, ap, sym, subst, ◌∙◌}
use Rattle.std.specs.Prelude.{◌≢◌, IsSome, All, Ok, Err, option_map}
use Rattle.std.proofs.lemmas.List.Elements.{All-nil, All-cons, All-append}
use Rattle.h3_connection.specs.Arrivals.{stream_of, is_closed_in}
use Rattle.h3_connection.specs.Calls.{IsSame}
use Rattle.h3_connection.specs.Control.{Found}
use Rattle.h3_connection.specs.Delivering.{delivery_refusal, taken, closed_by}
use Rattle.h3_connection.specs.Endpoint.{EndpointHistory, kind_of}
use Rattle.h3_connection.specs.Endpoint.Kind.{Request}
use Rattle.h3_connection.specs.Keeping.{read_arrival, read_all, unless_faulty, unkept, refused_behind, arrival_refusal, arrives, arrives_behind}
use Rattle.h3_connection.specs.ReceivingContracts.{Receives, IsTaken, bytes_of}
use Rattle.h3_connection.specs.State.{EndpointState, StandsFor, KeepsOpen, kept_at}
use Rattle.h3_connection.specs.declared.arrival.Arrival.{Arrival}
use Rattle.h3_connection.specs.declared.event.DeliverError.TheVariants as deliver_error
use Rattle.h3_connection.specs.declared.event.Refusal.{Refusal}
use Rattle.h3_connection.specs.declared.event.Refusal.TheVariants as refusal
use Rattle.h3_session.specs.Arriving.{IsAccepted, IsReceived}
use Rattle.h3_session.proofs.Opened.{stands_keeping, stands_closed}
use Rattle.h3_session.specs.Changes.{ChangesRequests}
use Rattle.h3_session.specs.Reading.{Finds, ReadsWholly, KeepsRest}
use Rattle.h3_session.proofs.ReceivingCancel.{nothing_changed}
use Rattle.h3_session.proofs.ReceivingRequests.{reads_request}
use Rattle.h3_session.proofs.ReceivingReading.{found_none, finds_by}

-- what is not refused behind what is kept is not refused
accepted_first : (b : Bool) (r : Option Refusal) → refused_behind b r ≡ None → r ≡ None
accepted_first b None h = refl
accepted_first b (Some r) h = cc

unless_found : (found : Found) → unless_faulty (read_all []) found ≡ found
unless_found (e, None) = refl
unless_found (e, Some code) = refl

taken_by : (closed : Option ℕ) (refused : Option Refusal) (e : EndpointHistory) (found : Found) → closed ≡ None → refused ≡ None → taken closed refused e found ≡ closed_by found
taken_by None None e found c r = refl
taken_by (Some code) refused e found c r = cc
taken_by None (Some r) e found c h = cc

alone : (e : EndpointHistory) (a : Arrival) → e.kept ≡ [] → read_arrival e a ≡ read_all (a ∷ []) (unkept e)
alone e a none = ap (λ k. read_arrival (record e { kept = k }) a) none ∙ sym (unless_found (read_arrival (unkept e) a))

-- What is taken is read behind all that is kept.
arrives_as : (kept : List Arrival) (e : EndpointHistory) (a : Arrival) → e.kept ≡ kept → IsTaken e (stream_of a) → arrives_behind kept e a ≡ closed_by (read_all (kept ++ a ∷ []) (unkept e))
arrives_as [] e a is t =
    taken_by e.closed (delivery_refusal e (stream_of a)) e (read_arrival e a) t.open_still (accepted_first (is_closed_in e.kept (stream_of a)) (delivery_refusal e (stream_of a)) t.accepted)
    ∙ ap closed_by (alone e a is)
arrives_as (k ∷ kept) e a is t = taken_by e.closed (arrival_refusal e (stream_of a)) e (read_all (k ∷ kept ++ a ∷ []) (unkept e)) t.open_still t.accepted

pub arrives_is : (e : EndpointHistory) (a : Arrival) → IsTaken e (stream_of a) → arrives e a ≡ closed_by (read_all (e.kept ++ a ∷ []) (unkept e))
arrives_is e a t = arrives_as e.kept e a refl t

-- what is kept, and this behind it, is on open streams
open_kept : (s : EndpointState) (e : EndpointHistory) (a : Arrival) → StandsFor s e → (kind_of s.side (stream_of a) ≡ Request → IsSome (kept_at s.requests (stream_of a)))
    → All (KeepsOpen e.side e.incoming) (s.kept ++ a ∷ [])
open_kept s e a h there =
    let last : KeepsOpen e.side e.incoming a = λ is. subst IsSome (h.incoming (stream_of a)) (some_mapped (λ r. r.incoming) (kept_at s.requests (stream_of a)) (there (ap (λ side. kind_of side (stream_of a)) h.side ∙ is))) in
    All-append (KeepsOpen e.side e.incoming) s.kept (a ∷ []) (subst (All (KeepsOpen e.side e.incoming)) (sym h.kept) h.reached.kept)
    (All-cons (KeepsOpen e.side e.incoming) a [] last (All-nil (KeepsOpen e.side e.incoming)))
  where
    some_mapped : {X Y : Type 0} (f : X → Y) (o : Option X) → IsSome o → IsSome (option_map f o)
    some_mapped f None h = cc
    some_mapped f (Some x) h = refl

unkept_stands : (s : EndpointState) (e : EndpointHistory) → StandsFor s e → StandsFor (record s { kept = [] }) (unkept e)
unkept_stands s e h = stands_keeping s e [] h (All-nil (KeepsOpen e.side e.incoming))

-- What reading finds that begins where this stands.
abbrev pub ReadsFrom : EndpointState → List Arrival → Option ℕ → EndpointState → Type 0
ReadsFrom s all fault new = (e : EndpointHistory) → StandsFor s e → All (KeepsOpen e.side e.incoming) all → Finds fault new (read_all all e)

read_from : (s new : EndpointState) (a : Arrival) (fault : Option ℕ) (e : EndpointHistory) → IsAccepted s a → ReadsFrom (record s { kept = [] }) (s.kept ++ a ∷ []) fault new → StandsFor s e
    → Finds fault new (read_all (e.kept ++ a ∷ []) (unkept e))
read_from s new a fault e t reads h =
    subst (λ k. Finds fault new (read_all (k ++ a ∷ []) (unkept e))) h.kept (reads (unkept e) (unkept_stands s e h) (open_kept s e a h t.there))

all_was_read : (s new : EndpointState) (a : Arrival) → IsAccepted s a → ReadsFrom (record s { kept = [] }) (s.kept ++ a ∷ []) None new → Receives s new a (Ok tt)
all_was_read s new a t reads = record {
  done = λ e h memory.
      let found = read_from s new a None e t reads h in
      let is = arrives_is e a (t.taken e h) ∙ ap closed_by (found_none new None (read_all (e.kept ++ a ∷ []) (unkept e)) found) in
      rw is (refl, finds_by new None (read_all (e.kept ++ a ∷ []) (unkept e)) found);
  same = λ r is. cc;
  back = λ handed is. cc;
  refused = λ e handed h is. cc;
  kept = λ e h is. cc;
  some_kept = λ is. cc;
}

-- It was taken, and all was read.
read_taken : (s s0 new : EndpointState) (all : List Arrival) (a : Arrival) (fault : Option ℕ) → s0 ≡ record s { kept = [] } → all ≡ s.kept ++ a ∷ [] → ReadsFrom s0 all fault new → ReadsFrom (record s { kept = [] }) (s.kept ++ a ∷ []) fault new
read_taken s s0 new all a fault empty is reads = subst (λ k. ReadsFrom k (s.kept ++ a ∷ []) fault new) empty (subst (λ l. ReadsFrom s0 l fault new) is reads)

pub took_all : (s s0 new : EndpointState) (all : List Arrival) (a : Arrival) → IsAccepted s a → s0 ≡ record s { kept = [] } → all ≡ s.kept ++ a ∷ [] → ReadsFrom s0 all None new → Receives s new a (Ok tt)
took_all s s0 new all a t empty is reads = all_was_read s new a t (read_taken s s0 new all a None empty is reads)

-- It was taken, and reading found a fault.
fault_was_read : (s new : EndpointState) (a : Arrival) (code : ℕ) → IsAccepted s a → ReadsFrom (record s { kept = [] }) (s.kept ++ a ∷ []) (Some code) new
    → Receives s (record new { closed = Some code }) a (Err (deliver_error.Refused (refusal.Connection code)))
fault_was_read s new a code t reads = record {
  done = λ e h memory.
      let found = read_from s new a (Some code) e t reads h in
      let is = arrives_is e a (t.taken e h) ∙ ap closed_by (found_none new (Some code) (read_all (e.kept ++ a ∷ []) (unkept e)) found) in
      rw is (refl, stands_closed new (read_all (e.kept ++ a ∷ []) (unkept e)).0 code (finds_by new (Some code) (read_all (e.kept ++ a ∷ []) (unkept e)) found));
  same = λ r is closed. let wrong : Some code ≡ None = closed ∙ t.closed in cc;
  back = λ handed is. cc;
  refused = λ e handed h is. cc;
  kept = λ e h is. cc;
  some_kept = λ is. cc;
}

pub took_fault : (s s0 new : EndpointState) (all : List Arrival) (a : Arrival) (code : ℕ) → IsAccepted s a → s0 ≡ record s { kept = [] } → all ≡ s.kept ++ a ∷ [] → ReadsFrom s0 all (Some code) new
    → Receives s (record new { closed = Some code }) a (Err (deliver_error.Refused (refusal.Connection code)))
took_fault s s0 new all a code t empty is reads = fault_was_read s new a code t (read_taken s s0 new all a (Some code) empty is reads)

-- It was taken, and memory was refused in reading.
abbrev pub KeepsFrom : EndpointState → List Arrival → EndpointState → Type 0
KeepsFrom s all new = (e : EndpointHistory) → StandsFor s e → All (KeepsOpen e.side e.incoming) all → KeepsRest e all new

part_was_read : (s new : EndpointState) (a : Arrival) → IsAccepted s a → KeepsFrom (record s { kept = [] }) (s.kept ++ a ∷ []) new → new.kept ≢ [] → Receives s new a (Err deliver_error.Kept)
part_was_read s new a t reads some = record {
  done = λ e h memory. cc;
  same = λ r is. cc;
  back = λ handed is. cc;
  refused = λ e handed h is. cc;
  kept = λ e h is.
      let rest : KeepsRest (unkept e) (e.kept ++ a ∷ []) new = subst (λ k. KeepsRest (unkept e) (k ++ a ∷ []) new) h.kept (reads (unkept e) (unkept_stands s e h) (open_kept s e a h t.there)) in
      (t.taken e h, record { after = rest.after; read = rest.read; stands = rest.stands });
  some_kept = λ is. some;
}

pub took_part : (s s0 new : EndpointState) (all : List Arrival) (a : Arrival) → IsAccepted s a → s0 ≡ record s { kept = [] } → all ≡ s.kept ++ a ∷ [] → KeepsFrom s0 all new → new.kept ≢ [] → Receives s new a (Err deliver_error.Kept)
took_part s s0 new all a t empty is reads some =
    part_was_read s new a t (subst (λ k. KeepsFrom k (s.kept ++ a ∷ []) new) empty (subst (λ l. KeepsFrom s0 l new) is reads)) some

-- It could not be stored.
pub took_none : (s new : EndpointState) (a : Arrival) → ((e : EndpointHistory) → StandsFor s e → IsTaken e (stream_of a)) → IsSame s new → Receives s new a (Err (deliver_error.OutOfMemory (bytes_of a)))
took_none s new a taken same = record {
  done = λ e h memory. cc;
  same = λ r is. cc;
  back = λ handed is. let there : handed ≡ bytes_of a = cc in (there, same);
  refused = λ e handed h is. taken e h;
  kept = λ e h is. cc;
  some_kept = λ is. cc;
}

-- With nothing kept, it was read at once.
pub took_once : (s new : EndpointState) (a : Arrival) → s.kept ≡ [] → ((e : EndpointHistory) → StandsFor s e → IsTaken e (stream_of a)) → ((e : EndpointHistory) → StandsFor s e → ReadsWholly e a None new)
    → Receives s new a (Ok tt)
took_once s new a none taken reads = record {
  done = λ e h memory.
      let found = (reads e h).finds in
      let kept : e.kept ≡ [] = sym h.kept ∙ none in
      let is = arrives_is e a (taken e h) ∙ ap (λ k. closed_by (read_all (k ++ a ∷ []) (unkept e))) kept ∙ ap closed_by (sym (alone e a kept) ∙ found_none new None (read_arrival e a) found) in
      rw is (refl, finds_by new None (read_arrival e a) found);
  same = λ r is. cc;
  back = λ handed is. cc;
  refused = λ e handed h is. cc;
  kept = λ e h is. cc;
  some_kept = λ is. cc;
}

pub received_once : (s new : EndpointState) (a : Arrival) → s.kept ≡ [] → kind_of s.side (stream_of a) ≡ Request → ((e : EndpointHistory) → StandsFor s e → IsTaken e (stream_of a)) → ChangesRequests s new
    → IsReceived a s.requests new.requests s.own.decoder new.own.decoder → Receives s new a (Ok tt)
received_once s new a none kind taken rest got = took_once s new a none taken (λ e h. reads_request s new e a h kind rest got)

-- It was refused.
pub refused_as : (kept : List Arrival) (e : EndpointHistory) (a : Arrival) (r : Refusal) → e.kept ≡ kept → e.closed ≡ None → arrival_refusal e (stream_of a) ≡ Some r → arrives_behind kept e a ≡ (Some r, e)
refused_as [] e a r none open_still is =
    let first : delivery_refusal e (stream_of a) ≡ Some r = plainly (is_closed_in e.kept (stream_of a)) (delivery_refusal e (stream_of a)) r (ap (λ k. is_closed_in k (stream_of a)) none) is in
    ap (λ c. taken c (delivery_refusal e (stream_of a)) e (read_arrival e a)) open_still ∙ ap (λ o. taken None o e (read_arrival e a)) first
  where
    plainly : (b : Bool) (o : Option Refusal) (r : Refusal) → b ≡ false → refused_behind b o ≡ Some r → o ≡ Some r
    plainly b (Some x) r h is = is
    plainly false None r h is = cc
    plainly true None r h is = cc
refused_as (k ∷ kept) e a r some open_still is =
    let found = read_all (k ∷ kept ++ a ∷ []) (unkept e) in
    ap (λ c. taken c (arrival_refusal e (stream_of a)) e found) open_still ∙ ap (λ o. taken None o e found) is

closed_as : (kept : List Arrival) (e : EndpointHistory) (a : Arrival) (code : ℕ) → e.closed ≡ Some code → arrives_behind kept e a ≡ (Some (refusal.Connection code), e)
closed_as [] e a code is = ap (λ c. taken c (delivery_refusal e (stream_of a)) e (read_arrival e a)) is
closed_as (k ∷ kept) e a code is = ap (λ c. taken c (arrival_refusal e (stream_of a)) e (read_all (k ∷ kept ++ a ∷ []) (unkept e))) is

refuses : (s : EndpointState) (a : Arrival) (r : Refusal) → ((e : EndpointHistory) → StandsFor s e → arrives e a ≡ (Some r, e)) → Receives s s a (Err (deliver_error.Refused r))
refuses s a r is = record {
  done = λ e h memory. rw (is e h) (refl, h);
  same = λ q same closed. nothing_changed s;
  back = λ handed same. cc;
  refused = λ e handed h same. cc;
  kept = λ e h same. cc;
  some_kept = λ same. cc;
}

pub was_closed : (s : EndpointState) (a : Arrival) (code : ℕ) → s.closed ≡ Some code → Receives s s a (Err (deliver_error.Refused (refusal.Connection code)))
was_closed s a code is = refuses s a (refusal.Connection code) (λ e h. closed_as e.kept e a code (sym h.closed ∙ is))

pub was_refused : (s : EndpointState) (a : Arrival) (r : Refusal) (id : ℕ) → s.closed ≡ None → id ≡ stream_of a → ((e : EndpointHistory) → StandsFor s e → Some r ≡ arrival_refusal e id) → Receives s s a (Err (deliver_error.Refused r))
was_refused s a r id open_still same is = refuses s a r (λ e h. refused_as e.kept e a r refl (sym h.closed ∙ open_still) (sym (is e h ∙ ap (arrival_refusal e) same)))

-- what is not refused is taken
pub is_taken : (s : EndpointState) (id : ℕ) → s.closed ≡ None → ((e : EndpointHistory) → StandsFor s e → None ≡ arrival_refusal e id) → (e : EndpointHistory) → StandsFor s e → IsTaken e id
is_taken s id open_still is e h = record { open_still = sym h.closed ∙ open_still; accepted = sym (is e h) }
