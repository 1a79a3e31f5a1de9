-- Two ends over a schedule: no more streams of either wait for insertions than it announced.
use Rattle.std.proofs.Common.{◌≡◌, ℕ, ◌≤◌, Bool, true, false, if◌then◌else◌, List, [], ◌∷◌, refl, sym, ap, subst, arith, Option, Some, None}
use Rattle.std.specs.Prelude.{◌==◌, ◌&&◌, not, nat_lt, take}
use Rattle.h3_proto.specs.declared.stream.Side.{Side}
use Rattle.h3_proto.specs.declared.stream.Side.TheVariants.{Client, Server}
use Rattle.h3_field.specs.Field.{Field}
use Rattle.h3_header.specs.Reads.{head_of_fields}
use Rattle.h3_connection.specs.Bounds.{IsBounded, OfStream, TriesTwice, WaitsOnce}
use Rattle.h3_connection.specs.CallLists.{Call, Result, called, endpoint_after}
use Rattle.h3_connection.specs.CallLists as list
use Rattle.h3_connection.specs.CallLists.Call.{Advance, Cancel, Finish, Goaway, OpenRequest, Reset, SendBody, SendHead, SendTrailer}
use Rattle.h3_connection.specs.CallLists.Result.{Done, Opened}
use Rattle.h3_connection.specs.Control.{Found}
use Rattle.h3_connection.specs.Endpoint.{EndpointHistory, bytes_waiting, new_endpoint}
use Rattle.h3_connection.specs.Incoming.{Incoming, having_told}
use Rattle.h3_connection.specs.Keeping.{arrives, keeping, pulls, read_all, read_arrival, unkept, unless_faulty}
use Rattle.h3_connection.specs.OwnIds.{other}
use Rattle.h3_connection.specs.PartReading.{Goes, ReadsPart, ReadsWhole, Stops}
use Rattle.h3_connection.specs.Sections.{written_section}
use Rattle.h3_connection.specs.Sending as sender
use Rattle.h3_connection.specs.Sending.{telling_at}
use Rattle.h3_connection.specs.StreamSets.{Streams, set_stream, stream_at}
use Rattle.h3_connection.specs.Shown.{has_outgoing, is_finished, is_reset, waiting}
use Rattle.h3_connection.specs.declared.arrival.Arrival.{Arrival}
use Rattle.h3_connection.specs.declared.arrival.Arrival.TheVariants.{BytesCame, EndCame, ResetCame}
use Rattle.h3_connection.specs.declared.event.Pull.{Pull}
use Rattle.h3_connection.specs.declared.event.Refusal.{Refusal}
use Rattle.h3_connection.specs.declared.setup.Announced.{Announced}
use Rattle.h3_world.specs.Delivering.{reset_code}
use Rattle.h3_world.specs.EndLists.{after_trailer_fields, fields_refusal, send_fields, send_trailer_fields, trailer_fields_refusal}
use Rattle.h3_world.specs.Ends.{Ends, answered, done, end_at, new_ends, was_listed, was_offered, was_pulled, with_end}
use Rattle.h3_headline.specs.MovesLaws.{set_at}
use Rattle.h3_world.specs.declared.event.Answer.{Answer}
use Rattle.h3_world.specs.declared.event.Answer.TheVariants as answer
use Rattle.h3_world.specs.declared.event.Event.{Event}
use Rattle.h3_world.specs.declared.event.Event.TheVariants as event
use Rattle.h3_world.specs.Setup.{Setup}
use Rattle.h3_strict.proofs.PlainStreams.{count_set, waits_at}
use Rattle.h3_strict.specs.PlainEnds.{AreBounded, FewWaitAt, FewWaitBehind}

-- what is cited of one endpoint
abbrev pub LawOfCalls : Type 0
LawOfCalls = (e : EndpointHistory) (c : Call) → IsBounded e → IsBounded (called e c).1

abbrev pub LawOfArrivals : Type 0
LawOfArrivals = (e : EndpointHistory) (a : Arrival) → IsBounded e → IsBounded (arrives e a).1

abbrev pub LawOfPulls : Type 0
LawOfPulls = (e : EndpointHistory) (id : ℕ) → IsBounded e → IsBounded (pulls e id).1

abbrev pub LawOfParts : Type 0
LawOfParts = (e after : EndpointHistory) (arrivals : List Arrival) → IsBounded e → ReadsPart e arrivals after → IsBounded after

-- a call's answer does not matter
list_done : (success : Result) (x : Option Refusal × EndpointHistory) → IsBounded (list.done success x).1 → IsBounded x.1
list_done success (None, e) h = h
list_done success (Some r, e) h = h

at : (ends : Ends) (side : Side) → AreBounded ends → IsBounded (end_at ends side)
at ends Client h = h.client
at ends Server h = h.server

sets : (ends : Ends) (side : Side) (e : EndpointHistory) → AreBounded ends → IsBounded e → AreBounded (with_end ends side e)
sets ends Client e h k = record { client = k; server = h.server }
sets ends Server e h k = record { client = h.client; server = k }

done_sets : (ends : Ends) (side : Side) (success : Answer) (x : Option Refusal × EndpointHistory) → AreBounded ends → IsBounded x.1 → AreBounded (done ends side success x).1
done_sets ends side success (None, e) h k = sets ends side e h k
done_sets ends side success (Some r, e) h k = sets ends side e h k

pulled_sets : (ends : Ends) (side : Side) (x : Pull × EndpointHistory) → AreBounded ends → IsBounded x.1 → AreBounded (was_pulled ends side x).1
pulled_sets ends side (p, e) h k = sets ends side e h k

listed_sets : (ends : Ends) (side : Side) (id : ℕ) (x : Pull × EndpointHistory) → AreBounded ends → IsBounded x.1 → AreBounded (was_listed ends side id x).1
listed_sets ends side id (p, e) h k = sets ends side e h k

-- What a list leaves of an endpoint: one that asks for strict messages goes by its own head.
abbrev with_streams : EndpointHistory → Streams Incoming → EndpointHistory
with_streams e l = record e { incoming = l }

told_bounds : (e : EndpointHistory) (id : ℕ) (fields : List Field) (o : Option Incoming) → stream_at e.incoming id ≡ o → IsBounded e → IsBounded (with_streams e (telling_at e.side e.incoming id fields o))
told_bounds e id fields None is h = h
told_bounds e id fields (Some i) is h =
    let less : (having_told e.side i fields).waits_for ≤ waits_at (stream_at e.incoming id) = subst (λ o. i.waits_for ≤ waits_at o) (sym is) (omega arith) in
    record {
      tries = λ j. set_bounds TriesTwice j (subst (OfStream TriesTwice) is (h.tries id)) (h.tries j);
      once = λ open_still j. set_bounds WaitsOnce j (subst (OfStream WaitsOnce) is (h.once open_still id)) (h.once open_still j);
      waiting = omega (arith, count_set e.decoding.decoder.table.inserted e.incoming id (having_told e.side i fields) less, h.waiting);
    }
  where
    by_test : (P : Incoming → Type 0) (b : Bool) (j : ℕ) → P (having_told e.side i fields) → OfStream P (stream_at e.incoming j) → OfStream P (if b then Some (having_told e.side i fields) else stream_at e.incoming j)
    by_test P true j here there = here
    by_test P false j here there = there

    set_bounds : (P : Incoming → Type 0) (j : ℕ) → P (having_told e.side i fields) → OfStream P (stream_at e.incoming j) → OfStream P (stream_at (set_stream e.incoming id (having_told e.side i fields)) j)
    set_bounds P j here there = subst (OfStream P) (sym (set_at e.incoming id j (having_told e.side i fields))) (by_test P (id == j) j here there)

asked_bounds : (e : EndpointHistory) (id : ℕ) (fields : List Field) → IsBounded e → IsBounded (sender.asked e id fields)
asked_bounds e id fields h = again (by_choice e.announced.choices.strict_messages)
  where
    by_choice : (b : Bool) → IsBounded (with_streams e (if b then telling_at e.side e.incoming id fields (stream_at e.incoming id) else e.incoming))
    by_choice true = told_bounds e id fields (stream_at e.incoming id) refl h
    by_choice false = h

    again : IsBounded (with_streams e (sender.asked e id fields).incoming) → IsBounded (sender.asked e id fields)
    again k = record { tries = k.tries; once = k.once; waiting = k.waiting }

done_bounds : (r : Option Refusal) (e f : EndpointHistory) → IsBounded e → IsBounded f → IsBounded (sender.does r e f).1
done_bounds None e f h k = k
done_bounds (Some r) e f h k = h

fields_bounds : (e : EndpointHistory) (id : ℕ) (fields : List Field) → IsBounded e → IsBounded (send_fields e id fields).1
fields_bounds e id fields h =
    let sent : EndpointHistory = sender.counted (sender.appended (sender.encoded e id fields) id (sender.head_part (head_of_fields fields) (written_section e.encoder id fields))) (sender.fields_cost fields) in
    done_bounds (fields_refusal e id fields) e (sender.asked sent id fields) h (asked_bounds sent id fields (record { tries = h.tries; once = h.once; waiting = h.waiting }))

trailer_fields_bounds : (e : EndpointHistory) (id : ℕ) (fields : List Field) → IsBounded e → IsBounded (send_trailer_fields e id fields).1
trailer_fields_bounds e id fields h = done_bounds (trailer_fields_refusal e id fields) e (after_trailer_fields e id fields) h (record { tries = h.tries; once = h.once; waiting = h.waiting })

tested : (b c : Bool) (x y z : Answer × Ends) → AreBounded x.1 → AreBounded y.1 → AreBounded z.1 → AreBounded (if b then x else (if c then y else z)).1
tested true c x y z h k l = h
tested false true x y z h k l = k
tested false false x y z h k l = l

module _ (by_call : LawOfCalls) (by_arrival : LawOfArrivals) (by_pull : LawOfPulls) where
  calls : (ends : Ends) (side : Side) (success : Answer) (told : Result) (x : EndpointHistory → Option Refusal × EndpointHistory) → AreBounded ends
      → ((e : EndpointHistory) → IsBounded e → IsBounded (list.done told (x e)).1) → AreBounded (done ends side success (x (end_at ends side))).1
  calls ends side success told x h each = done_sets ends side success (x (end_at ends side)) h (list_done told (x (end_at ends side)) (each (end_at ends side) (at ends side h)))

  offered : (ends : Ends) (writer : Side) (id count : ℕ) (x : Option Refusal × EndpointHistory) → AreBounded ends → IsBounded x.1 → AreBounded (was_offered ends writer id count x).1
  offered ends writer id count (None, e) h k =
      sets (with_end ends writer (sender.advance (end_at ends writer) id count)) (other writer) e
      (sets ends writer (sender.advance (end_at ends writer) id count) h (by_call (end_at ends writer) (Advance id count) (at ends writer h))) k
  offered ends writer id count (Some r, e) h k = sets ends (other writer) e h k

  closes : (ends : Ends) (writer : Side) (a : Arrival) → AreBounded ends → AreBounded (done ends (other writer) answer.Done (arrives (end_at ends (other writer)) a)).1
  closes ends writer a h =
      done_sets ends (other writer) answer.Done (arrives (end_at ends (other writer)) a) h (by_arrival (end_at ends (other writer)) a (at ends (other writer) h))

  pub keeps_bounds : (ends : Ends) (e : Event) → AreBounded ends → AreBounded (answered ends e).1
  keeps_bounds ends (event.OpenRequest side) h =
      let e = end_at ends side in
      done_sets ends side (answer.Opened e.next_id) (sender.open_request e) h (list_done (Opened e.next_id) (sender.open_request e) (by_call e OpenRequest (at ends side h)))
  keeps_bounds ends (event.Head side id head) h = calls ends side answer.Done Done (λ e. sender.send_head e id head) h (λ e k. by_call e (SendHead id head) k)
  keeps_bounds ends (event.Fields side id fields) h = done_sets ends side answer.Done (send_fields (end_at ends side) id fields) h (fields_bounds (end_at ends side) id fields (at ends side h))
  keeps_bounds ends (event.Body side id bytes) h = calls ends side answer.Done Done (λ e. sender.send_body e id bytes) h (λ e k. by_call e (SendBody id bytes) k)
  keeps_bounds ends (event.Trailer side id trailer) h = calls ends side answer.Done Done (λ e. sender.send_trailer e id trailer) h (λ e k. by_call e (SendTrailer id trailer) k)
  keeps_bounds ends (event.TrailerFields side id fields) h = done_sets ends side answer.Done (send_trailer_fields (end_at ends side) id fields) h (trailer_fields_bounds (end_at ends side) id fields (at ends side h))
  keeps_bounds ends (event.Finish side id) h = calls ends side answer.Done Done (λ e. sender.finish e id) h (λ e k. by_call e (Finish id) k)
  keeps_bounds ends (event.Reset side id) h = calls ends side answer.Done Done (λ e. sender.reset e id) h (λ e k. by_call e (Reset id) k)
  keeps_bounds ends (event.Cancel side id) h = calls ends side answer.Done Done (λ e. sender.cancel e id) h (λ e k. by_call e (Cancel id) k)
  keeps_bounds ends (event.Goaway side id) h = calls ends side answer.Done Done (λ e. sender.goaway e id) h (λ e k. by_call e (Goaway id) k)
  keeps_bounds ends (event.Deliver side id count) h =
      let e = end_at ends side in
      let came : Arrival = BytesCame id (take count (bytes_waiting e id)) in
      let reader = end_at ends (other side) in
      tested (not (has_outgoing e id)) (nat_lt (waiting e id) count) _ _ _ h h (offered ends side id count (arrives reader came) h (by_arrival reader came (at ends (other side) h)))
  keeps_bounds ends (event.DeliverEnd side id) h =
      let e = end_at ends side in
      tested (not (has_outgoing e id)) (not (is_finished e id && (waiting e id == 0))) _ _ _ h h (closes ends side (EndCame id) h)
  keeps_bounds ends (event.DeliverReset side id) h =
      let e = end_at ends side in
      tested (not (has_outgoing e id)) (not (is_reset e id)) _ _ _ h h (closes ends side (ResetCame id reset_code) h)
  keeps_bounds ends (event.Pull side id) h = pulled_sets ends side (pulls (end_at ends side) id) h (by_pull (end_at ends side) id (at ends side h))
  keeps_bounds ends (event.PullFields side id) h = listed_sets ends side id (pulls (end_at ends side) id) h (by_pull (end_at ends side) id (at ends side h))
  keeps_bounds ends (event.Show side) h = h

no_fault : (code : ℕ) → ◌≡◌ {A = Option ℕ} (Some code) None → ⊥
no_fault code is = cc

-- What an end keeps is read whole, or some of it is a fault.
first_read : (a : Arrival) (arrivals : List Arrival) (e f : EndpointHistory) (x : Found) → read_arrival e a ≡ x → unless_faulty (read_all arrivals) x ≡ (f, None)
    → ((g : EndpointHistory) → read_all arrivals g ≡ (f, None) → ReadsPart g arrivals (keeping f [])) → ReadsPart e (a ∷ arrivals) (keeping f [])
first_read a arrivals e f (g, Some code) first is go = absurd (no_fault code (ap (λ (x : Found). x.1) is))
first_read a arrivals e f (g, None) first is go = Goes (ReadsWhole first) (go g is)

whole : (arrivals : List Arrival) (e f : EndpointHistory) → read_all arrivals e ≡ (f, None) → ReadsPart e arrivals (keeping f [])
whole [] e f is = subst (λ g. ReadsPart e [] (keeping g [])) (ap (λ (x : Found). x.0) is) Stops
whole (a ∷ arrivals) e f is = first_read a arrivals e f (read_arrival e a) refl is (λ g read. whole arrivals g f read)

module _ (by_part : LawOfParts) where
  few_behind : (e : EndpointHistory) → IsBounded e → FewWaitBehind e
  few_behind e h = λ f is. (by_part (unkept e) (keeping f []) e.kept (record { tries = h.tries; once = h.once; waiting = h.waiting }) (whole e.kept (unkept e) f is)).waiting

  pub few_wait : (ends : Ends) → AreBounded ends → FewWaitAt ends
  few_wait ends h = λ side. few_behind (end_at ends side) (at ends side h)

-- new ones
abbrev pub LawOfLists : Type 0
LawOfLists = (side : Side) (own : Announced) (calls : List Call) → IsBounded (endpoint_after (new_endpoint side own) calls)

pub new_bounds : LawOfLists → (setup : Setup) → AreBounded (new_ends setup)
new_bounds law setup = record { client = law Client setup.client []; server = law Server setup.server [] }
