-- Priorities that are said, and `hold`: what they do to what is stored is what their contracts say.
use Rattle.std.proofs.Common.{◌≡◌, ℕ, Bool, true, false, if◌then◌else◌, ◌||◌, [], ◌∷◌, Option, Some, None, Ok, Err, refl, ap, sym, subst, ◌∙◌}
use Rattle.std.specs.Prelude.{◌≢◌, ◌==◌, not, IfErr, IfSome, IsSome, OnOk, OnErr, Result, is_some, option_map}
use Rattle.h3_outgoing.specs.Sent.{preceding}
use Rattle.h3_priority.specs.Priority.{PriorityParameters}
use Rattle.h3_proto.specs.StreamIds.{is_request_stream}
use Rattle.h3_proto.specs.declared.stream.Side.{Side}
use Rattle.h3_connection.specs.Answers.{call_refused}
use Rattle.h3_connection.specs.ByPriority.{held, hold, hold_at, hold_refusal, prioritized, priority_refusal, set_priority, Holds, SetsPriority}
use Rattle.h3_connection.specs.Calls.{AllSame, Sets}
use Rattle.h3_connection.specs.Endpoint.{EndpointHistory}
use Rattle.h3_connection.specs.Order.{gives_way, own_held, rounds_begun}
use Rattle.h3_connection.specs.Outgoing.{Outgoing}
use Rattle.h3_connection.specs.OwnIds.{control_id, encoder_id, decoder_id, is_own}
use Rattle.h3_connection.specs.Prioritizing.{said, saying, set_initial_priority, SetsInitialPriority}
use Rattle.h3_connection.specs.Refusals.{first_of}
use Rattle.h3_connection.specs.Sending.{closed_or, does, is_open, outgoing_at, with_outgoing}
use Rattle.h3_connection.specs.SendingContracts.{DoesOrRefuses}
use Rattle.h3_connection.specs.State.{EndpointState, RequestState, OutgoingState, StandsFor, IsOfOutgoing, SameAt, kept_at}
use Rattle.h3_connection.specs.StandsLaws.{stands_sending}
use Rattle.h3_connection.specs.StreamSets.{Streams, stream_at}
use Rattle.h3_connection.specs.declared.event.Refusal.{Refusal}
use Rattle.h3_connection.specs.declared.event.Refusal.TheVariants as refusal
use Rattle.h3_connection.specs.declared.order.Precedence.{Precedence}
use Rattle.h3_connection.specs.declared.order.PrioritySource.{PrioritySource}
use Rattle.h3_connection.specs.declared.order.PrioritySource.TheVariants.{Unsaid, Field, Update, Own}
use Rattle.h3_connection.specs.declared.order.SendOrder.{SendOrder}
use Rattle.h3_requests.specs.Ordered.{refused_unless}
use Rattle.h3_requests.specs.Ordered as stored
use Rattle.h3_session.proofs.Ordering.{stands_order}
use Rattle.h3_session.proofs.SendingCalls.{acts, alike, lacks, refuses, sends}
use Rattle.h3_session.proofs.Taking.{found, not_found}
use Rattle.h3_session.specs.Prioritized.{judged_in, said_if_open, ChangesTurns, IsSaid}

-- A stream is open in the history where it is stored.
same_there : (o : Option Outgoing) (r : Option RequestState) → SameAt IsOfOutgoing o (option_map (λ r. r.outgoing) r) → is_some r ≡ is_some o
same_there None None h = refl
same_there (Some o) (Some r) h = refl
same_there None (Some r) h = absurd h
same_there (Some o) None h = absurd h

pub there_same : (s : EndpointState) (e : EndpointHistory) (id : ℕ) → StandsFor s e → is_some (kept_at s.requests id) ≡ is_open e id
there_same s e id h = same_there (stream_at e.outgoing id) (kept_at s.requests id) (h.outgoing id)

some_there : {X : Type 0} (o : Option X) → is_some o ≡ true → o ≢ None
some_there None is none = absurd (cc)
some_there (Some x) is none = absurd (cc)

-- Somebody says a priority
abbrev unless_open : Bool → Option Refusal
unless_open is_there = first_of ((not is_there, refusal.NotOpen) ∷ [])

open_is : (s : EndpointState) (e : EndpointHistory) (id : ℕ) (there : Bool) → StandsFor s e → is_some (kept_at s.requests id) ≡ there → unless_open (is_open e id) ≡ unless_open there
open_is s e id there h was = ap unless_open (sym (there_same s e id h) ∙ was)

said_lacks : (s : EndpointState) (id : ℕ) (source : PrioritySource) (p : PriorityParameters) (there : Bool) → is_some (kept_at s.requests id) ≡ there
    → IsSaid s s id source p (Err (refused_unless there))
said_lacks s id source p true was = lacks (λ e. unless_open (is_open e id)) (λ e. saying e id source p) s (λ e h. open_is s e id true h was)
said_lacks s id source p false was =
    refuses (λ e. unless_open (is_open e id)) (λ e. saying e id source p) s refusal.NotOpen (λ e h. open_is s e id false h was) (λ memory. absurd (cc))

pub said_refused : (s n : EndpointState) (id : ℕ) (source : PrioritySource) (p : PriorityParameters) (r : Refusal) → n ≡ record s { requests = n.requests }
    → r ≡ refused_unless (is_some (kept_at s.requests id)) → AllSame s.requests n.requests → IsSaid s n id source p (Err r)
said_refused s n id source p r rest why same =
    subst (λ v. IsSaid s v id source p (Err r)) (sym rest)
    (subst (λ x. IsSaid s (record s { requests = n.requests }) id source p (Err x)) (sym why)
    (alike (λ e. said_if_open e id source p) s n.requests (refused_unless (is_some (kept_at s.requests id))) same
    (said_lacks s id source p (is_some (kept_at s.requests id)) refl)))

-- the sender's part with another priority, if that counts
abbrev precedence_said : Bool → PrioritySource → PriorityParameters → Precedence → Precedence
precedence_said counts source p there = if counts then record there { priority = p; source = source } else there

gives_if : (counts : Bool) (source : PrioritySource) (p : PriorityParameters) (o : Outgoing) (w : OutgoingState) → IsOfOutgoing o w
    → IsOfOutgoing (if counts then record o { precedence = record o.precedence { priority = p; source = source } } else o) (preceding (precedence_said counts source p w.precedence) w)
gives_if true source p o w h =
    record {
      pieces = h.pieces;
      place = h.place;
      content = h.content;
      is_finished = h.is_finished;
      is_reset = h.is_reset;
      end_taken = h.end_taken;
      precedence = ap (λ (q : Precedence). record q { priority = p; source = source }) h.precedence;
      taken = h.taken;
    }
gives_if false source p o w h = h

gives_priority : (source : PrioritySource) (p : PriorityParameters) (o : Outgoing) (w : OutgoingState) → IsOfOutgoing o w
    → IsOfOutgoing (said source p o) (preceding (stored.saying w.precedence source p) w)
gives_priority source p o w h =
    subst (λ counts. IsOfOutgoing (said source p o) (preceding (precedence_said counts source p w.precedence) w)) (ap (λ (q : Precedence). gives_way q.source source) (sym h.precedence))
    (gives_if (gives_way o.precedence.source source) source p o w h)

said_stands : (s : EndpointState) (new : Streams RequestState) (id : ℕ) (source : PrioritySource) (p : PriorityParameters) → is_some (kept_at s.requests id) ≡ true
    → IfSome (kept_at s.requests id) (λ r. Sets s.requests new id (record r { outgoing = preceding (stored.saying r.outgoing.precedence source p) r.outgoing }))
    → (e : EndpointHistory) → StandsFor s e → StandsFor (record s { requests = new; order = record s.order { rounds = rounds_begun s.order.rounds } }) (saying e id source p)
said_stands s new id source p there sets e h =
    let changed : EndpointHistory = with_outgoing e id (said source p (outgoing_at e id)) in
    let stands : StandsFor (record s { requests = new }) changed
    = sends s new id (λ w. preceding (stored.saying w.precedence source p) w) (said source p) (kept_at s.requests id) (gives_priority source p) refl (some_there (kept_at s.requests id) there) sets e h in
    subst (λ o. StandsFor (record s { requests = new; order = record o { rounds = rounds_begun o.rounds } }) (saying e id source p)) (sym h.order)
    (stands_order (record s { requests = new }) changed (record e.order { rounds = rounds_begun e.order.rounds }) stands)

pub said_now : (s n m : EndpointState) (id : ℕ) (source : PrioritySource) (p : PriorityParameters) → n ≡ record s { requests = n.requests } → IsSome (kept_at s.requests id)
    → IfSome (kept_at s.requests id) (λ r. Sets s.requests n.requests id (record r { outgoing = preceding (stored.saying r.outgoing.precedence source p) r.outgoing }))
    → m ≡ record n { order = record n.order { rounds = rounds_begun n.order.rounds } } → IsSaid s m id source p (Ok tt)
said_now s n m id source p rest some sets begun =
    let there : is_some (kept_at s.requests id) ≡ true = some in
    let now : EndpointState = record s { requests = n.requests; order = record s.order { rounds = rounds_begun s.order.rounds } } in
    let same : m ≡ now = begun ∙ ap (λ (v : EndpointState). record v { order = record v.order { rounds = rounds_begun v.order.rounds } }) rest in
    subst (λ v. IsSaid s v id source p (Ok tt)) (sym same)
    (acts (λ e. unless_open (is_open e id)) (λ e. saying e id source p) s now (λ e h. open_is s e id true h there) (said_stands s n.requests id source p there sets))

-- and nothing else has changed
pub changes_requests : (s n : EndpointState) → n ≡ record s { requests = n.requests } → ChangesTurns s n
changes_requests s n rest = rest ∙ ap (λ o. record s { requests = n.requests; order = o }) (sym (ap (λ (v : EndpointState). v.order) rest))

pub changes_turns : (s n m : EndpointState) (order : SendOrder) → n ≡ record s { requests = n.requests } → m ≡ record n { order = order } → ChangesTurns s m
changes_turns s n m order rest begun =
    begun ∙ ap (λ (v : EndpointState). record v { order = order }) rest
    ∙ ap (λ r. record s { requests = r; order = order }) (sym (ap (λ (v : EndpointState). v.requests) begun))
    ∙ ap (λ o. record s { requests = m.requests; order = o }) (sym (ap (λ (v : EndpointState). v.order) begun))

-- `set_priority` and `set_initial_priority`: a rule comes first, whatever is stored of the stream
abbrev unless_request : Bool → Bool → Option Refusal
unless_request is_request is_there = first_of ((not is_request, refusal.NotRequestId) ∷ (not is_there, refusal.NotOpen) ∷ [])

abbrev judged : Option ℕ → Bool → Option Refusal
judged closed is_request = closed_or closed (first_of ((not is_request, refusal.NotRequestId) ∷ []))

judged_well : (closed : Option ℕ) (is_request there : Bool) → judged closed is_request ≡ None → closed_or closed (unless_request is_request there) ≡ unless_open there
judged_well None true there is = refl
judged_well None false there is = absurd (cc)
judged_well (Some code) is_request there is = absurd (cc)

judged_before : (closed : Option ℕ) (is_request there : Bool) (r : Refusal) → judged closed is_request ≡ Some r → closed_or closed (unless_request is_request there) ≡ Some r
judged_before None true there r is = absurd (cc)
judged_before None false there r is = is
judged_before (Some code) is_request there r is = is

judged_by_rule : (closed : Option ℕ) (is_request : Bool) (r : Refusal) → judged closed is_request ≡ Some r → r ≢ refusal.OutOfMemory
judged_by_rule None true r is memory = absurd (cc)
judged_by_rule None false r is memory = absurd (cc)
judged_by_rule (Some code) is_request r is memory = absurd (cc)

refusal_in : (s : EndpointState) (e : EndpointHistory) (id : ℕ) → StandsFor s e → priority_refusal e id ≡ closed_or s.closed (unless_request (is_request_stream id) (is_open e id))
refusal_in s e id h = ap (λ c. closed_or c (unless_request (is_request_stream id) (is_open e id))) (sym h.closed)

rule_refuses : (after : EndpointHistory → EndpointHistory) (s : EndpointState) (id : ℕ) (r : Refusal) → judged_in s id ≡ Some r
    → DoesOrRefuses (λ e. does (priority_refusal e id) e (after e)) s s (Some r)
rule_refuses after s id r is =
    refuses (λ e. priority_refusal e id) after s r (λ e h. refusal_in s e id h ∙ judged_before s.closed (is_request_stream id) (is_open e id) r is)
    (judged_by_rule s.closed (is_request_stream id) r is)

-- Two acts are the same for all that is stood for.
acts_alike : (one other : EndpointHistory → Option Refusal × EndpointHistory) (s n : EndpointState) (r : Option Refusal) → ((e : EndpointHistory) → StandsFor s e → one e ≡ other e)
    → DoesOrRefuses one s n r → DoesOrRefuses other s n r
acts_alike one other s n r same h =
    record {
      done = λ e stands not_memory. subst (λ (a : Option Refusal × EndpointHistory). (r ≡ a.0) × StandsFor n a.1) (same e stands) (h.done e stands not_memory);
      same = h.same;
      memory = λ e stands memory. ap (λ (a : Option Refusal × EndpointHistory). a.0) (sym (same e stands)) ∙ h.memory e stands memory;
    }

said_is : (s : EndpointState) (e : EndpointHistory) (id : ℕ) (source : PrioritySource) (p : PriorityParameters) → judged_in s id ≡ None → StandsFor s e
    → said_if_open e id source p ≡ does (priority_refusal e id) e (saying e id source p)
said_is s e id source p well h =
    ap (λ r. does r e (saying e id source p)) (sym (refusal_in s e id h ∙ judged_well s.closed (is_request_stream id) (is_open e id) well))

-- What the endpoint says itself counts, whatever was said.
own_counts : (there : PrioritySource) → gives_way there Own ≡ true
own_counts Unsaid = refl
own_counts Field = refl
own_counts Update = refl
own_counts Own = refl

own_said : (e : EndpointHistory) (id : ℕ) (p : PriorityParameters) → does (priority_refusal e id) e (saying e id Own p) ≡ set_priority e id p
own_said e id p =
    let o : Outgoing = outgoing_at e id in
    ap (λ counts. does (priority_refusal e id) e (record (with_outgoing e id (if counts then prioritized p o else o)) { order = record e.order { rounds = rounds_begun e.order.rounds } }))
    (own_counts o.precedence.source)

pub priority_judged : (s : EndpointState) (id : ℕ) (p : PriorityParameters) (r : Refusal) → judged_in s id ≡ Some r → SetsPriority s s id p (Err r)
priority_judged s id p r is =
    rule_refuses (λ e. record (with_outgoing e id (prioritized p (outgoing_at e id))) { order = record e.order { rounds = rounds_begun e.order.rounds } }) s id r is

pub priority_said : (s n : EndpointState) (id : ℕ) (p : PriorityParameters) (result : Result Unit Refusal) → judged_in s id ≡ None → IsSaid s n id Own p result → SetsPriority s n id p result
priority_said s n id p result well is =
    acts_alike (λ e. said_if_open e id Own p) (λ e. set_priority e id p) s n (call_refused result) (λ e h. said_is s e id Own p well h ∙ own_said e id p) is

pub initial_judged : (s : EndpointState) (id : ℕ) (p : PriorityParameters) (r : Refusal) → judged_in s id ≡ Some r → SetsInitialPriority s s id p (Err r)
initial_judged s id p r is = rule_refuses (λ e. saying e id Field p) s id r is

pub initial_said : (s n : EndpointState) (id : ℕ) (p : PriorityParameters) (result : Result Unit Refusal) → judged_in s id ≡ None → IsSaid s n id Field p result
    → SetsInitialPriority s n id p result
initial_said s n id p result well is =
    acts_alike (λ e. said_if_open e id Field p) (λ e. set_initial_priority e id p) s n (call_refused result) (λ e h. said_is s e id Field p well h) is

-- `hold`
abbrev after_hold : ℕ → Bool → EndpointHistory → EndpointHistory
after_hold id is e = hold_at e id is (stream_at e.outgoing id)

abbrev unless_there : Bool → Bool → Option Refusal
unless_there is_own is_there = first_of ((not (is_own || is_there), refusal.NotOpen) ∷ [])

abbrev hold_refused : EndpointState → ℕ → Option Refusal
hold_refused s id = closed_or s.closed (unless_there (is_own s.side id) (is_some (kept_at s.requests id)))

hold_refusal_is : (s : EndpointState) (e : EndpointHistory) (id : ℕ) → StandsFor s e → hold_refused s id ≡ hold_refusal e id
hold_refusal_is s e id h =
    ap (λ c. closed_or c (unless_there (is_own s.side id) (is_some (kept_at s.requests id)))) h.closed
    ∙ ap (λ side. closed_or e.closed (unless_there (is_own side id) (is_some (kept_at s.requests id)))) h.side
    ∙ ap (λ b. closed_or e.closed (unless_there (is_own e.side id) b)) (there_same s e id h)

hold_of : (s : EndpointState) (id : ℕ) (own there : Bool) → s.closed ≡ None → is_own s.side id ≡ own → is_some (kept_at s.requests id) ≡ there → hold_refused s id ≡ unless_there own there
hold_of s id own there closed is was =
    ap (λ c. closed_or c (unless_there (is_own s.side id) (is_some (kept_at s.requests id)))) closed
    ∙ ap (λ b. unless_there b (is_some (kept_at s.requests id))) is
    ∙ ap (unless_there own) was

either : (own : Bool) → unless_there own true ≡ None
either true = refl
either false = refl

-- of a request stream that is there
hold_there : (s : EndpointState) (id : ℕ) → s.closed ≡ None → is_some (kept_at s.requests id) ≡ true → hold_refused s id ≡ None
hold_there s id closed was = hold_of s id (is_own s.side id) true closed refl was ∙ either (is_own s.side id)

hold_refuses : (s : EndpointState) (id : ℕ) (is : Bool) (r : Refusal) → hold_refused s id ≡ Some r → r ≢ refusal.OutOfMemory → Holds s s id is (Err r)
hold_refuses s id is r refused is_rule = refuses (λ e. hold_refusal e id) (after_hold id is) s r (λ e h. sym (hold_refusal_is s e id h) ∙ refused) is_rule

pub hold_closed : (s : EndpointState) (id code : ℕ) (is : Bool) → s.closed ≡ Some code → Holds s s id is (Err (refusal.Closed code))
hold_closed s id code is closed =
    hold_refuses s id is (refusal.Closed code) (ap (λ c. closed_or c (unless_there (is_own s.side id) (is_some (kept_at s.requests id)))) closed) (λ memory. absurd (cc))

-- the sender's part of a stream that is held, or not any longer
is_held_now : (is : Bool) (o : Outgoing) (w : OutgoingState) → IsOfOutgoing o w → IsOfOutgoing (held is o) (preceding (record w.precedence { is_held = is }) w)
is_held_now is o w h =
    record {
      pieces = h.pieces;
      place = h.place;
      content = h.content;
      is_finished = h.is_finished;
      is_reset = h.is_reset;
      end_taken = h.end_taken;
      precedence = ap (λ (q : Precedence). record q { is_held = is }) h.precedence;
      taken = h.taken;
    }

request_held : (s : EndpointState) (new : Streams RequestState) (id : ℕ) (is : Bool) (r : RequestState) → kept_at s.requests id ≡ Some r
    → Sets s.requests new id (record r { outgoing = preceding (record r.outgoing.precedence { is_held = is }) r.outgoing })
    → (e : EndpointHistory) → StandsFor s e → StandsFor (record s { requests = new }) (after_hold id is e)
request_held s new id is r was sets e h =
    let f = found s e id r.outgoing h (ap (option_map (λ r. r.outgoing)) was) in
    let now : RequestState = record r { outgoing = preceding (record r.outgoing.precedence { is_held = is }) r.outgoing } in
    subst (λ there. StandsFor (record s { requests = new }) (hold_at e id is there)) (sym f.there)
    (stands_sending s e new id r now (held is f.o) h was refl (is_held_now is f.o r.outgoing f.is) sets)

held_by : (s : EndpointState) (new : Streams RequestState) (id : ℕ) (is : Bool) (there : Option RequestState) → kept_at s.requests id ≡ there → is_some there ≡ true
    → IfSome there (λ r. Sets s.requests new id (record r { outgoing = preceding (record r.outgoing.precedence { is_held = is }) r.outgoing }))
    → (e : EndpointHistory) → StandsFor s e → StandsFor (record s { requests = new }) (after_hold id is e)
held_by s new id is None was some sets e h = absurd (cc)
held_by s new id is (Some r) was some sets e h = request_held s new id is r was sets e h

-- The answer of a request stream that is there.
held_answer : (s : EndpointState) (new : Streams RequestState) (id : ℕ) (is : Bool) (result : Result Unit Refusal) → s.closed ≡ None → is_some (kept_at s.requests id) ≡ true
    → OnOk result (IfSome (kept_at s.requests id) (λ r. Sets s.requests new id (record r { outgoing = preceding (record r.outgoing.precedence { is_held = is }) r.outgoing })))
    → IfErr result (λ r. r ≡ refused_unless (is_some (kept_at s.requests id))) → OnErr result (AllSame s.requests new) → Holds s (record s { requests = new }) id is result
held_answer s new id is (Ok tt) closed there sets why same =
    acts (λ e. hold_refusal e id) (after_hold id is) s (record s { requests = new })
    (λ e h. sym (hold_refusal_is s e id h) ∙ hold_there s id closed there)
    (held_by s new id is (kept_at s.requests id) refl there sets)
held_answer s new id is (Err r) closed there sets why same =
    subst (λ x. Holds s (record s { requests = new }) id is (Err x)) (sym (why ∙ ap refused_unless there))
    (alike (λ e. hold e id is) s new refusal.OutOfMemory same
    (lacks (λ e. hold_refusal e id) (after_hold id is) s (λ e h. sym (hold_refusal_is s e id h) ∙ hold_there s id closed there)))

pub holds_request : (s n : EndpointState) (id : ℕ) (is : Bool) (result : Result Unit Refusal) → s.closed ≡ None → is_some (kept_at s.requests id) ≡ true → n ≡ record s { requests = n.requests }
    → OnOk result (IfSome (kept_at s.requests id) (λ r. Sets s.requests n.requests id (record r { outgoing = preceding (record r.outgoing.precedence { is_held = is }) r.outgoing })))
    → IfErr result (λ r. r ≡ refused_unless (is_some (kept_at s.requests id))) → OnErr result (AllSame s.requests n.requests) → Holds s n id is result
holds_request s n id is result closed there rest sets why same = subst (λ v. Holds s v id is result) (sym rest) (held_answer s n.requests id is result closed there sets why same)

-- an own stream, where no request stream has this id
absent : {X : Type 0} (o : Option X) → is_some o ≡ false → o ≡ None
absent None none = refl
absent (Some x) none = absurd (cc)

own_stands : (s : EndpointState) (id : ℕ) (is : Bool) → is_some (kept_at s.requests id) ≡ false → (e : EndpointHistory) → StandsFor s e
    → StandsFor (record s { order = own_held s.order s.side id is }) (after_hold id is e)
own_stands s id is none e h =
    let none_there : stream_at e.outgoing id ≡ None = not_found s e id h (ap (option_map (λ r. r.outgoing)) (absent (kept_at s.requests id) none)) in
    let same : own_held s.order s.side id is ≡ own_held e.order e.side id is = ap (λ o. own_held o s.side id is) h.order ∙ ap (λ side. own_held e.order side id is) h.side in
    subst (λ there. StandsFor (record s { order = own_held s.order s.side id is }) (hold_at e id is there)) (sym none_there)
    (subst (λ o. StandsFor (record s { order = o }) (hold_at e id is None)) (sym same) (stands_order s e (own_held e.order e.side id is) h))

pub holds_own : (s n : EndpointState) (id : ℕ) (is : Bool) → s.closed ≡ None → is_some (kept_at s.requests id) ≡ false → is_own s.side id ≡ true
    → n ≡ record s { order = own_held s.order s.side id is } → Holds s n id is (Ok tt)
holds_own s n id is closed none own rest =
    subst (λ v. Holds s v id is (Ok tt)) (sym rest)
    (acts (λ e. hold_refusal e id) (after_hold id is) s (record s { order = own_held s.order s.side id is })
    (λ e h. sym (hold_refusal_is s e id h) ∙ hold_of s id true false closed own none)
    (own_stands s id is none))

-- and any other one
unheld : (a b c : Bool) (x y z order : SendOrder) → (a || b || c) ≡ false → (if a then x else (if b then y else (if c then z else order))) ≡ order
unheld true b c x y z order is = absurd (cc)
unheld false true c x y z order is = absurd (cc)
unheld false false true x y z order is = absurd (cc)
unheld false false false x y z order is = refl

not_own : (order : SendOrder) (side : Side) (id : ℕ) (is : Bool) → is_own side id ≡ false → own_held order side id is ≡ order
not_own order side id is other =
    unheld (id == control_id side) (id == encoder_id side) (id == decoder_id side) (record order { control_is_held = is }) (record order { encoder_is_held = is })
    (record order { decoder_is_held = is }) order other

pub holds_none : (s n : EndpointState) (id : ℕ) (is : Bool) → s.closed ≡ None → is_some (kept_at s.requests id) ≡ false → is_own s.side id ≡ false
    → n ≡ record s { order = own_held s.order s.side id is } → Holds s n id is (Err refusal.NotOpen)
holds_none s n id is closed none other rest =
    let same : n ≡ s = rest ∙ ap (λ o. record s { order = o }) (not_own s.order s.side id is other) in
    subst (λ v. Holds s v id is (Err refusal.NotOpen)) (sym same)
    (hold_refuses s id is refusal.NotOpen (hold_of s id false false closed other none) (λ memory. absurd (cc)))
