-- `send_priority`: what it does to what is stored is what its contract says.
use Rattle.std.proofs.Common.{◌≡◌, ℕ, Bool, true, false, [], ◌∷◌, ◌++◌, length, Option, Some, None, Ok, Err, refl, ap, sym, subst, ◌∙◌}
use Rattle.std.specs.Prelude.{◌≢◌, not, is_some, option_map, unwrap_or}
use Rattle.h3_priority.specs.Priority.{PriorityParameters}
use Rattle.h3_proto.specs.StreamIds.{is_request_stream}
use Rattle.h3_proto.specs.declared.stream.Side.{Side}
use Rattle.h3_proto.specs.declared.stream.Side.TheVariants.{Client, Server}
use Rattle.h3_connection.specs.Endpoint.{EndpointHistory}
use Rattle.h3_connection.specs.Incoming.{nothing_came}
use Rattle.h3_connection.specs.OwnUpdates.{OwnUpdate, update_encoding}
use Rattle.h3_connection.specs.Prioritizing.{send_priority_refusal, takes_no_response, SendsPriority}
use Rattle.h3_connection.specs.Pulling.{is_client}
use Rattle.h3_connection.specs.Refusals.{first_of}
use Rattle.h3_connection.specs.Sending.{closed_or, is_open}
use Rattle.h3_connection.specs.State.{EndpointState, OwnState, RequestState, StandsFor, kept_at}
use Rattle.h3_connection.specs.declared.event.Refusal.{Refusal}
use Rattle.h3_connection.specs.declared.event.Refusal.TheVariants as refusal
use Rattle.h3_session.proofs.OrderingCalls.{there_same}
use Rattle.h3_session.proofs.SendingCalls.{acts, refuses}
use Rattle.h3_session.proofs.SendingStands.{update_stands_for}
use Rattle.h3_session.specs.Prioritized.{send_refused}
use Rattle.h3_session.specs.Refused.{streams_of}
use Rattle.h3_streams.specs.Placed.{StreamsState, placed}

-- why it is refused
abbrev refused_by : Option ℕ → Side → Bool → Bool → Bool → Option Refusal
refused_by closed side is_request is_there has_come =
    closed_or closed (first_of (
    (not (is_client side), refusal.NotClient) ∷ (not is_request, refusal.NotRequestId) ∷ (not is_there, refusal.NotOpen) ∷ (has_come, refusal.Ended) ∷ []))

abbrev has_come_in : Option RequestState → Bool
has_come_in there = unwrap_or (option_map (λ r. takes_no_response r.incoming) there) false

come_same : (there : Option RequestState) → has_come_in there ≡ takes_no_response (unwrap_or (option_map (λ r. r.incoming) there) nothing_came)
come_same None = refl
come_same (Some r) = refl

send_refused_is : (s : EndpointState) (e : EndpointHistory) (id : ℕ) → StandsFor s e → send_refused s id ≡ send_priority_refusal e id
send_refused_is s e id h =
    let there : Bool = is_some (kept_at s.requests id) in
    ap (λ c. refused_by c s.side (is_request_stream id) there (has_come_in (kept_at s.requests id))) h.closed
    ∙ ap (λ side. refused_by e.closed side (is_request_stream id) there (has_come_in (kept_at s.requests id))) h.side
    ∙ ap (λ b. refused_by e.closed e.side (is_request_stream id) b (has_come_in (kept_at s.requests id))) (there_same s e id h)
    ∙ ap (λ b. refused_by e.closed e.side (is_request_stream id) (is_open e id) b)
    (come_same (kept_at s.requests id) ∙ ap (λ i. takes_no_response (unwrap_or i nothing_came)) (h.incoming id))

-- the update that is written
abbrev update_of : EndpointHistory → ℕ → PriorityParameters → OwnUpdate
update_of e id p = record { behind = length e.own.goaways; id = id; priority = p }

abbrev after_update : ℕ → PriorityParameters → EndpointHistory → EndpointHistory
after_update id p e = record e { own = record e.own { updates = e.own.updates ++ update_of e id p ∷ [] } }

rule_first : (closed : Option ℕ) (side : Side) (is_request is_there has_come : Bool) (r : Refusal) → refused_by closed side is_request is_there has_come ≡ Some r → r ≢ refusal.OutOfMemory
rule_first (Some code) side is_request is_there has_come r is memory = absurd (cc)
rule_first None Server is_request is_there has_come r is memory = absurd (cc)
rule_first None Client false is_there has_come r is memory = absurd (cc)
rule_first None Client true false has_come r is memory = absurd (cc)
rule_first None Client true true true r is memory = absurd (cc)
rule_first None Client true true false r is memory = absurd (cc)

pub update_refused : (s : EndpointState) (id : ℕ) (p : PriorityParameters) (r : Refusal) → send_refused s id ≡ Some r → SendsPriority s s id p (Err r)
update_refused s id p r is =
    refuses (λ e. send_priority_refusal e id) (after_update id p) s r (λ e h. sym (send_refused_is s e id h) ∙ is)
    (rule_first s.closed s.side (is_request_stream id) (is_some (kept_at s.requests id)) (has_come_in (kept_at s.requests id)) r is)

-- How many GOAWAY frames stand before it changes no byte of it.
abbrev written : EndpointState → ℕ → PriorityParameters → OwnState
written s id p = record s.own { control = s.own.control ++ update_encoding (record { behind = 0; id = id; priority = p }) }

update_sent_here : (s : EndpointState) (id : ℕ) (p : PriorityParameters) → send_refused s id ≡ None → SendsPriority s (record s { own = written s id p }) id p (Ok tt)
update_sent_here s id p is =
    acts (λ e. send_priority_refusal e id) (after_update id p) s (record s { own = written s id p })
    (λ e h. sym (send_refused_is s e id h) ∙ is) (λ e h. update_stands_for s e (update_of e id p) refl h)

pub update_sent : (s now : EndpointState) (x : StreamsState) (id : ℕ) (p : PriorityParameters) → s ≡ now → send_refused now id ≡ None
    → ((behind : ℕ) → x ≡ record (streams_of s) { own = record s.own { control = s.own.control ++ update_encoding (record { behind = behind; id = id; priority = p }) } })
    → SendsPriority now (placed s x) id p (Ok tt)
update_sent s now x id p view is same =
    subst (λ v. SendsPriority now v id p (Ok tt)) (sym (ap (placed s) (same 0) ∙ ap (λ (v : EndpointState). record v { own = written v id p }) view)) (update_sent_here now id p is)

-- What is written on the control stream changes that alone.
pub written_there : (x now : StreamsState) (own : OwnState) (id : ℕ) (p : PriorityParameters) → x ≡ now
    → ((behind : ℕ) → own ≡ record x.own { control = x.own.control ++ update_encoding (record { behind = behind; id = id; priority = p }) })
    → (behind : ℕ) → record x { own = own } ≡ record now { own = record now.own { control = now.own.control ++ update_encoding (record { behind = behind; id = id; priority = p }) } }
written_there x now own id p view same behind =
    ap (λ (o : OwnState). record x { own = o }) (same behind)
    ∙ ap (λ (y : StreamsState). record y { own = record y.own { control = y.own.control ++ update_encoding (record { behind = behind; id = id; priority = p }) } }) view
