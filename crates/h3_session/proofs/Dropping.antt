-- What came on a stream of a session is given up.
use Rattle.std.proofs.Common.{◌≡◌, ℕ, Bool, true, false, Option, Some, None, refl, sym, ap, ◌∙◌, Ok, Err}
use Rattle.h3_connection.specs.Control.{Found}
use Rattle.h3_connection.specs.Delivering.{reset_at, unidirectional_at, with_unidirectional}
use Rattle.h3_connection.specs.Endpoint.{EndpointHistory}
use Rattle.h3_connection.specs.Endpoint.Kind.{PeerUnidirectional}
use Rattle.h3_connection.specs.Keeping.{settles}
use Rattle.h3_connection.specs.Sending.{closed_or, does}
use Rattle.h3_connection.specs.State.{EndpointState, StandsFor}
use Rattle.h3_connection.specs.Unidirectional.{reset_with}
use Rattle.h3_connection.specs.declared.event.Refusal.{Refusal}
use Rattle.h3_connection.specs.declared.event.Refusal.TheVariants as refusal
use Rattle.h3_unidirectional.specs.declared.stream.Kind.{Kind}
use Rattle.h3_session.specs.Beside.{DropsSession, drop_refusal, drop_rules, is_of_session}
use Rattle.h3_session.specs.PeerKinds.{ShowsStreamKind, stream_kind}
use Rattle.h3_session.specs.Reading.{Finds}
use Rattle.h3_session.proofs.SendingCalls.{was_done, was_refused}

-- why nothing is given up: behind a fault of the connection,
pub closed_refuses : (s : EndpointState) (id code : ℕ) → s.closed ≡ Some code → (e : EndpointHistory) → StandsFor s e → Some (refusal.Closed code) ≡ drop_refusal e id
closed_refuses s id code is e h = sym (ap (λ c. closed_or c (drop_rules (is_of_session (stream_kind e id)) (settles e id))) (sym h.closed ∙ is))

-- and by the rules
pub rules_refuse : (s : EndpointState) (id : ℕ) (kind : Option Kind) (is_there is_over : Bool) (result : Option Refusal) → s.closed ≡ None → ShowsStreamKind s id kind
    → is_there ≡ is_of_session kind → ((e : EndpointHistory) → StandsFor s e → is_over ≡ settles e id) → result ≡ drop_rules is_there is_over
    → (e : EndpointHistory) → StandsFor s e → result ≡ drop_refusal e id
rules_refuse s id kind is_there is_over result no_fault shows there over is e h =
    is ∙ ap (λ b. drop_rules b is_over) (there ∙ ap is_of_session (shows e h)) ∙ ap (drop_rules (is_of_session (stream_kind e id))) (over e h)
    ∙ sym (ap (λ c. closed_or c (drop_rules (is_of_session (stream_kind e id)) (settles e id))) (sym h.closed ∙ no_fault))

-- want of memory is none of them
rules_take_none : (is_there is_over : Bool) → drop_rules is_there is_over ≡ Some refusal.OutOfMemory → ⊥
rules_take_none true true is = absurd (cc)
rules_take_none true false is = absurd (cc)
rules_take_none false is_over is = absurd (cc)

takes_none : (closed : Option ℕ) (is_there is_over : Bool) → closed_or closed (drop_rules is_there is_over) ≡ Some refusal.OutOfMemory → ⊥
takes_none (Some code) is_there is_over is = absurd (cc)
takes_none None is_there is_over is = rules_take_none is_there is_over is

abbrev dropped : EndpointHistory → ℕ → ℕ → EndpointHistory
dropped e id code = with_unidirectional e id (reset_with (unidirectional_at e id) code)

-- it is refused,
pub drops_not : (s : EndpointState) (id code : ℕ) (r : Refusal) → ((e : EndpointHistory) → StandsFor s e → Some r ≡ drop_refusal e id) → DropsSession s s id code (Err r)
drops_not s id code r is =
    record {
      done = λ e h not_memory. was_refused e (dropped e id code) s (drop_refusal e id) r (sym (is e h)) h;
      memory = λ e h memory. absurd (takes_none e.closed (is_of_session (stream_kind e id)) (settles e id) (sym (is e h) ∙ memory));
    }

-- or lacks memory,
pub drops_lacking : (s new : EndpointState) (id code : ℕ) → ((e : EndpointHistory) → StandsFor s e → None ≡ drop_refusal e id) → ((e : EndpointHistory) → StandsFor s e → StandsFor new e)
    → DropsSession s new id code (Err refusal.OutOfMemory)
drops_lacking s new id code is stands =
    record {
      done = λ e h not_memory. absurd (not_memory refl);
      memory = λ e h memory. (ap (λ r. (does r e (dropped e id code)).0) (sym (is e h)), stands e h);
    }

pub drops_later : (s : EndpointState) (id code : ℕ) → ((e : EndpointHistory) → StandsFor s e → None ≡ drop_refusal e id) → DropsSession s s id code (Err refusal.OutOfMemory)
drops_later s id code is = drops_lacking s s id code is (λ e h. h)

stands_by : (new : EndpointState) (fault : Option ℕ) (found : Found) → Finds fault new found → StandsFor new found.0
stands_by new fault (f, code) h = h.1

-- or all is dropped
pub drops_all : (s new : EndpointState) (id code : ℕ) (fault : Option ℕ) → ((e : EndpointHistory) → StandsFor s e → None ≡ drop_refusal e id)
    → ((e : EndpointHistory) → StandsFor s e → Finds fault new (reset_at e id code PeerUnidirectional)) → DropsSession s new id code (Ok tt)
drops_all s new id code fault is finds =
    record {
      done = λ e h not_memory. was_done e (dropped e id code) new (drop_refusal e id) (sym (is e h)) (stands_by new fault (reset_at e id code PeerUnidirectional) (finds e h));
      memory = λ e h memory. absurd (cc);
    }
