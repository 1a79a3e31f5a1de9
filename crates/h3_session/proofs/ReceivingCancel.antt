-- A cancellation by what is stored is that of every history that this stands for.
use Rattle.std.proofs.Common.{◌≡◌, ℕ, Bool, true, false, List, [], ◌∷◌, Option, Some, None, refl, ap, sym, subst, ◌∙◌}
use Rattle.std.specs.Prelude.{◌≢◌, OnOk, OnErr, IfErr, Result, IsSome, ◌||◌, is_some, unwrap_or, Ok, Err}
use Rattle.h3_connection.specs.Calls.{IsSame, AllSame}
use Rattle.h3_connection.specs.Delivering.{give_up, given_up_once, cancellation, incoming_at, with_incoming}
use Rattle.h3_connection.specs.Endpoint.{EndpointHistory, is_critical_id}
use Rattle.h3_connection.specs.Incoming.{nothing_came}
use Rattle.h3_connection.specs.Refusals.{first_of, needed, refusal_to_stop, stopped}
use Rattle.h3_connection.specs.Sending.{closed_or, cancel_refusal, cancel, does}
use Rattle.h3_connection.specs.SendingContracts.{Cancels}
use Rattle.h3_connection.specs.StandsLaws.{stands_receiving}
use Rattle.h3_connection.specs.State.{EndpointState, RequestState, StandsFor, kept_at}
use Rattle.h3_connection.specs.StreamSets.{Streams, stream_at}
use Rattle.h3_connection.specs.declared.event.Refusal.{Refusal}
use Rattle.h3_connection.specs.declared.event.Refusal.TheVariants as refusal
use Rattle.h3_connection.specs.declared.event.StreamFault.TheVariants as stream_fault
use Rattle.h3_requests.specs.Refused.{cancel_refused_at, is_settled_in}
use Rattle.h3_streams.specs.PlacedLaws.{critical_stands}
use Rattle.h3_session.specs.Canceling.{cancel_refused, CancelsAt}
use Rattle.h3_session.proofs.Opened.{stands_same, stands_replied, some_there, none_there}
use Rattle.h3_session.specs.Changes.{ChangesRequests}
use Rattle.h3_session.specs.Refused.{streams_of, is_critical_in, critical_refused}
use Rattle.h3_session.proofs.SendingRefusals.{critical_first, critical_left}

refused_there : (s : EndpointState) (e : EndpointHistory) (id : ℕ) (at : Option RequestState) (critical : Bool) → StandsFor s e → kept_at s.requests id ≡ at
    → refusal_to_stop critical (is_some at) (is_settled_in at) ≡ refusal_to_stop critical (is_some (stream_at e.incoming id)) ((incoming_at e id).is_over || is_some (incoming_at e id).fault)
refused_there s e id None critical h was = rw (none_there s e id h was) refl
refused_there s e id (Some r) critical h was = rw (some_there s e id r h was) refl

pub cancel_refusal_is : (s : EndpointState) (e : EndpointHistory) (id : ℕ) → StandsFor s e → cancel_refused s id ≡ cancel_refusal e id
cancel_refusal_is s e id h =
    let critical : is_critical_in s id ≡ is_critical_id e id = critical_stands s (streams_of s) e s.side id (is_critical_in s id) refl h (sym h.side) in
    let there = kept_at s.requests id in
    ap (λ c. closed_or c (refusal_to_stop (is_critical_in s id) (is_some there) (is_settled_in there))) h.closed
    ∙ ap (λ b. closed_or e.closed (refusal_to_stop b (is_some there) (is_settled_in there))) critical
    ∙ ap (closed_or e.closed) (refused_there s e id there (is_critical_id e id) h refl)

-- what refuses it behind what is asked of the connection
abbrev cancel_rules : EndpointState → ℕ → List (Bool × Refusal)
cancel_rules s id = stopped (is_some (kept_at s.requests id)) (is_settled_in (kept_at s.requests id))

-- what is not refused is there
there_by : (at : Option RequestState) → cancel_refused_at at ≡ None → is_some at ≡ true
there_by None h = cc
there_by (Some r) h = refl

-- no rule refuses it memory
critical_takes_none : (closed : Option ℕ) (b : Bool) (r : Refusal) → closed_or closed (first_of (needed b ∷ [])) ≡ Some r → r ≢ refusal.OutOfMemory
critical_takes_none (Some code) b r is memory = cc
critical_takes_none None true r is memory = cc
critical_takes_none None false r is memory = absurd (cc)

ended_takes_none : (b : Bool) (r : Refusal) → first_of ((b, refusal.Ended) ∷ []) ≡ Some r → r ≢ refusal.OutOfMemory
ended_takes_none true r is memory = cc
ended_takes_none false r is memory = absurd (cc)

takes_none : (at : Option RequestState) (r : Refusal) → cancel_refused_at at ≡ Some r → r ≢ refusal.OutOfMemory
takes_none None r is memory = cc
takes_none (Some at) r is memory = ended_takes_none (at.incoming.is_over || is_some at.incoming.fault) r is memory

pub nothing_changed : (s : EndpointState) → IsSame s s
nothing_changed s =
    record {
      rest = record {
        side = refl;
        announced = refl;
        closed = refl;
        control_on = refl;
        encoder_on = refl;
        decoder_on = refl;
        peer = refl;
        decoding = refl;
        encoding = refl;
        own = refl;
        last_goaway = refl;
        kept = refl;
        sent = refl;
        order = refl;
        unidirectional = record { each = λ q. refl };
      };
      next_id = refl;
      requests = record { each = λ q. refl };
    }

-- refused by a rule
cancel_was_refused : (s : EndpointState) (id : ℕ) (r : Refusal) → r ≢ refusal.OutOfMemory → ((e : EndpointHistory) → StandsFor s e → Some r ≡ cancel_refusal e id) → Cancels s s id (Err r)
cancel_was_refused s id r rule h = record {
  done = λ e stands memory. rw (sym (h e stands)) (refl, stands);
  same = λ some. nothing_changed s;
  memory = λ e stands is. absurd (rule cc);
}

-- memory was refused, and nothing has changed
all_same : (s : EndpointState) (new : Streams RequestState) (bytes : List ℕ) → AllSame s.requests new → bytes ≡ s.own.decoder → IsSame s (record s { requests = new; own = record s.own { decoder = bytes } })
all_same s new bytes same is =
    record {
      rest = record {
        side = refl;
        announced = refl;
        closed = refl;
        control_on = refl;
        encoder_on = refl;
        decoder_on = refl;
        peer = refl;
        decoding = refl;
        encoding = refl;
        own = ap (λ b. record s.own { decoder = b }) is;
        last_goaway = refl;
        kept = refl;
        sent = refl;
        order = refl;
        unidirectional = record { each = λ q. refl };
      };
      next_id = refl;
      requests = same;
    }

pub requests_same : (s new : EndpointState) → ChangesRequests s new → AllSame s.requests new.requests → new.own.decoder ≡ s.own.decoder → IsSame s new
requests_same s new rest same is = subst (IsSame s) (sym rest) (all_same s new.requests new.own.decoder same is)

cancel_lacked : (s new : EndpointState) (id : ℕ) → ((e : EndpointHistory) → StandsFor s e → None ≡ cancel_refusal e id) → ChangesRequests s new
    → AllSame s.requests new.requests × (new.own.decoder ≡ s.own.decoder) → Cancels s new id (Err refusal.OutOfMemory)
cancel_lacked s new id h rest same = record {
  done = λ e stands memory. absurd (memory refl);
  same = λ some. requests_same s new rest same.0 same.1;
  memory = λ e stands lacks. rw (sym (h e stands)) refl;
}

canceled_at : (s new : EndpointState) (e : EndpointHistory) (id : ℕ) (at : Option RequestState) → StandsFor s e → kept_at s.requests id ≡ at → is_some at ≡ true → ChangesRequests s new
    → CancelsAt s.requests new.requests s.own.decoder new.own.decoder id at → StandsFor new (give_up e id (incoming_at e id) stream_fault.Canceled)
canceled_at s new e id None h was some rest does = cc
canceled_at s new e id (Some r) h was some rest does =
    let here : incoming_at e id ≡ r.incoming = ap (λ o. unwrap_or o nothing_came) (some_there s e id r h was) in
    let i = given_up_once r.incoming stream_fault.Canceled in
    subst (λ i. StandsFor new (give_up e id i stream_fault.Canceled)) (sym here)
    (subst (λ n. StandsFor n (give_up e id r.incoming stream_fault.Canceled)) (sym rest)
    (stands_replied (record s { requests = new.requests }) (with_incoming e id i) new.own.decoder (cancellation id r.incoming.fault)
    (stands_receiving s e new.requests id r (record r { incoming = i }) h was refl does.0) does.1))

-- it is canceled
canceled : (s new : EndpointState) (id : ℕ) → IsSome (kept_at s.requests id) → ((e : EndpointHistory) → StandsFor s e → None ≡ cancel_refusal e id) → ChangesRequests s new
    → CancelsAt s.requests new.requests s.own.decoder new.own.decoder id (kept_at s.requests id) → Cancels s new id (Ok tt)
canceled s new id there h rest does = record {
  done = λ e stands memory. rw (sym (h e stands)) (refl, canceled_at s new e id (kept_at s.requests id) stands refl there rest does);
  same = λ some. absurd (some refl);
  memory = λ e stands lacks. cc;
}

pub cancel_critical : (s : EndpointState) (id : ℕ) (r : Refusal) → critical_refused s id ≡ Some r → Cancels s s id (Err r)
cancel_critical s id r is =
    let rule : cancel_refused s id ≡ Some r = critical_first s.closed (is_critical_in s id) (cancel_rules s id) r is in
    cancel_was_refused s id r (critical_takes_none s.closed (is_critical_in s id) r is) (λ e h. sym rule ∙ cancel_refusal_is s e id h)

-- the same, where nothing that is found has changed
cancel_alike : (s n : EndpointState) (id : ℕ) (r : Refusal) → ChangesRequests s n → AllSame s.requests n.requests → n.own.decoder ≡ s.own.decoder → Cancels s s id (Err r) → Cancels s n id (Err r)
cancel_alike s n id r rest same is h = record {
  done = λ e stands memory. ((h.done e stands memory).0, stands_now (cancel e id).1 (h.done e stands memory).1);
  same = λ some. requests_same s n rest same is;
  memory = h.memory;
}
  where
    stands_now : (e : EndpointHistory) → StandsFor s e → StandsFor n e
    stands_now e stands =
        subst (λ v. StandsFor v e) (sym rest)
        (subst (λ l. StandsFor (record s { requests = n.requests; own = record s.own { decoder = l } }) e) (sym is) (stands_same s e n.requests stands same))

cancel_refuses : (s n : EndpointState) (id : ℕ) (rule : Option Refusal) → cancel_refused s id ≡ rule → ((r : Refusal) → rule ≡ Some r → r ≢ refusal.OutOfMemory) → ChangesRequests s n
    → AllSame s.requests n.requests × (n.own.decoder ≡ s.own.decoder) → Cancels s n id (Err (unwrap_or rule refusal.OutOfMemory))
cancel_refuses s n id (Some r) is not_memory rest same =
    cancel_alike s n id r rest same.0 same.1 (cancel_was_refused s id r (not_memory r refl) (λ e h. sym is ∙ cancel_refusal_is s e id h))
cancel_refuses s n id None is not_memory rest same = cancel_lacked s n id (λ e h. sym is ∙ cancel_refusal_is s e id h) rest same

pub cancels : (s n : EndpointState) (id : ℕ) (result : Result Unit Refusal) → critical_refused s id ≡ None → ChangesRequests s n
    → OnOk result (CancelsAt s.requests n.requests s.own.decoder n.own.decoder id (kept_at s.requests id)) → OnOk result (cancel_refused_at (kept_at s.requests id) ≡ None)
    → IfErr result (λ r. r ≡ unwrap_or (cancel_refused_at (kept_at s.requests id)) refusal.OutOfMemory)
    → OnErr result (AllSame s.requests n.requests × (n.own.decoder ≡ s.own.decoder)) → Cancels s n id result
cancels s n id result allowed rest = by result
  where
    left : cancel_refused s id ≡ cancel_refused_at (kept_at s.requests id)
    left = critical_left s.closed (is_critical_in s id) (cancel_rules s id) allowed

    by : (result : Result Unit Refusal) → OnOk result (CancelsAt s.requests n.requests s.own.decoder n.own.decoder id (kept_at s.requests id)) → OnOk result (cancel_refused_at (kept_at s.requests id) ≡ None)
        → IfErr result (λ r. r ≡ unwrap_or (cancel_refused_at (kept_at s.requests id)) refusal.OutOfMemory)
        → OnErr result (AllSame s.requests n.requests × (n.own.decoder ≡ s.own.decoder)) → Cancels s n id result
    by (Ok done) does taken why same = canceled s n id (there_by (kept_at s.requests id) taken) (λ e h. sym (left ∙ taken) ∙ cancel_refusal_is s e id h) rest does
    by (Err r) does taken why same =
        subst (λ r. Cancels s n id (Err r)) (sym why)
        (cancel_refuses s n id (cancel_refused_at (kept_at s.requests id)) left (takes_none (kept_at s.requests id)) rest same)
