-- What a call that sends does to what is stored is what its contract says.
use Rattle.std.proofs.Common.{◌≡◌, ℕ, ◌+◌, Bool, true, false, List, [], ◌∷◌, ◌++◌, Option, Some, None, Ok, Err, refl, ap, sym, subst, ◌∙◌, inl, inr}
use Rattle.std.specs.Prelude.{◌≢◌, IfSome, OnOk, OnErr, Result, is_some, option_map, unwrap_or}
use Rattle.std.proofs.lemmas.Bool.{cases_eq}
use Rattle.h3_outgoing.specs.HistoryLaws.{ended, cut_off}
use Rattle.h3_outgoing.specs.Sent.{has_ended, is_sent_off, was_cut_off}
use Rattle.h3_connection.specs.Answers.{call_refused}
use Rattle.h3_connection.specs.Calls.{Sets, AllSame, SameRest, IsSame, fresh_request}
use Rattle.h3_connection.specs.Delivering.{opened_at}
use Rattle.h3_connection.specs.Endpoint.{EndpointHistory, goaway_encoding}
use Rattle.h3_connection.specs.Outgoing.{Outgoing, nothing_sent, with_finish, with_reset}
use Rattle.h3_connection.specs.Refusals.{refusal_to_stop, stopped}
use Rattle.h3_connection.specs.Sending.{does, closed_or, outgoing_at, with_outgoing, open_refusal, finish_refusal, reset_refusal, goaway_refusal, finish, reset}
use Rattle.h3_connection.specs.SendingContracts.{DoesOrRefuses, DoesAlways, Opens, Finishes, Resets, GoesAway}
use Rattle.h3_connection.specs.StandsLaws.{stands_sending}
use Rattle.h3_connection.specs.State.{EndpointState, RequestState, OutgoingState, StandsFor, IsOfOutgoing, SameAt, kept_at}
use Rattle.h3_connection.specs.StreamSets.{Streams, stream_at}
use Rattle.h3_streams.specs.Placed.{StreamsState, placed}
use Rattle.h3_connection.specs.declared.event.Refusal.{Refusal}
use Rattle.h3_connection.specs.declared.event.Refusal.TheVariants as refusal
use Rattle.h3_requests.specs.Refused.{end_refused_at, outgoing_in, reset_refused_at}
use Rattle.h3_session.proofs.Opened.{stands_same}
use Rattle.h3_session.specs.Refused.{streams_of, end_refused, is_critical_in, critical_refused, reset_refused, goaway_refused, open_refused}
use Rattle.h3_session.proofs.ReceivingCancel.{requests_same}
use Rattle.h3_session.proofs.SendingRefusals.{open_refusal_is, end_refusal_is, reset_refusal_is, goaway_refusal_is, open_takes_none, end_takes_none, reset_takes_none, goaway_takes_none, critical_first, critical_left}
use Rattle.h3_session.proofs.SendingStands.{opened_stands, goaway_stands_for}

-- What is untouched is the same.
pub same_rest : (s : EndpointState) → SameRest s s
same_rest s =
    record {
      side = refl;
      announced = refl;
      closed = refl;
      control_on = refl;
      encoder_on = refl;
      decoder_on = refl;
      peer = refl;
      decoding = refl;
      encoding = refl;
      own = refl;
      last_goaway = refl;
      kept = refl;
      sent = refl;
      order = refl;
      unidirectional = record { each = λ q. refl };
    }

pub same_itself : (s : EndpointState) → IsSame s s
same_itself s = record { rest = same_rest s; next_id = refl; requests = record { each = λ q. refl } }

-- a stream that is now what it was is one of streams that are all the same
pub all_same : (old new : Streams RequestState) (id : ℕ) (r : RequestState) → kept_at old id ≡ Some r → Sets old new id r → AllSame old new
all_same old new id r was sets =
    record {
      each = λ q. elim (cases_eq q id) [
        | inl same ↦ ap (kept_at new) same ∙ sets.here ∙ sym was ∙ sym (ap (kept_at old) same)
        | inr differs ↦ sets.others q differs
      ];
    }

-- the answer and the history of a call that was done, and of one that was refused
pub was_done : (e f : EndpointHistory) (new : EndpointState) (rule : Option Refusal) → rule ≡ None → StandsFor new f → (None ≡ (does rule e f).0) × StandsFor new (does rule e f).1
was_done e f new rule is h = subst (λ r. (None ≡ (does r e f).0) × StandsFor new (does r e f).1) (sym is) (refl, h)

pub was_refused : (e f : EndpointHistory) (new : EndpointState) (rule : Option Refusal) (r : Refusal) → rule ≡ Some r → StandsFor new e → (Some r ≡ (does rule e f).0) × StandsFor new (does rule e f).1
was_refused e f new rule r is h = subst (λ o. (Some r ≡ (does o e f).0) × StandsFor new (does o e f).1) (sym is) (refl, h)

-- A call by its rule and what it does: it is refused, or it is done.
pub refuses : (rule : EndpointHistory → Option Refusal) (after : EndpointHistory → EndpointHistory) (s : EndpointState) (r : Refusal)
    → ((e : EndpointHistory) → StandsFor s e → rule e ≡ Some r) → r ≢ refusal.OutOfMemory → DoesOrRefuses (λ e. does (rule e) e (after e)) s s (Some r)
refuses rule after s r is is_rule =
    record {
      done = λ e h not_memory. was_refused e (after e) s (rule e) r (is e h) h;
      same = λ refused. same_itself s;
      memory = λ e h memory. absurd (is_rule (cc));
    }

pub acts : (rule : EndpointHistory → Option Refusal) (after : EndpointHistory → EndpointHistory) (s new : EndpointState)
    → ((e : EndpointHistory) → StandsFor s e → rule e ≡ None) → ((e : EndpointHistory) → StandsFor s e → StandsFor new (after e)) → DoesOrRefuses (λ e. does (rule e) e (after e)) s new None
acts rule after s new is stands =
    record {
      done = λ e h not_memory. was_done e (after e) new (rule e) (is e h) (stands e h);
      same = λ refused. absurd (refused refl);
      memory = λ e h memory. absurd (cc);
    }

-- the same of one that takes no memory
pub always_refuses : (rule : EndpointHistory → Option Refusal) (after : EndpointHistory → EndpointHistory) (s : EndpointState) (r : Refusal)
    → ((e : EndpointHistory) → StandsFor s e → rule e ≡ Some r) → r ≢ refusal.OutOfMemory → DoesAlways (λ e. does (rule e) e (after e)) s s (Some r)
always_refuses rule after s r is is_rule =
    record {
      done = λ e h. was_refused e (after e) s (rule e) r (is e h) h;
      same = λ refused. same_itself s;
      memory = λ memory. is_rule (cc);
    }

pub always_acts : (rule : EndpointHistory → Option Refusal) (after : EndpointHistory → EndpointHistory) (s new : EndpointState)
    → ((e : EndpointHistory) → StandsFor s e → rule e ≡ None) → ((e : EndpointHistory) → StandsFor s e → StandsFor new (after e)) → DoesAlways (λ e. does (rule e) e (after e)) s new None
always_acts rule after s new is stands =
    record {
      done = λ e h. was_done e (after e) new (rule e) (is e h) (stands e h);
      same = λ refused. absurd (refused refl);
      memory = λ memory. absurd (cc);
    }

-- The same, where the request streams that are left are found as they were.
pub always_alike : (act : EndpointHistory → Option Refusal × EndpointHistory) (s : EndpointState) (new : Streams RequestState) (r : Refusal) → AllSame s.requests new
    → DoesAlways act s s (Some r) → DoesAlways act s (record s { requests = new }) (Some r)
always_alike act s new r same h =
    record {
      done = λ e stands. ((h.done e stands).0, stands_same s (act e).1 new (h.done e stands).1 same);
      same = λ refused. requests_same s (record s { requests = new }) refl same refl;
      memory = h.memory;
    }

pub alike : (act : EndpointHistory → Option Refusal × EndpointHistory) (s : EndpointState) (new : Streams RequestState) (r : Refusal) → AllSame s.requests new
    → DoesOrRefuses act s s (Some r) → DoesOrRefuses act s (record s { requests = new }) (Some r)
alike act s new r same h =
    record {
      done = λ e stands not_memory. ((h.done e stands not_memory).0, stands_same s (act e).1 new (h.done e stands not_memory).1 same);
      same = λ refused. requests_same s (record s { requests = new }) refl same refl;
      memory = h.memory;
    }

-- a call that is refused memory alone
pub lacks : (rule : EndpointHistory → Option Refusal) (after : EndpointHistory → EndpointHistory) (s : EndpointState)
    → ((e : EndpointHistory) → StandsFor s e → rule e ≡ None) → DoesOrRefuses (λ e. does (rule e) e (after e)) s s (Some refusal.OutOfMemory)
lacks rule after s is =
    record {
      done = λ e h not_memory. absurd (not_memory refl);
      same = λ refused. same_itself s;
      memory = λ e h memory. ap (λ r. (does r e (after e)).0) (is e h);
    }

-- the sender's part of a stream that is there
sender_by : (o : Option Outgoing) (w : OutgoingState) → SameAt IsOfOutgoing o (Some w) → IsOfOutgoing (unwrap_or o nothing_sent) w
sender_by None w h = absurd h
sender_by (Some o) w h = h

pub sender_of : (s : EndpointState) (e : EndpointHistory) (id : ℕ) (r : RequestState) → StandsFor s e → kept_at s.requests id ≡ Some r → IsOfOutgoing (outgoing_at e id) r.outgoing
sender_of s e id r h is =
    sender_by (stream_at e.outgoing id) r.outgoing (subst (λ o. SameAt IsOfOutgoing (stream_at e.outgoing id) (option_map (λ r. r.outgoing) o)) is (h.outgoing id))

-- `open_request`
opens_here : (s : EndpointState) (new : Streams RequestState) (id : ℕ) → Sets s.requests new s.next_id fresh_request → id ≡ s.next_id
    → open_refused s ≡ None → Opens s (record s { requests = new; next_id = s.next_id + 4 }) (Ok id)
opens_here s new id sets same is =
    record {
      opens = acts open_refusal (λ e. record (opened_at e e.next_id None) { next_id = e.next_id + 4 }) s (record s { requests = new; next_id = s.next_id + 4 })
          (λ e h. sym (open_refusal_is s e h) ∙ is) (λ e h. opened_stands s e new h sets);
      id = λ opened result. let here : id ≡ opened = cc in sym here ∙ same;
    }

pub open_refuses : (s : EndpointState) (r : Refusal) → open_refused s ≡ Some r → Opens s s (Err r)
open_refuses s r is =
    record {
      opens = refuses open_refusal (λ e. record (opened_at e e.next_id None) { next_id = e.next_id + 4 }) s r (λ e h. sym (open_refusal_is s e h) ∙ is) (λ memory. open_takes_none s (is ∙ ap Some memory));
      id = λ opened result. absurd (cc);
    }

pub opens : (s now : EndpointState) (new : Streams RequestState) (id : ℕ) → s ≡ now → open_refused now ≡ None → Sets s.requests new id fresh_request → id ≡ s.next_id
    → Opens now (record s { requests = new; next_id = s.next_id + 4 }) (Ok id)
opens s now new id view is sets same =
    let here : Sets s.requests new s.next_id fresh_request = subst (λ n. Sets s.requests new n fresh_request) same sets in
    subst (λ v. open_refused v ≡ None → Opens v (record s { requests = new; next_id = s.next_id + 4 }) (Ok id)) view (opens_here s new id here same) is

-- a change of the sender's part of a stream that is there
pub sends : (s : EndpointState) (new : Streams RequestState) (id : ℕ) (change : OutgoingState → OutgoingState) (act : Outgoing → Outgoing) (there : Option RequestState)
    → ((o : Outgoing) (w : OutgoingState) → IsOfOutgoing o w → IsOfOutgoing (act o) (change w))
    → kept_at s.requests id ≡ there → there ≢ None
    → IfSome there (λ r. Sets s.requests new id (record r { outgoing = change r.outgoing }))
    → (e : EndpointHistory) → StandsFor s e → StandsFor (record s { requests = new }) (with_outgoing e id (act (outgoing_at e id)))
sends s new id change act None law is some sets e h = absurd (some refl)
sends s new id change act (Some r) law is some sets e h =
    stands_sending s e new id r (record r { outgoing = change r.outgoing }) (act (outgoing_at e id)) h is refl (law (outgoing_at e id) r.outgoing (sender_of s e id r h is)) sets

-- `finish`
pub finish_refuses : (s : EndpointState) (id : ℕ) (r : Refusal) → end_refused s id ≡ Some r → Finishes s s id (Err r)
finish_refuses s id r is =
    always_refuses (λ e. finish_refusal e id) (λ e. with_outgoing e id (with_finish (outgoing_at e id))) s r
    (λ e h. sym (end_refusal_is s e id h) ∙ is) (λ memory. end_takes_none s id (is ∙ ap Some memory))

end_there : (closed : Option ℕ) (there : Option RequestState) → closed_or closed (end_refused_at there) ≡ None → there ≢ None
end_there (Some code) there is none = absurd (cc)
end_there None None is none = absurd (cc)
end_there None (Some r) is none = absurd (cc)

finishes_here : (s : EndpointState) (new : Streams RequestState) (id : ℕ)
    → IfSome (kept_at s.requests id) (λ r. Sets s.requests new id (record r { outgoing = has_ended r.outgoing })) → end_refused s id ≡ None → Finishes s (record s { requests = new }) id (Ok tt)
finishes_here s new id sets is =
    always_acts (λ e. finish_refusal e id) (λ e. with_outgoing e id (with_finish (outgoing_at e id))) s (record s { requests = new })
    (λ e h. sym (end_refusal_is s e id h) ∙ is)
    (sends s new id has_ended with_finish (kept_at s.requests id) ended refl (end_there s.closed (kept_at s.requests id) is) sets)

pub finish_closed : (s : EndpointState) (id code : ℕ) → s.closed ≡ Some code → Finishes s s id (Err (refusal.Closed code))
finish_closed s id code closed = finish_refuses s id (refusal.Closed code) (ap (λ c. closed_or c (end_refused_at (kept_at s.requests id))) closed)

finish_here : (s : EndpointState) (new : Streams RequestState) (id : ℕ) (result : Result Unit Refusal) → s.closed ≡ None
    → OnOk result (IfSome (kept_at s.requests id) (λ r. Sets s.requests new id (record r { outgoing = has_ended r.outgoing })))
    → call_refused result ≡ end_refused_at (kept_at s.requests id) → OnErr result (AllSame s.requests new) → Finishes s (record s { requests = new }) id result
finish_here s new id (Ok done) closed sets rule same = finishes_here s new id sets (ap (λ c. closed_or c (end_refused_at (kept_at s.requests id))) closed ∙ sym rule)
finish_here s new id (Err r) closed sets rule same =
    always_alike (λ e. finish e id) s new r same (finish_refuses s id r (ap (λ c. closed_or c (end_refused_at (kept_at s.requests id))) closed ∙ sym rule))

pub finishes : (s n : EndpointState) (id : ℕ) (result : Result Unit Refusal) → s.closed ≡ None → n ≡ record s { requests = n.requests }
    → OnOk result (IfSome (kept_at s.requests id) (λ r. Sets s.requests n.requests id (record r { outgoing = has_ended r.outgoing })))
    → call_refused result ≡ end_refused_at (kept_at s.requests id) → OnErr result (AllSame s.requests n.requests) → Finishes s n id result
finishes s n id result closed rest sets rule same = subst (λ v. Finishes s v id result) (sym rest) (finish_here s n.requests id result closed sets rule same)

-- `reset`
pub reset_refuses : (s : EndpointState) (id : ℕ) (r : Refusal) → reset_refused s id ≡ Some r → Resets s s id (Err r)
reset_refuses s id r is =
    always_refuses (λ e. reset_refusal e id) (λ e. with_outgoing e id (with_reset (outgoing_at e id))) s r
    (λ e h. sym (reset_refusal_is s e id h) ∙ is) (λ memory. reset_takes_none s id (is ∙ ap Some memory))

reset_there : (closed : Option ℕ) (critical : Bool) (there : Option RequestState) → closed_or closed (refusal_to_stop critical (is_some there) (is_sent_off (outgoing_in there))) ≡ None → there ≢ None
reset_there (Some code) critical there is none = absurd (cc)
reset_there None true there is none = absurd (cc)
reset_there None false None is none = absurd (cc)
reset_there None false (Some r) is none = absurd (cc)

resets_here : (s : EndpointState) (new : Streams RequestState) (id : ℕ)
    → IfSome (kept_at s.requests id) (λ r. Sets s.requests new id (record r { outgoing = was_cut_off r.outgoing })) → reset_refused s id ≡ None → Resets s (record s { requests = new }) id (Ok tt)
resets_here s new id sets is =
    always_acts (λ e. reset_refusal e id) (λ e. with_outgoing e id (with_reset (outgoing_at e id))) s (record s { requests = new })
    (λ e h. sym (reset_refusal_is s e id h) ∙ is)
    (sends s new id was_cut_off with_reset (kept_at s.requests id) cut_off refl (reset_there s.closed (is_critical_in s id) (kept_at s.requests id) is) sets)

-- what refuses it behind what is asked of the connection
abbrev reset_rules : EndpointState → ℕ → List (Bool × Refusal)
reset_rules s id = stopped (is_some (kept_at s.requests id)) (is_sent_off (outgoing_in (kept_at s.requests id)))

pub reset_critical : (s : EndpointState) (id : ℕ) (r : Refusal) → critical_refused s id ≡ Some r → Resets s s id (Err r)
reset_critical s id r is = reset_refuses s id r (critical_first s.closed (is_critical_in s id) (reset_rules s id) r is)

reset_here : (s : EndpointState) (new : Streams RequestState) (id : ℕ) (result : Result Unit Refusal) → reset_refused s id ≡ reset_refused_at (kept_at s.requests id)
    → OnOk result (IfSome (kept_at s.requests id) (λ r. Sets s.requests new id (record r { outgoing = was_cut_off r.outgoing })))
    → call_refused result ≡ reset_refused_at (kept_at s.requests id) → OnErr result (AllSame s.requests new) → Resets s (record s { requests = new }) id result
reset_here s new id (Ok done) left sets rule same = resets_here s new id sets (left ∙ sym rule)
reset_here s new id (Err r) left sets rule same = always_alike (λ e. reset e id) s new r same (reset_refuses s id r (left ∙ sym rule))

pub resets : (s n : EndpointState) (id : ℕ) (result : Result Unit Refusal) → critical_refused s id ≡ None → n ≡ record s { requests = n.requests }
    → OnOk result (IfSome (kept_at s.requests id) (λ r. Sets s.requests n.requests id (record r { outgoing = was_cut_off r.outgoing })))
    → call_refused result ≡ reset_refused_at (kept_at s.requests id) → OnErr result (AllSame s.requests n.requests) → Resets s n id result
resets s n id result allowed rest sets rule same =
    subst (λ v. Resets s v id result) (sym rest)
    (reset_here s n.requests id result (critical_left s.closed (is_critical_in s id) (reset_rules s id) allowed) sets rule same)

-- `goaway`
goes_away_here : (s : EndpointState) (id : ℕ) → goaway_refused s id ≡ None
    → GoesAway s (record s { own = record s.own { control = s.own.control ++ goaway_encoding id }; last_goaway = Some id }) id (Ok tt)
goes_away_here s id is =
    acts (λ e. goaway_refusal e id) (λ e. record e { own = record e.own { goaways = e.own.goaways ++ id ∷ [] } }) s
    (record s { own = record s.own { control = s.own.control ++ goaway_encoding id }; last_goaway = Some id })
    (λ e h. sym (goaway_refusal_is s e id h) ∙ is) (λ e h. goaway_stands_for s e id h)

pub goaway_refuses : (s : EndpointState) (id : ℕ) (r : Refusal) → goaway_refused s id ≡ Some r → GoesAway s s id (Err r)
goaway_refuses s id r is =
    refuses (λ e. goaway_refusal e id) (λ e. record e { own = record e.own { goaways = e.own.goaways ++ id ∷ [] } }) s r
    (λ e h. sym (goaway_refusal_is s e id h) ∙ is) (λ memory. goaway_takes_none s id (is ∙ ap Some memory))

pub goes_away : (s now : EndpointState) (x : StreamsState) (id : ℕ) → s ≡ now → goaway_refused now id ≡ None
    → x ≡ record (streams_of s) { own = record s.own { control = s.own.control ++ goaway_encoding id } } → GoesAway now (placed (record s { last_goaway = Some id }) x) id (Ok tt)
goes_away s now x id view is same =
    let written = record (streams_of s) { own = record s.own { control = s.own.control ++ goaway_encoding id } } in
    let here : GoesAway now (placed (record s { last_goaway = Some id }) written) id (Ok tt)
    = subst (λ v. goaway_refused v id ≡ None → GoesAway v (placed (record s { last_goaway = Some id }) written) id (Ok tt)) view (goes_away_here s id) is in
    subst (λ y. GoesAway now (placed (record s { last_goaway = Some id }) y) id (Ok tt)) (sym same) here
