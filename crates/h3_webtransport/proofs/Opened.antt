-- Opening a stream of a session: what refuses it, and what it does.
use Rattle.std.proofs.Common.{◌≡◌, ◌≢◌, ◌+◌, ℕ, Bool, true, false, [], Option, Some, None, Ok, Err, refl, sym, ap, subst, ◌∙◌}
use Rattle.std.specs.Prelude.{◌&&◌, ◌||◌, not, is_some, unwrap_or, Result, OnErr, OnOk}
use Rattle.h3_proto.specs.declared.stream.Side.{Side}
use Rattle.h3_proto.specs.declared.stream.Side.TheVariants.{Client, Server}
use Rattle.h3_connection.specs.Calls.{AllSame, Sets}
use Rattle.h3_connection.specs.Endpoint.{EndpointHistory}
use Rattle.h3_connection.specs.Pulling.{is_client}
use Rattle.h3_connection.specs.Sending.{body_refusal, does, open_refusal, send_body}
use Rattle.h3_connection.specs.Shown.{peer_setting}
use Rattle.h3_connection.specs.State.{EndpointState, StandsFor}
use Rattle.h3_connection.specs.declared.event.Refusal.{Refusal}
use Rattle.h3_connection.specs.declared.event.Refusal.TheVariants.{Closed, OutOfMemory}
use Rattle.h3_session.specs.Beside.{ShowsEnd, TakesId}
use Rattle.h3_session.specs.Lacking.{RefusesBodies}
use Rattle.h3_session.specs.NextRequest.{ShowsNextRequest, id_unless}
use Rattle.h3_webtransport_streams.specs.SessionStream.{both_ways, one_way}
use Rattle.h3_webtransport_streams.specs.Sessions.{OpensNext, SessionsState}
use Rattle.h3_webtransport.specs.Joint.{Joint}
use Rattle.h3_webtransport.specs.Opening.{IsCounted, OpensAtClient, OpensKind, OpensOn, OpensUnless, is_one, is_over, open_error, opened_as, takes_sessions, unless_closed, unless_taken}
use Rattle.h3_webtransport.specs.declared.opening.OpenError.{OpenError}
use Rattle.h3_webtransport.specs.declared.opening.OpenError.TheVariants.{Refused}

-- what a call answers is what refuses it
does_answers : (e f : EndpointHistory) (o : Option Refusal) → (does o e f).0 ≡ o
does_answers e f None = refl
does_answers e f (Some r) = refl

rule_of : (e : EndpointHistory) (id : ℕ) → (send_body e id []).0 ≡ body_refusal e id 0
rule_of e id = does_answers e _ (body_refusal e id 0)

-- the settings of the peer
pub takes_of : (s : EndpointState) (side : Side) (connects taken datagrams : Bool) → ((e : EndpointHistory) → StandsFor s e → connects ≡ is_one (peer_setting e 8))
    → ((e : EndpointHistory) → StandsFor s e → taken ≡ is_one (peer_setting e 0x2b603742)) → ((e : EndpointHistory) → StandsFor s e → datagrams ≡ is_one (peer_setting e 0x33))
    → (e : EndpointHistory) → StandsFor s e → e.side ≡ side → ((not (is_client side) || connects) && taken && datagrams) ≡ takes_sessions e
takes_of s side connects taken datagrams c t d e h is =
    ap (λ x. (not (is_client x) || connects) && taken && datagrams) (sym is)
    ∙ ap (λ b. (not (is_client e.side) || b) && taken && datagrams) (c e h)
    ∙ ap (λ b. (not (is_client e.side) || is_one (peer_setting e 8)) && b && datagrams) (t e h)
    ∙ ap (λ b. (not (is_client e.side) || is_one (peer_setting e 8)) && is_one (peer_setting e 0x2b603742) && b) (d e h)

pub takes_if_on : (s : EndpointState) (side : Side) (is_on are_taken : Bool) → ((e : EndpointHistory) → StandsFor s e → e.side ≡ side → are_taken ≡ takes_sessions e)
    → (e : EndpointHistory) → StandsFor s e → e.side ≡ side → (is_on && are_taken) ≡ (is_on && takes_sessions e)
takes_if_on s side is_on are_taken h e stands is = ap (λ b. is_on && b) (h e stands is)

-- bytes on the request of a session
module _ (s : EndpointState) (id : ℕ) where
  pub takes_bytes : RefusesBodies s id 0 None → (e : EndpointHistory) → StandsFor s e → false ≡ is_some (body_refusal e id 0)
  takes_bytes h e stands = sym (ap is_some (sym (rule_of e id) ∙ (h [] refl).sends.memory e stands refl))

  pub lacks_memory : (r : Refusal) → RefusesBodies s id 0 (Some r) → r ≡ OutOfMemory → (e : EndpointHistory) → StandsFor s e → false ≡ is_some (body_refusal e id 0)
  lacks_memory r h is e stands = sym (ap is_some (sym (rule_of e id) ∙ (h [] refl).sends.memory e stands (ap Some is)))

  pub refuses_bytes : (r : Refusal) → RefusesBodies s id 0 (Some r) → r ≢ OutOfMemory → (e : EndpointHistory) → StandsFor s e → true ≡ is_some (body_refusal e id 0)
  refuses_bytes r h differs e stands =
      let is : Some r ≡ (send_body e id []).0 = ((h [] refl).sends.done e stands (λ same. differs (let it : r ≡ OutOfMemory = cc in it))).0 in
      ap is_some (is ∙ rule_of e id)

-- either half of it has ended
pub over_of : (s : EndpointState) (id : ℕ) (refuses ended : Bool) → ((e : EndpointHistory) → StandsFor s e → refuses ≡ is_some (body_refusal e id 0)) → ShowsEnd s id ended
    → (e : EndpointHistory) → StandsFor s e → (refuses || ended) ≡ is_over e id
over_of s id refuses ended bytes shows e h = ap (λ b. b || ended) (bytes e h) ∙ ap (λ b. is_some (body_refusal e id 0) || b) (shows e h)

-- why no stream is opened, whichever way it goes
module _ (s : EndpointState) (side : Side) (is_on : Bool) (session : ℕ) where
  pub says_closed : (code : ℕ) → s.closed ≡ Some code → (e : EndpointHistory) → StandsFor s e → e.side ≡ side → Some (Refused (Closed code)) ≡ open_error e is_on session
  says_closed code closed e h is =
      ap (λ c. unless_closed c (unless_taken (is_on && takes_sessions e) session (is_over e session))) (sym closed ∙ h.closed)

  pub says_rest : (taken refuses : Bool) (why : Option OpenError) → s.closed ≡ None → ((e : EndpointHistory) → StandsFor s e → e.side ≡ side → taken ≡ (is_on && takes_sessions e))
      → ((e : EndpointHistory) → StandsFor s e → refuses ≡ is_over e session) → why ≡ unless_taken taken session refuses
      → (e : EndpointHistory) → StandsFor s e → e.side ≡ side → why ≡ open_error e is_on session
  says_rest taken refuses why closed takes bytes is e h same =
      is
      ∙ ap (λ c. unless_closed c (unless_taken taken session refuses)) (sym closed ∙ h.closed)
      ∙ ap (λ b. unless_closed e.closed (unless_taken b session refuses)) (takes e h same)
      ∙ ap (λ b. unless_closed e.closed (unless_taken (is_on && takes_sessions e) session b)) (bytes e h)

-- the next id of a request
refused_by : (r : Refusal) (id : ℕ) (o : Option Refusal) → Err r ≡ id_unless id o → r ≡ unwrap_or o OutOfMemory
refused_by r id (Some x) is = cc
refused_by r id None is = absurd (cc)

none_refuses : (given id : ℕ) (o : Option Refusal) → Ok given ≡ id_unless id o → o ≡ None
none_refuses given id (Some x) is = absurd (cc)
none_refuses given id None is = refl

id_given : (given id : ℕ) (o : Option Refusal) → Ok given ≡ id_unless id o → given ≡ id
id_given given id (Some x) is = absurd (cc)
id_given given id None is = cc

module _ (e : EndpointState) (session : ℕ) where
  pub client_refused : (s : SessionsState) (r : Refusal) → ShowsNextRequest e (Err r) → (h : EndpointHistory) → StandsFor e h → OpensAtClient e e s s session (Err r)
  client_refused s r shows h stands = (refl, record { each = λ q. refl }, refl, λ g it. refused_by r g.next_id (open_refusal g) (shows g it))

  pub client_lacks : (s t : SessionsState) (id : ℕ) → ShowsNextRequest e (Ok id) → AllSame s.streams t.streams → t ≡ record s { streams = t.streams }
      → (h : EndpointHistory) → StandsFor e h → OpensAtClient e e s t session (Err OutOfMemory)
  client_lacks s t id shows same rest h stands = (refl, same, rest, λ g it. sym (ap (λ o. unwrap_or o OutOfMemory) (none_refuses id g.next_id (open_refusal g) (shows g it))))

  pub client_takes : (f : EndpointState) (s t : SessionsState) (id : ℕ) (result : Result ℕ Refusal) → ShowsNextRequest e (Ok id) → Sets s.streams t.streams id (both_ways session)
      → t ≡ record s { streams = t.streams } → TakesId e f result → (h : EndpointHistory) → StandsFor e h → OpensAtClient e f s t session result
  client_takes f s t id (Ok taken) shows sets rest takes h stands =
      let same : id ≡ taken = id_given id h.next_id (open_refusal h) (shows h stands) ∙ sym stands.next_id ∙ sym (takes.id taken refl) in
      (takes, subst (λ q. Sets s.streams t.streams q (both_ways session)) same sets, rest)
  client_takes f s t id (Err r) shows sets rest takes h stands =
      let is : Some r ≡ open_refusal h = (takes.takes.done h stands).0 ∙ does_answers h _ (open_refusal h) in
      let none : open_refusal h ≡ None = none_refuses id h.next_id (open_refusal h) (shows h stands) in
      absurd (let never : Some r ≡ None = is ∙ none in cc)

-- each kind of stream
counts : (result : Result ℕ Refusal) (old new counted : SessionsState) → OnOk result (new ≡ counted) → OnErr result (new ≡ record old { streams = new.streams }) → IsCounted result old new counted
counts (Ok id) old new counted ok err = ok
counts (Err r) old new counted ok err = err

module _ (both : Bool) (side : Side) (e : EndpointState) (s t : SessionsState) (session : ℕ) (result : Result ℕ Refusal) where
  pub opens_one_way : both ≡ false → OpensNext s.next_one s.streams t.streams (one_way session) result → OnOk result (t ≡ record s { streams = t.streams; next_one = s.next_one + 4 })
      → OnErr result (t ≡ record s { streams = t.streams }) → (h : EndpointHistory) → StandsFor e h → OpensKind both side e e s t session result
  opens_one_way is opens ok err h stands = rw is (refl, (opens, counts result s t (record s { streams = t.streams; next_one = s.next_one + 4 }) ok err))

  pub opens_at_server : both ≡ true → side ≡ Server → OpensNext s.next_both s.streams t.streams (both_ways session) result
      → OnOk result (t ≡ record s { streams = t.streams; next_both = s.next_both + 4 }) → OnErr result (t ≡ record s { streams = t.streams })
      → (h : EndpointHistory) → StandsFor e h → OpensKind both side e e s t session result
  opens_at_server is at opens ok err h stands = rw (is, at) (refl, (opens, counts result s t (record s { streams = t.streams; next_both = s.next_both + 4 }) ok err))

  pub opens_at_client : (f : EndpointState) → both ≡ true → side ≡ Client → ((h : EndpointHistory) → StandsFor e h → OpensAtClient e f s t session result)
      → (h : EndpointHistory) → StandsFor e h → OpensKind both side e f s t session result
  opens_at_client f is at opens h stands = rw (is, at) (opens h stands)

-- all
pub opens_not : (e : EndpointState) (s : Joint) (session : ℕ) (both : Bool) (error : OpenError) → ((h : EndpointHistory) → StandsFor e h → h.side ≡ s.side → Some error ≡ open_error h s.is_on session)
    → OpensOn e e s s session both (Err error)
opens_not e s session both error is = λ h stands same. subst (λ o. OpensUnless o both e e s s session (Err error)) (is h stands same) (refl, refl, refl)

module _ (e f : EndpointState) (s t : Joint) (session : ℕ) (both : Bool) where
  opens_as : (inner : Result ℕ Refusal) → ((h : EndpointHistory) → StandsFor e h → h.side ≡ s.side → None ≡ open_error h s.is_on session)
      → ((h : EndpointHistory) → StandsFor e h → OpensKind both s.side e f s.sessions t.sessions session inner) → t ≡ record s { sessions = t.sessions } → OpensOn e f s t session both (opened_as inner)
  opens_as inner none opens rest = λ h stands same.
      subst (λ o. OpensUnless o both e f s t session (opened_as inner)) (none h stands same) (record { inner = inner; is = refl; opens = opens h stands; rest = rest })

  pub opens_it : (id : ℕ) → ((h : EndpointHistory) → StandsFor e h → h.side ≡ s.side → None ≡ open_error h s.is_on session)
      → ((h : EndpointHistory) → StandsFor e h → OpensKind both s.side e f s.sessions t.sessions session (Ok id)) → t ≡ record s { sessions = t.sessions } → OpensOn e f s t session both (Ok id)
  opens_it id none opens rest = opens_as (Ok id) none opens rest

  pub opens_none : (r : Refusal) → ((h : EndpointHistory) → StandsFor e h → h.side ≡ s.side → None ≡ open_error h s.is_on session)
      → ((h : EndpointHistory) → StandsFor e h → OpensKind both s.side e f s.sessions t.sessions session (Err r)) → t ≡ record s { sessions = t.sessions } → OpensOn e f s t session both (Err (Refused r))
  opens_none r none opens rest = opens_as (Err r) none opens rest
