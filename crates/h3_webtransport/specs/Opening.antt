-- Opening streams of sessions.
use Rattle.std.specs.Prelude.{◌≡◌, ◌+◌, ◌==◌, ◌&&◌, ◌||◌, ℕ, Bool, true, false, not, is_some, Option, Some, None, Result, Ok, Err, if◌then◌else◌, unwrap_or}
use Rattle.h3_proto.specs.StreamIds.{is_request_stream}
use Rattle.h3_connection.specs.Calls.{AllSame, Sets}
use Rattle.h3_connection.specs.Endpoint.{EndpointHistory}
use Rattle.h3_connection.specs.Keeping.{arrival_refusal}
use Rattle.h3_connection.specs.Pulling.{is_client}
use Rattle.h3_connection.specs.Sending.{body_refusal, open_refusal}
use Rattle.h3_connection.specs.Shown.{peer_setting}
use Rattle.h3_connection.specs.State.{EndpointState, StandsFor}
use Rattle.h3_connection.specs.declared.event.Refusal.{Refusal}
use Rattle.h3_connection.specs.declared.event.Refusal.TheVariants.{Closed, NotOpen, NotRequestId, OutOfMemory}
use Rattle.h3_proto.specs.declared.stream.Side.{Side}
use Rattle.h3_proto.specs.declared.stream.Side.TheVariants.{Client, Server}
use Rattle.h3_session.specs.Beside.{TakesId}
use Rattle.h3_webtransport_streams.specs.SessionStream.{both_ways, one_way}
use Rattle.h3_webtransport_streams.specs.Sessions.{OpensNext, SessionsState}
use Rattle.h3_webtransport.specs.Joint.{Joint}
use Rattle.h3_webtransport.specs.declared.opening.OpenError.{OpenError}
use Rattle.h3_webtransport.specs.declared.opening.OpenError.TheVariants.{NoSessions, Refused}

abbrev pub is_one : Option ℕ → Bool
is_one None = false
is_one (Some n) = n == 1

-- the peer's settings came and have what sessions need: a client needs that of extended CONNECT too, which means nothing of a server's client (RFC 8441, section 3)
abbrev pub takes_sessions : EndpointHistory → Bool
takes_sessions e = (not (is_client e.side) || is_one (peer_setting e 8)) && is_one (peer_setting e 0x2b603742) && is_one (peer_setting e 0x33)

-- why no stream of this session is opened, whichever way it goes
abbrev pub unless_taken : Bool → ℕ → Bool → Option OpenError
unless_taken false session refuses = Some NoSessions
unless_taken true session refuses =
    if not (is_request_stream session) then Some (Refused NotRequestId) else (if refuses then Some (Refused NotOpen) else None)

abbrev pub unless_closed : Option ℕ → Option OpenError → Option OpenError
unless_closed (Some code) later = Some (Refused (Closed code))
unless_closed None later = later

-- on its request no header section was sent, or one of its halves has ended: the session is over then (draft-ietf-webtrans-http3-02, section 5)
abbrev pub is_over : EndpointHistory → ℕ → Bool
is_over e session = is_some (body_refusal e session 0) || is_some (arrival_refusal e session)

abbrev pub open_error : EndpointHistory → Bool → ℕ → Option OpenError
open_error e is_on session = unless_closed e.closed (unless_taken (is_on && takes_sessions e) session (is_over e session))

-- what the call answers of a refusal of the stream alone
abbrev pub opened_as : Result ℕ Refusal → Result ℕ OpenError
opened_as (Ok id) = Ok id
opened_as (Err r) = Err (Refused r)

-- the next id of a row was counted
abbrev pub IsCounted : Result ℕ Refusal → SessionsState → SessionsState → SessionsState → Type 0
IsCounted (Ok id) old new counted = new ≡ counted
IsCounted (Err r) old new counted = new ≡ record old { streams = new.streams }

-- a stream that goes one way,
abbrev pub OpensOneWay : SessionsState → SessionsState → ℕ → Result ℕ Refusal → Type 0
OpensOneWay old new session inner =
    OpensNext old.next_one old.streams new.streams (one_way session) inner × IsCounted inner old new (record old { streams = new.streams; next_one = old.next_one + 4 })

-- one both ways of a server,
abbrev pub OpensAtServer : SessionsState → SessionsState → ℕ → Result ℕ Refusal → Type 0
OpensAtServer old new session inner =
    OpensNext old.next_both old.streams new.streams (both_ways session) inner × IsCounted inner old new (record old { streams = new.streams; next_both = old.next_both + 4 })

-- and one of a client, whose id is the next one of a request
abbrev pub OpensAtClient : EndpointState → EndpointState → SessionsState → SessionsState → ℕ → Result ℕ Refusal → Type 0
OpensAtClient e f old new session (Ok id) = TakesId e f (Ok id) × Sets old.streams new.streams id (both_ways session) × (new ≡ record old { streams = new.streams })
OpensAtClient e f old new session (Err r) = (f ≡ e) × AllSame old.streams new.streams × (new ≡ record old { streams = new.streams })
    × ((h : EndpointHistory) → StandsFor e h → r ≡ unwrap_or (open_refusal h) OutOfMemory)

abbrev pub OpensBothWays : Side → EndpointState → EndpointState → SessionsState → SessionsState → ℕ → Result ℕ Refusal → Type 0
OpensBothWays Client e f old new session inner = OpensAtClient e f old new session inner
OpensBothWays Server e f old new session inner = (f ≡ e) × OpensAtServer old new session inner

abbrev pub OpensKind : Bool → Side → EndpointState → EndpointState → SessionsState → SessionsState → ℕ → Result ℕ Refusal → Type 0
OpensKind true side e f old new session inner = OpensBothWays side e f old new session inner
OpensKind false side e f old new session inner = (f ≡ e) × OpensOneWay old new session inner

-- it is opened, or refused as the next stream of its kind is
pub record OpensStream (both : Bool) (e f : EndpointState) (s t : Joint) (session : ℕ) (result : Result ℕ OpenError) : Type 0 where
  pub inner : Result ℕ Refusal
  pub is : result ≡ opened_as inner
  pub opens : OpensKind both s.side e f s.sessions t.sessions session inner
  pub rest : t ≡ record s { sessions = t.sessions }

abbrev pub OpensUnless : Option OpenError → Bool → EndpointState → EndpointState → Joint → Joint → ℕ → Result ℕ OpenError → Type 0
OpensUnless (Some error) both e f s t session result = (result ≡ Err error) × (f ≡ e) × (t ≡ s)
OpensUnless None both e f s t session result = OpensStream both e f s t session result

-- `open_session_stream`
abbrev pub OpensOn : EndpointState → EndpointState → Joint → Joint → ℕ → Bool → Result ℕ OpenError → Type 0
OpensOn e f s t session both result = (h : EndpointHistory) → StandsFor e h → h.side ≡ s.side → OpensUnless (open_error h s.is_on session) both e f s t session result
