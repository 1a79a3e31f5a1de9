-- A stream whose end was handed out.
use Rattle.std.specs.Prelude.{◌≡◌, ◌<◌, ℕ, true, Some, None}
use Rattle.h3_connection.specs.Incoming.{Incoming}
use Rattle.h3_connection.specs.Unidirectional.{Unidirectional}
use Rattle.h3_connection.specs.Unidirectional.Role.{Session}
use Rattle.h3_connection.specs.Endpoint.{EndpointHistory, kind_of}
use Rattle.h3_connection.specs.Endpoint.Kind.{Request, PeerUnidirectional}
use Rattle.h3_connection.specs.Pulling.{is_client}
use Rattle.h3_connection.specs.StreamSets.{stream_at}

pub record IsOver (i : Incoming) : Type 0 where
  pub over : i.is_over ≡ true
  pub ended : i.ended ≡ true
  pub no_fault : i.fault ≡ None

pub record IsOverSession (o : Unidirectional) : Type 0 where
  pub id : ℕ
  pub session : o.role ≡ Session id
  pub over : o.is_over ≡ true
  pub ended : o.ended ≡ true

-- a request stream; at a client it is one that was opened
pub record RequestIsOver (e : EndpointHistory) (id : ℕ) : Type 0 where
  pub request : kind_of e.side id ≡ Request
  pub stream : Incoming
  pub here : stream_at e.incoming id ≡ Some stream
  pub is_over : IsOver stream
  pub opened : is_client e.side ≡ true → id < e.next_id

-- a session on a unidirectional stream of the peer
pub record SessionIsOver (e : EndpointHistory) (id : ℕ) : Type 0 where
  pub peer : kind_of e.side id ≡ PeerUnidirectional
  pub stream : Unidirectional
  pub here : stream_at e.unidirectional id ≡ Some stream
  pub is_over : IsOverSession stream

-- a request stream that can be asked: one that is over has ended, and at a client it was opened
pub record EndsSoundly (e : EndpointHistory) (id : ℕ) : Type 0 where
  pub request : kind_of e.side id ≡ Request
  pub open_still : e.closed ≡ None
  pub stream : Incoming
  pub here : stream_at e.incoming id ≡ Some stream
  pub is_over : stream.is_over ≡ true → IsOver stream
  pub opened : is_client e.side ≡ true → id < e.next_id
