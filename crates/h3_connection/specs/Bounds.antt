-- What holds of every endpoint that calls made, whatever came to it.
use Rattle.std.specs.Prelude.{◌≡◌, ◌≤◌, ◌<◌, ℕ, Option, Some, None}
use Rattle.h3_connection.specs.Incoming.{Incoming}
use Rattle.h3_connection.specs.Endpoint.{EndpointHistory, heads_waiting}
use Rattle.h3_connection.specs.State.{EndpointState, StandsFor}
use Rattle.h3_connection.specs.StreamSets.{stream_at}

-- No section is tried more than twice.
abbrev pub TriesTwice : Incoming → Type 0
TriesTwice i = i.tries ≤ 2

-- One that waits was tried once.
abbrev pub WaitsOnce : Incoming → Type 0
WaitsOnce i = 0 < i.waits_for → i.tries ≤ 1

abbrev pub OfStream : (Incoming → Type 0) → Option Incoming → Type 0
OfStream P None = Unit {0}
OfStream P (Some i) = P i

pub record IsBounded (e : EndpointHistory) : Type 0 where
  pub tries : (id : ℕ) → OfStream TriesTwice (stream_at e.incoming id)
  pub once : e.closed ≡ None → (id : ℕ) → OfStream WaitsOnce (stream_at e.incoming id)
  -- no more streams wait for insertions than was announced (RFC 9204, section 2.1.2)
  pub waiting : heads_waiting e.decoding.decoder e.incoming ≤ e.announced.limits.blocked

-- What is stored stands for a history with these bounds.
pub record StandsBounded (s : EndpointState) : Type 0 where
  pub history : EndpointHistory
  pub stands : StandsFor s history
  pub bounded : IsBounded history
