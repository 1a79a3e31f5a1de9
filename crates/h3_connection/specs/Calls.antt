-- What the calls of an endpoint do to what it stores.
use Rattle.std.specs.Prelude.{◌≡◌, ◌≢◌, ℕ, Some, Result, Ok, Err}
use Rattle.h3_proto.specs.declared.stream.Side.{Side}
use Rattle.h3_connection.specs.Endpoint.{new_endpoint}
use Rattle.h3_connection.specs.Incoming.{nothing_came}
use Rattle.h3_connection.specs.State.{EndpointState, RequestState, nothing_waits, StandsFor, kept_at}
use Rattle.h3_connection.specs.StreamSets.{Streams}
use Rattle.h3_connection.specs.declared.setup.Announced.{Announced}
use Rattle.h3_connection.specs.declared.setup.NewError.{NewError}
use Rattle.h3_connection.specs.declared.setup.NewError.TheVariants.{OutOfMemory as NoMemory}

-- a request stream on which nothing has happened
abbrev pub fresh_request : RequestState
fresh_request = record { incoming = nothing_came; outgoing = nothing_waits }

-- a new endpoint stands for the beginning of what was announced
abbrev pub MakesEnd : Side → Result Announced NewError → EndpointState → Type 0
MakesEnd side (Ok announced) s = StandsFor s (new_endpoint side announced)
MakesEnd side (Err e) s = ⊥

-- what was to be announced is refused first, and memory last
abbrev pub IsNewError : NewError → Result Announced NewError → Type 0
IsNewError e (Ok announced) = e ≡ NoMemory
IsNewError e (Err refused) = e ≡ refused

-- the stream of that id is now this one, and the others are as they were
pub record Sets {X : Type 0} (old new : Streams X) (id : ℕ) (x : X) : Type 0 where
  pub here : kept_at new id ≡ Some x
  pub others : (q : ℕ) → q ≢ id → kept_at new q ≡ kept_at old q

-- each stream is as it was
pub record AllSame {X : Type 0} (old new : Streams X) : Type 0 where
  pub each : (q : ℕ) → kept_at new q ≡ kept_at old q

-- all but the streams, the next id and the last GOAWAY
pub record SameRest (old new : EndpointState) : Type 0 where
  pub side : new.side ≡ old.side
  pub announced : new.announced ≡ old.announced
  pub closed : new.closed ≡ old.closed
  pub control_on : new.control_on ≡ old.control_on
  pub encoder_on : new.encoder_on ≡ old.encoder_on
  pub decoder_on : new.decoder_on ≡ old.decoder_on
  pub peer : new.peer ≡ old.peer
  pub decoding : new.decoding ≡ old.decoding
  pub encoding : new.encoding ≡ old.encoding
  pub own : new.own ≡ old.own
  pub last_goaway : new.last_goaway ≡ old.last_goaway
  pub kept : new.kept ≡ old.kept
  pub sent : new.sent ≡ old.sent
  pub order : new.order ≡ old.order
  pub unidirectional : AllSame old.unidirectional new.unidirectional

-- nothing has changed
pub record IsSame (old new : EndpointState) : Type 0 where
  pub rest : SameRest old new
  pub next_id : new.next_id ≡ old.next_id
  pub requests : AllSame old.requests new.requests
