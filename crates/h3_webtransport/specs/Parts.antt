-- A call with sessions beside an endpoint: it is one on a stream of a session, or it is passed on.
use Rattle.std.specs.Prelude.{◌≡◌, ℕ, Bool, true, false, Option, Some, None}
use Rattle.h3_connection.specs.declared.event.Refusal.{Refusal}
use Rattle.h3_connection.specs.declared.event.Refusal.TheVariants.{Closed}
use Rattle.h3_webtransport_streams.specs.SessionStream.{SessionStream, Acts}
use Rattle.h3_webtransport.specs.Joint.{Joint}

pub record Parts (here : Bool) (Here Elsewhere : Type 0) : Type 0 where
  pub own : here ≡ true → Here
  pub other : here ≡ false → Elsewhere

-- the streams of sessions are these, and the rest is as it was
abbrev pub StreamsAlone : Joint → Joint → Type 0
StreamsAlone s t = t ≡ record s { sessions = record s.sessions { streams = t.sessions.streams } }

-- a call on the stream of an id
abbrev pub ActsHere : {A : Type 0} → A → (SessionStream → A × SessionStream) → Joint → Joint → ℕ → A → Type 0
ActsHere absent act s t id answer = Acts absent act s.sessions.streams t.sessions.streams id answer × StreamsAlone s t

-- behind a connection fault a call is refused, and changes nothing
abbrev pub UnlessClosed : Option ℕ → Joint → Joint → Option Refusal → Type 0 → Type 0
UnlessClosed (Some code) s t refused goes = (refused ≡ Some (Closed code)) × (t ≡ s)
UnlessClosed None s t refused goes = goes
