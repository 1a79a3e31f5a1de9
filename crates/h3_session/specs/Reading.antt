-- What the steps promise that read what came.
use Rattle.std.specs.Prelude.{◌≡◌, ◌≢◌, ℕ, List, [], ◌∷◌, ◌++◌, All, IsSome, Option, Result, Ok, Err}
use Rattle.h3_connection.specs.Control.{Found}
use Rattle.h3_connection.specs.Delivering.{bytes_at, end_at, reset_at}
use Rattle.h3_connection.specs.Endpoint.{EndpointHistory, Kind}
use Rattle.h3_connection.specs.Keeping.{read_arrival, read_all}
use Rattle.h3_connection.specs.PartReading.{ReadsPart, early_arrival}
use Rattle.h3_connection.specs.State.{EndpointState, StandsFor, KeepsOpen}
use Rattle.h3_connection.specs.StreamSets.{stream_at}
use Rattle.h3_connection.specs.declared.arrival.Arrival.{Arrival}
use Rattle.h3_connection.specs.declared.arrival.Arrival.TheVariants.{BytesCame, EndCame, ResetCame}
use Rattle.h3_session.specs.declared.endpoint.reading.Unread.{Unread}

-- what an arrival does on a stream of this kind
abbrev pub read_at : EndpointHistory → Arrival → Kind → Found
read_at e (BytesCame id bytes) k = bytes_at e id bytes k
read_at e (EndCame id) k = end_at e id k
read_at e (ResetCame id code) k = reset_at e id code k

-- The request streams that are open stay so.
pub record GoesOn (e f : EndpointHistory) : Type 0 where
  pub side : f.side ≡ e.side
  pub stays : (q : ℕ) → IsSome (stream_at e.incoming q) → IsSome (stream_at f.incoming q)

-- A fault, and what is stored then, are what a reading finds.
abbrev pub Finds : Option ℕ → EndpointState → Found → Type 0
Finds fault new (f, code) = (fault ≡ code) × StandsFor new f

-- What came, with this arrival as the first, is read up to there; all behind it stays.
abbrev pub ReadsTo : EndpointHistory → Arrival → EndpointHistory → List Arrival → Type 0
ReadsTo e a next left = (more : List Arrival) (after : EndpointHistory) → ReadsPart next (left ++ more) after → ReadsPart e (a ∷ more) after

-- The arrival was read up to some point, and these are left of it.
pub record LeavesUnread (e : EndpointHistory) (a : Arrival) (left : List Arrival) (new : EndpointState) : Type 0 where
  pub next : EndpointHistory
  pub reads : ReadsTo e a next left
  pub on : GoesOn e next
  pub stands : StandsFor new next
  pub keeps : All (KeepsOpen next.side next.incoming) left
  pub some : left ≢ []

-- It was read, with the fault that it finds.
pub record ReadsWholly (e : EndpointHistory) (a : Arrival) (fault : Option ℕ) (new : EndpointState) : Type 0 where
  pub finds : Finds fault new (read_arrival e a)
  pub on : GoesOn e (read_arrival e a).0

-- A front of all that came was read, and these arrivals are left.
pub record HasRead (start : EndpointHistory) (all : List Arrival) (e : EndpointHistory) (rest : List Arrival) : Type 0 where
  pub finds : read_all all start ≡ read_all rest e
  pub part : (after : EndpointHistory) → ReadsPart e rest after → ReadsPart start all after
  pub keeps : All (KeepsOpen e.side e.incoming) rest

-- A front of all that came was read, and what is stored stands for the endpoint then.
pub record ReadsFront (start : EndpointHistory) (all : List Arrival) (s : EndpointState) (rest : List Arrival) : Type 0 where
  pub now : EndpointHistory
  pub has : HasRead start all now rest
  pub stands : StandsFor s now

abbrev pub ReadsUpTo : EndpointState → List Arrival → EndpointState → List Arrival → Type 0
ReadsUpTo first all s rest = (start : EndpointHistory) → StandsFor first start → All (KeepsOpen start.side start.incoming) all → ReadsFront start all s rest

-- What came was read up to some point, and the rest is kept.
pub record KeepsRest (e : EndpointHistory) (arrivals : List Arrival) (new : EndpointState) : Type 0 where
  pub after : EndpointHistory
  pub read : ReadsPart e arrivals after
  pub stands : StandsFor new after

-- All that came was read up to the first fault; or memory was refused.
abbrev pub ReadsAll : {E : Type 0} → EndpointHistory → List Arrival → Result (Option ℕ) E → EndpointState → Type 0
ReadsAll e arrivals (Ok fault) new = Finds fault new (read_all arrivals e)
ReadsAll e arrivals (Err refused) new = KeepsRest e arrivals new

abbrev pub ReadsEvery : {E : Type 0} → EndpointState → List Arrival → Result (Option ℕ) E → EndpointState → Type 0
ReadsEvery s arrivals result new = (e : EndpointHistory) → StandsFor s e → All (KeepsOpen e.side e.incoming) arrivals → ReadsAll e arrivals result new

-- what is left of an arrival, in order
abbrev pub unread_arrivals : Unread → List Arrival
unread_arrivals unread = unread.first ∷ early_arrival unread.early

-- One arrival was read, or memory was refused.
abbrev pub ReadsOne : EndpointHistory → Arrival → Result (Option ℕ) Unread → EndpointState → Type 0
ReadsOne e a (Ok fault) new = ReadsWholly e a fault new
ReadsOne e a (Err unread) new = LeavesUnread e a (unread_arrivals unread) new

abbrev pub ReadsEach : EndpointState → Arrival → Result (Option ℕ) Unread → EndpointState → Type 0
ReadsEach s a result new = (e : EndpointHistory) → StandsFor s e → KeepsOpen e.side e.incoming a → ReadsOne e a result new

-- the request streams and what is kept are as they were
pub record SameRequests (old new : EndpointState) : Type 0 where
  pub side : new.side ≡ old.side
  pub requests : new.requests ≡ old.requests
  pub kept : new.kept ≡ old.kept
