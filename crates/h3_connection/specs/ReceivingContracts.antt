-- What each call that receives promises: for every history that is stored, the exact answer, what stands after it, and what is
-- left where memory was refused.
use Rattle.std.specs.Prelude.{◌≡◌, ◌≢◌, ◌⊎◌, ℕ, true, false, List, [], ◌∷◌, ◌++◌, None, Result, Err}
use Rattle.h3_connection.specs.Answers.{delivery_refused, lacks_memory}
use Rattle.h3_connection.specs.Arrivals.{Arrival, BytesCame, EndCame, ResetCame, stream_of}
use Rattle.h3_connection.specs.Calls.{IsSame}
use Rattle.h3_connection.specs.Endpoint.{EndpointHistory, kind_of}
use Rattle.h3_connection.specs.Endpoint.Kind.{Request}
use Rattle.h3_connection.specs.Keeping.{arrives, arrival_refusal, pulls, settles, unkept}
use Rattle.h3_connection.specs.PartReading.{ReadsPart, StandsAsked}
use Rattle.h3_connection.specs.Pulling.{is_memory}
use Rattle.h3_connection.specs.State.{EndpointState, StandsFor}
use Rattle.h3_connection.specs.declared.event.DeliverError.{DeliverError}
use Rattle.h3_connection.specs.declared.event.DeliverError.TheVariants as deliver_error
use Rattle.h3_connection.specs.declared.event.Pull.{Pull}
use Rattle.h3_connection.specs.declared.event.Refusal.{Refusal}

-- the bytes of an arrival, which come back where it could not be stored
abbrev pub bytes_of : Arrival → List ℕ
bytes_of (BytesCame id bytes) = bytes
bytes_of (EndCame id) = []
bytes_of (ResetCame id code) = []

-- What comes on the stream is taken.
pub record IsTaken (e : EndpointHistory) (id : ℕ) : Type 0 where
  pub open_still : e.closed ≡ None
  pub accepted : arrival_refusal e id ≡ None

-- The arrival was stored; what came was read up to some point, and the rest is kept.
pub record StoresArrival (e : EndpointHistory) (a : Arrival) (new : EndpointState) : Type 0 where
  pub after : EndpointHistory
  pub read : ReadsPart (unkept e) (e.kept ++ a ∷ []) after
  pub stands : StandsFor new after

pub record Receives (old new : EndpointState) (a : Arrival) (result : Result Unit DeliverError) : Type 0 where
  -- memory aside: the answer, and what stands after it
  pub done : (e : EndpointHistory) → StandsFor old e → lacks_memory result ≡ false → (delivery_refused result ≡ (arrives e a).0) × StandsFor new (arrives e a).1
  -- a refusal that finds no connection fault changes nothing
  pub same : (r : Refusal) → result ≡ Err (deliver_error.Refused r) → new.closed ≡ old.closed → IsSame old new
  -- it could not be stored: nothing has changed, and the bytes come back
  pub back : (handed : List ℕ) → result ≡ Err (deliver_error.OutOfMemory handed) → (handed ≡ bytes_of a) × IsSame old new
  pub refused : (e : EndpointHistory) (handed : List ℕ) → StandsFor old e → result ≡ Err (deliver_error.OutOfMemory handed) → IsTaken e (stream_of a)
  -- it was stored, and not all was read
  pub kept : (e : EndpointHistory) → StandsFor old e → result ≡ Err deliver_error.Kept → IsTaken e (stream_of a) × StoresArrival e a new
  pub some_kept : result ≡ Err deliver_error.Kept → new.kept ≢ []

-- what comes on a request stream is kept only behind what is kept
abbrev pub KeepsBehind : EndpointState → ℕ → Result Unit DeliverError → Type 0
KeepsBehind old id result = kind_of old.side id ≡ Request → result ≡ Err deliver_error.Kept → old.kept ≢ []

-- `deliver`
pub record Delivers (old new : EndpointState) (id : ℕ) (bytes : List ℕ) (result : Result Unit DeliverError) : Type 0 where
  pub receives : Receives old new (BytesCame id bytes) result
  pub behind : KeepsBehind old id result

-- `deliver_end`
pub record DeliversEnd (old new : EndpointState) (id : ℕ) (result : Result Unit DeliverError) : Type 0 where
  pub receives : Receives old new (EndCame id) result
  pub behind : KeepsBehind old id result

-- `deliver_reset`
pub record DeliversReset (old new : EndpointState) (id code : ℕ) (result : Result Unit DeliverError) : Type 0 where
  pub receives : Receives old new (ResetCame id code) result
  pub behind : KeepsBehind old id result

-- A pull that was refused memory hands out nothing and loses nothing: what was kept was read up to some point; or all of it was,
-- and the stream goes on as if it had not been asked.
pub record LosesNothing (e : EndpointHistory) (id : ℕ) (new : EndpointState) : Type 0 where
  pub after : EndpointHistory
  pub read : ReadsPart (unkept e) e.kept after
  pub stands : StandsFor new after ⊎ ((after.kept ≡ []) × StandsAsked new after id)

-- `pull`
pub record PullsNext (old new : EndpointState) (id : ℕ) (result : Pull) : Type 0 where
  -- memory aside: the answer, and what stands after it
  pub done : (e : EndpointHistory) → StandsFor old e → is_memory result ≡ false → (result ≡ (pulls e id).0) × StandsFor new (pulls e id).1
  pub memory : (e : EndpointHistory) → StandsFor old e → is_memory result ≡ true → LosesNothing e id new
  -- the connection's fault, the stream's, and its end once more take no memory
  pub settled : (e : EndpointHistory) → StandsFor old e → is_memory result ≡ true → (e.closed ≡ None) × (settles e id ≡ false)
