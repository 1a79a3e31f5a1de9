-- What the streams under way become, once one that was lent is given back.
use Rattle.std.specs.Prelude.{◌≡◌, ℕ, Option, Some, IsSome}
use Rattle.std.specs.Borrow.{Fml, LendsSo, MutBor}
use Rattle.h3_connection.specs.Calls.{Sets}
use Rattle.h3_connection.specs.State.{RequestState, kept_at}
use Rattle.h3_connection.specs.StreamSets.{Streams}
use Rattle.h3_requests.specs.contracts.stream.RequestStream.{the_row as stream_row}
use Rattle.h3_requests.specs.contracts.under_way.StreamsUnderWay.{the_row}

-- the stream is this one now, and where it was this one before nothing has changed
abbrev pub WritesThere : (old new : Streams RequestState) → ℕ → RequestState → Type 0
WritesThere old new id x = (IsSome (kept_at old id) → Sets old new id x) × (kept_at old id ≡ Some x → new ≡ old)

-- the stream is the last one that was written through r, and where r is none nothing has changed
abbrev pub LendsUnderWay : MutBor (Streams RequestState) → ℕ → Option (MutBor RequestState) → Fml
LendsUnderWay m id r = LendsSo the_row stream_row m r (λ n x. WritesThere m.now n id x) (λ n. n ≡ m.now)
