-- What the streams become, once one that was lent is given back.
use Rattle.std.specs.Prelude.{◌≡◌, ℕ, Option, Some, IsSome}
use Rattle.std.specs.Borrow.{Fml, LendsSo, MutBor}
use Rattle.h3_connection.specs.Calls.{AllSame, Sets}
use Rattle.h3_connection.specs.State.{RequestState, kept_at}
use Rattle.h3_connection.specs.StreamSets.{Streams, HaveDistinctIds}
use Rattle.h3_requests.specs.Stored.{streams_in, under_way_at}
use Rattle.h3_requests.specs.contracts.map.StreamMap.{the_row}
use Rattle.h3_requests.specs.contracts.stream.RequestStream.{the_row as stream_row}
use Rattle.h3_requests.specs.declared.map.StreamMap.{StreamMap}

-- the stream, where it was under way, is this one now, and the others stay; where it was this one before, each stream is as it was
abbrev pub Writes : (old new : Streams RequestState) → (under_way : Option RequestState) → ℕ → RequestState → Type 0
Writes old new under_way id x =
    (IsSome under_way → Sets old new id x) × (under_way ≡ Some x → AllSame old new) × HaveDistinctIds new
    × ((y : RequestState) → under_way ≡ Some y → kept_at old id ≡ Some y)

-- the stream is the last one that was written through r, and where r is none nothing has changed
abbrev pub LendsStream : MutBor StreamMap → ℕ → Option (MutBor RequestState) → Fml
LendsStream m id r = LendsSo the_row stream_row m r (λ n x. Writes (streams_in m.now) (streams_in n) (under_way_at m.now id) id x) (λ n. n ≡ m.now)
