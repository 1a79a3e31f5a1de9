-- What is stored of a stream: one that is under way as it is, and one that is over by its way.
use Rattle.std.specs.Prelude.{ℕ, Option, Some, None}
use Rattle.h3_connection.specs.State.{RequestState, kept_at}
use Rattle.h3_connection.specs.StreamSets.{Streams}
use Rattle.h3_requests.specs.Listed.{either, streams_of}
use Rattle.h3_requests.specs.declared.map.StreamMap.{StreamMap}

abbrev pub under_way_at : StreamMap → ℕ → Option RequestState
under_way_at s id = kept_at s.under_way id

abbrev pub over_at : StreamMap → ℕ → Option RequestState
over_at s id = kept_at s.over id

abbrev pub stored_at : StreamMap → ℕ → Option RequestState
stored_at s id = either (under_way_at s id) (over_at s id)

-- the streams that are there
abbrev pub streams_in : StreamMap → Streams RequestState
streams_in s = streams_of (stored_at s)
