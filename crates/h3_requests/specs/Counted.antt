-- The counts that the streams wait for, kept beside them.
use Rattle.h3_blocked.specs.Counting.{Agrees, IsSound}
use Rattle.h3_blocked.specs.declared.counts.Blocked.{Blocked}
use Rattle.h3_connection.specs.State.{RequestState}
use Rattle.h3_connection.specs.StreamSets.{Streams, HaveDistinctIds}

-- the counts are those that the streams wait for, in order, and no id stands twice
pub record AreCounted (counts : Blocked) (streams : Streams RequestState) : Type 0 where
  pub sound : IsSound counts
  pub agrees : Agrees counts streams
  pub distinct : HaveDistinctIds streams
