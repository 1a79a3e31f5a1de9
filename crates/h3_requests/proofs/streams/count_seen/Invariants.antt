-- So many are there.
use Rattle.h3_requests.specs.Seen.{AreSeen}
use Rattle.h3_requests.specs.Stored.{streams_in}
use Rattle.h3_requests.proofs.streams.count_seen.Given as goal

abbrev pub invariant-loop-count : goal.invariant-loop-count
invariant-loop-count l = AreSeen l.count (streams_in l.streams)
