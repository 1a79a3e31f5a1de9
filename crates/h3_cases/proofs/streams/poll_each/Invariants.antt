use Rattle.std.proofs.Common.{◌<◌, ◌^◌, length}
use Rattle.h3_wire.specs.Streams.{left}
use Rattle.h3_cases.specs.declared.feed.Feed.{Feed}
use Rattle.h3_cases.proofs.streams.poll_each.Given as goal

abbrev pub invariant-loop-call : goal.invariant-loop-call
invariant-loop-call l = length (left (λ (f : Feed). f.bytes.now) l.stream) < 2 ^ 62
