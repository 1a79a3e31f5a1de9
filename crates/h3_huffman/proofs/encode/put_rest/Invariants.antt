use Rattle.std.proofs.Common.{◌≡◌, ◌-◌, ◌<◌, ◌≤◌, length}
use Rattle.h3_huffman.specs.Writing.{IsPending}
use Rattle.h3_huffman.proofs.encode.put_rest.Given as goal

abbrev pub invariant-ones : goal.invariant-ones
invariant-ones l = record {
  standing : IsPending l.plain l.out l.place l.pending.acc l.pending.count l.pending.written;
  few : l.pending.count < 32;
  within : l.place ≤ length l.plain;
  same : length l.out ≡ length l.fn.out;
}

abbrev pub decreases-ones : goal.decreases-ones
decreases-ones l = length l.plain - l.place
