use Rattle.std.proofs.Common.{◌≡◌, ◌-◌, ◌<◌, ◌≤◌, length}
use Rattle.h3_huffman.specs.Writing.{IsPending}
use Rattle.h3_huffman.proofs.encode.encode_long.Given as goal

abbrev pub invariant-pairs : goal.invariant-pairs
invariant-pairs l = record {
  standing : IsPending l.plain l.out l.place l.pending.acc l.pending.count l.pending.written;
  few : l.pending.count < 8;
  within : l.place ≤ length l.plain;
  same : length l.out ≡ length l.fn.out;
}

abbrev pub decreases-pairs : goal.decreases-pairs
decreases-pairs l = length l.plain - l.place
