use Rattle.std.proofs.Common.{◌≡◌, ◌-◌, ◌<◌, ◌≤◌, length}
use Rattle.h3_huffman.specs.Writing.{IsPending}
use Rattle.h3_huffman.proofs.encode.put_fours.Given as goal

abbrev pub invariant-fours : goal.invariant-fours
invariant-fours l = record {
  standing : IsPending l.plain l.out l.place l.pending.acc l.pending.count l.pending.written;
  few : l.pending.count < 32;
  within : l.place ≤ length l.plain;
  same : length l.out ≡ length l.fn.out;
}

abbrev pub decreases-fours : goal.decreases-fours
decreases-fours l = length l.plain - l.place
