use Rattle.std.proofs.Common.{◌≡◌, ◌<◌, length}
use Rattle.h3_huffman.specs.Huffman.{huffman}
use Rattle.h3_huffman.specs.Writing.{Written}
use Rattle.h3_huffman.proofs.encode.encode_into.Given as goal

abbrev pub invariant-last : goal.invariant-last
invariant-last l = record {
  standing : Written l.plain l.out (length l.plain) l.acc l.count l.written;
  few : l.count < 32;
  exact : length l.out ≡ length (huffman l.plain);
}

abbrev pub decreases-last : goal.decreases-last
decreases-last l = l.count
