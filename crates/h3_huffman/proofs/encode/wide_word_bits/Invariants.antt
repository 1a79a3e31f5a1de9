use Rattle.std.proofs.Common.{◌≡◌, ◌*◌, ◌≤◌, length, take, flat_map}
use Rattle.h3_huffman.specs.Huffman.{code_word}
use Rattle.h3_huffman.proofs.encode.wide_word_bits.Given as goal

abbrev pub invariant-loop-byte : goal.invariant-loop-byte
invariant-loop-byte l = record {
  value : l.total ≡ length (flat_map code_word (take l.byte-index l.plain));
  most : l.total ≤ 30 * l.byte-index;
}
