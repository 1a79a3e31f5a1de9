use Rattle.std.proofs.Common.{◌≤◌, length}
use Rattle.h3_bench.proofs.huffman.encode_all.Given as goal

abbrev pub invariant-loop-string : goal.invariant-loop-string
invariant-loop-string l = l.written ≤ length l.out
