use Rattle.std.proofs.Common.{◌≤◌, length}
use Rattle.h3_bench.proofs.huffman.decode_all.Given as goal

abbrev pub invariant-loop-payload : goal.invariant-loop-payload
invariant-loop-payload l = l.written ≤ length l.out
