use Rattle.std.proofs.Common.{length, ◌-◌, ◌≡◌, ◌*◌, ◌%◌, ◌^◌, ◌<◌, ◌≤◌, bit_or}
use Rattle.h3_huffman.proofs.Judging.{Judged}
use Rattle.h3_huffman.proofs.decode.is_encoding.Given as goal

abbrev pub invariant-symbols : goal.invariant-symbols
invariant-symbols l = record {
  judged : Judged l.payload l.acc l.count l.read;
  few : l.count < 38;
}

abbrev pub decreases-symbols : goal.decreases-symbols
decreases-symbols l = l.count

abbrev pub invariant-reading : goal.invariant-reading
invariant-reading l = record {
  judged : Judged l.payload l.acc l.count l.read;
  few : l.count < 30;
}

abbrev pub decreases-reading : goal.decreases-reading
decreases-reading l = length l.payload - l.read

abbrev pub invariant-ending : goal.invariant-ending
invariant-ending l = record {
  judged : Judged l.payload l.acc l.count l.read;
  few : l.count < 30;
  all : length l.payload ≤ l.read;
  wide : l.wide ≡ bit_or (l.acc * 2 ^ 32 % 2 ^ 64) 4294967295;
}

abbrev pub decreases-ending : goal.decreases-ending
decreases-ending l = l.count
