use Rattle.std.proofs.Common.{◌-◌, ◌<◌, ◌≤◌, get_or}
use Rattle.h3_huffman.specs.declared.tables.TheConstants.{LIMITS}
use Rattle.h3_huffman.proofs.decode.long_word.Given as goal

abbrev pub invariant-loop-row : goal.invariant-loop-row
invariant-loop-row l = record {
  within : l.row < 14;
  above : get_or LIMITS l.row 0 ≤ l.window;
}

abbrev pub decreases-loop-row : goal.decreases-loop-row
decreases-loop-row l = 14 - l.row
