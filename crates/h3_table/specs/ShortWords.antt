-- How much memory words of 64 bits take.
use Rattle.std.specs.Prelude.{◌≤◌, ◌+◌, ◌*◌, length}
use Rattle.std.specs.Vec.{vec_capacity}
use Rattle.h3_table.specs.declared.words.Words.{Words}

-- The row has at most four places for each word that was put in, and 16 more; its block has room for at most twice as many, and for 8
-- more.
pub record IsShort (words : Words) : Type 0 where
  pub row : length words.row.items ≤ 4 * words.count + 16
  pub block : vec_capacity words.row ≤ 2 * length words.row.items + 8

-- At most one word more was put in.
pub record IsOneMore (before after : Words) : Type 0 where
  pub count : after.count ≤ before.count + 1
  pub further : length after.further.entries ≤ length before.further.entries + 1

-- None was put in.
pub record AreNoMore (before after : Words) : Type 0 where
  pub count : after.count ≤ before.count
  pub further : length after.further.entries ≤ length before.further.entries
