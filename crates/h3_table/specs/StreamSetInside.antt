-- What the fields of a `StreamSet` hold: words for at most as many streams as there are.
use Rattle.std.specs.Prelude.{◌≤◌, length}
use Rattle.h3_table.specs.ShortWords.{IsShort}
use Rattle.h3_table.specs.StreamSet.{streams_in}
use Rattle.h3_table.specs.Words.{word_at}
use Rattle.h3_table.specs.declared.stream_set.StreamSet.TheInside.{Inside}

pub record IsSmall (s : Inside) : Type 0 where
  pub short : IsShort s.words
  pub count : s.words.count ≤ length (streams_in (word_at s.words))
  pub further : length s.words.further.entries ≤ length (streams_in (word_at s.words))
