use Rattle.std.proofs.Common.{◌≡◌, ◌≤◌, length}
use Rattle.h3_table.specs.ShortWords.{IsShort}
use Rattle.h3_table.specs.Words.{word_at, HaveSameWords}
use Rattle.h3_table.proofs.words.Words.make_room.Given as goal

abbrev pub invariant-loop-word : goal.invariant-loop-word
invariant-loop-word l = record {
  words : HaveSameWords (word_at l.initial.self) (word_at l.self);
  short : IsShort l.initial.self → IsShort l.self;
  count : l.self.count ≡ l.initial.self.count;
  further : length l.self.further.entries ≤ length l.initial.self.further.entries;
}
