use Rattle.h3_memory.proofs.ComesBack.{pull_catches_up, listed_catches_up, bytes_catch_up, end_catches_up, reset_catches_up, nothing_left, head_again, fields_again, trailer_again, trailer_fields_again, everything_out, everything_listed}
use Rattle.h3_memory.proofs.laws.once_memory_is_back_nothing_is_lost.Goals as goal

pub returns-clause-pull : goal.returns-clause-pull
returns-clause-pull c = pull_catches_up

pub returns-clause-listed : goal.returns-clause-listed
returns-clause-listed c = listed_catches_up

pub returns-clause-bytes : goal.returns-clause-bytes
returns-clause-bytes c = bytes_catch_up

pub returns-clause-end : goal.returns-clause-end
returns-clause-end c = end_catches_up

pub returns-clause-reset : goal.returns-clause-reset
returns-clause-reset c = reset_catches_up

pub returns-clause-none : goal.returns-clause-none
returns-clause-none c = nothing_left

pub returns-clause-head : goal.returns-clause-head
returns-clause-head c = head_again

pub returns-clause-fields : goal.returns-clause-fields
returns-clause-fields c = fields_again

pub returns-clause-trailer : goal.returns-clause-trailer
returns-clause-trailer c = trailer_again

pub returns-clause-trailer_fields : goal.returns-clause-trailer_fields
returns-clause-trailer_fields c = trailer_fields_again

pub returns-clause-all : goal.returns-clause-all
returns-clause-all c = everything_out (record {
  worlds = c.what_is_cited_holds.ensures.worlds;
  insertions = c.what_refused_memory_leaves_is_sound.ensures.insertions;
  held = c.what_refused_memory_leaves_is_sound.ensures.held;
  bytes = c.what_refused_memory_leaves_is_sound.ensures.bytes;
})

pub returns-clause-all_listed : goal.returns-clause-all_listed
returns-clause-all_listed c = everything_listed (record {
  worlds = c.what_is_cited_holds.ensures.worlds;
  insertions = c.what_refused_memory_leaves_is_sound.ensures.insertions;
  held = c.what_refused_memory_leaves_is_sound.ensures.held;
  bytes = c.what_refused_memory_leaves_is_sound.ensures.bytes;
})
