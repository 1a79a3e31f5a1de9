use Rattle.h3_world.proofs.CutOff.{cut_off_sound}
use Rattle.h3_world.proofs.EventsSound.{message_sound}
use Rattle.h3_world.proofs.HeldBack.{held_back_sound}
use Rattle.h3_world.proofs.laws.what_refused_memory_leaves_is_sound.Goals as goal

pub returns-clause-insertions : goal.returns-clause-insertions
returns-clause-insertions c = cut_off_sound (record {
  sound = λ counts most. c.every_session_is_sound.ensures counts most 0 0;
  inserts_none = c.encoders_without_insertions_use_no_table.ensures.inserts;
  still_empty = c.encoders_without_insertions_use_no_table.ensures.still;
})

pub returns-clause-held : goal.returns-clause-held
returns-clause-held c = held_back_sound

pub returns-clause-bytes : goal.returns-clause-bytes
returns-clause-bytes c = message_sound
