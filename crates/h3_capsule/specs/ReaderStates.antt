-- A reader of capsules as five numbers.
use Rattle.std.specs.Prelude.{not, ◌==◌, ◌++◌, min, take}
use Rattle.std.specs.Int.{w64, to_le_bytes}
use Rattle.h3_capsule.specs.Capsule.{Place, place_of}
use Rattle.h3_capsule.specs.declared.capsule.ReaderState.{ReaderState}

-- Where a reader stands that has this state. Of a head no more than 15 bytes came, or it would be whole.
unfoldable pub place_of_state : ReaderState → Place
place_of_state s = place_of (not (s.is_at_end == 0)) s.left (take (min s.head_len 15) (to_le_bytes w64 s.head_low ++ to_le_bytes w64 s.head_high))
