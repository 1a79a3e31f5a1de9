-- The rows hold, each by computing both sides.
use Rattle.std.proofs.Common.{refl}
use Rattle.h3_scheduler.specs.Rows.{late_one, lowest_first, newer_ones, nobody, other_priority, urgent_first, RowsHold}
use Rattle.h3_scheduler.specs.Rounds.{no_rounds}
use Rattle.h3_scheduler.specs.Streams.{next_of}
use Rattle.h3_scheduler.specs.Turning.{Told}

urgent : Told no_rounds urgent_first
unfolding next_of
urgent = (refl, (refl, (refl, (refl, (refl, (refl, tt))))))

late : Told no_rounds late_one
unfolding next_of
late = (refl, (refl, tt))

newer : Told no_rounds newer_ones
unfolding next_of
newer = (refl, (refl, (refl, (refl, tt))))

lowest : Told no_rounds lowest_first
unfolding next_of
lowest = (refl, (refl, (refl, (refl, tt))))

other : Told no_rounds other_priority
unfolding next_of
other = (refl, (refl, (refl, tt)))

none : Told no_rounds nobody
unfolding next_of
none = (refl, (refl, (refl, (refl, tt))))

pub rows_hold : RowsHold
rows_hold = (urgent, late, newer, lowest, other, none)
