-- What PRIORITY_UPDATE frames said that waits to be used (RFC 9218, section 7.2).
use Rattle.std.specs.Prelude.{ℕ, Bool, ◌||◌, [], length, min, nat_lt, if◌then◌else◌, is_some}
use Rattle.h3_priority.specs.Priority.{PriorityParameters}
use Rattle.h3_connection.specs.StreamSets.{Streams, set_stream, stream_at}
use Rattle.h3_connection.specs.declared.setup.Announced.{Announced}

-- of so many streams at most, by their ids: the last one of each
pub record Updates : Type 0 where
  pub most : ℕ
  pub waiting : Streams PriorityParameters

-- how many an endpoint keeps
abbrev pub most_updates : Announced → ℕ
most_updates own = min 128 own.choices.extensions.priority_updates

abbrev pub no_updates : ℕ → Updates
no_updates most = record { most = most; waiting = [] }

-- there is room for one of this stream: one of it waits already, or not so many do
abbrev pub has_room : Updates → ℕ → Bool
has_room u id = is_some (stream_at u.waiting id) || nat_lt (length u.waiting) u.most

-- An update came: it takes the place of an earlier one of its stream, whole. Where there is no room it is dropped.
abbrev pub with_update : Updates → ℕ → PriorityParameters → Updates
with_update u id p = if has_room u id then record u { waiting = set_stream u.waiting id p } else u
