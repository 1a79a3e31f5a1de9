-- Updates of priorities that wait, by their places, and settings of the peer that have no meaning.
use Rattle.std.specs.Prelude.{ℕ, ◌<◌, Bool, ◌==◌, length, vec_capacity, vec_len, Option}
use Rattle.std.specs.List.{position}
use Rattle.h3_priority.specs.Priority.{PriorityParameters}
use Rattle.h3_connection.specs.StreamSets.{Streams}
use Rattle.h3_connection.specs.OtherSettings.{OtherSettings}
use Rattle.h3_connection.specs.Updates.{Updates}
use Rattle.h3_unidirectional.specs.declared.other_settings.OtherSettings.{OtherSettings as KeptSettings}
use Rattle.h3_unidirectional.specs.declared.updates.WaitingUpdates.{WaitingUpdates}

abbrev pub is_of : ℕ → ℕ × PriorityParameters → Bool
is_of id update = update.0 == id

-- the place of the first one of this stream
abbrev pub place_of : Streams PriorityParameters → ℕ → Option ℕ
place_of waiting id = position (is_of id) waiting

-- what a contract sees of them
abbrev pub updates_in : WaitingUpdates → Updates
updates_in u = record { most = u.most; waiting = u.waiting.items }

-- and of settings that have no meaning
abbrev pub others_in : KeptSettings → OtherSettings
others_in o = record { most = o.most; kept = o.kept.items }

-- one more takes no memory, if one more may be kept
abbrev pub HasSpare : WaitingUpdates → Type 0
HasSpare u = length u.waiting.items < u.most → vec_len u.waiting < vec_capacity u.waiting
