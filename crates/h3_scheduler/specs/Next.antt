-- What is said of the stream that sends next, over any list of streams.
use Rattle.std.specs.Prelude.{◌≡◌, ◌<◌, ℕ, Bool, true, false, ◌&&◌, ◌==◌, Option, Some, None}
use Rattle.std.specs.List.{AllByRecursion}
use Rattle.h3_priority.specs.Priority.{default_parameters}
use Rattle.h3_scheduler.specs.Least.{IsLeast}
use Rattle.h3_scheduler.specs.Places.{Places}
use Rattle.h3_scheduler.specs.Streams.{Stream, Streams, any_by, id_of, stands, stands_as, urgency_of}

-- The places are those of the streams.
abbrev pub ArePlaces : Places → Streams → Type 0
ArePlaces places streams = (urgency : ℕ) (incremental : Bool) (q : ℕ) → places urgency incremental q ≡ any_by id_of (stands_as urgency incremental) streams q

-- it stands at this urgency
abbrev pub stands_at : ℕ → ℕ × Stream → Bool
stands_at urgency s = stands s.1 && (urgency_of s == urgency)

abbrev pub some_stands : Streams → ℕ → Bool
some_stands streams id = any_by id_of (λ s. stands s.1) streams id

-- It stands, and none that stands is more urgent; or none stands.
abbrev pub IsMostUrgent : Streams → Option ℕ → Type 0
IsMostUrgent streams None = (id : ℕ) → some_stands streams id ≡ false
IsMostUrgent streams (Some id) =
    (urgency : ℕ) × (any_by id_of (stands_at urgency) streams id ≡ true) × ((other : ℕ) → other < urgency → any_by urgency_of (λ s. stands s.1) streams other ≡ false)

-- it has the priority of which nothing is said: urgency 3, not incremental
abbrev pub IsDefault : ℕ × Stream → Type 0
IsDefault s = s.1.priority ≡ default_parameters

-- Nothing is said of any priority.
abbrev pub AreDefault : Streams → Type 0
AreDefault streams = AllByRecursion IsDefault streams

-- It is the least id of those that stand.
abbrev pub IsLowest : Streams → Option ℕ → Type 0
IsLowest streams found = IsLeast (some_stands streams) 0 found
