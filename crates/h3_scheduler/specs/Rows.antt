-- Worked rows: streams, and the ids that have their turns then.
use Rattle.std.specs.Prelude.{ℕ, Bool, true, false, List, [], ◌∷◌}
use Rattle.h3_scheduler.specs.Rounds.{no_rounds}
use Rattle.h3_scheduler.specs.Streams.{Stream}
use Rattle.h3_scheduler.specs.Turning.{Part, Told}

-- a stream that has something to send, one that has nothing, and one that is held
abbrev pub sender : ℕ → ℕ → Bool → ℕ × Stream
sender id urgency incremental =
    (id, record { priority = record { urgency = urgency; incremental = incremental }; is_ready = true; is_held = false })

abbrev pub idle : ℕ → ℕ → Bool → ℕ × Stream
idle id urgency incremental =
    (id, record { priority = record { urgency = urgency; incremental = incremental }; is_ready = false; is_held = false })

abbrev pub held : ℕ → ℕ → Bool → ℕ × Stream
held id urgency incremental =
    (id, record { priority = record { urgency = urgency; incremental = incremental }; is_ready = true; is_held = true })

-- the most urgent one first; then the first that is not incremental and those that are take turns
abbrev pub urgent_first : List Part
urgent_first =
    (sender 0 3 false ∷ sender 4 3 false ∷ sender 8 3 true ∷ sender 12 3 true ∷ sender 16 1 false ∷ [], 2, 16 ∷ 16 ∷ []) ∷
    (sender 0 3 false ∷ sender 4 3 false ∷ sender 8 3 true ∷ sender 12 3 true ∷ idle 16 1 false ∷ [], 6, 0 ∷ 8 ∷ 12 ∷ 0 ∷ 8 ∷ 12 ∷ []) ∷
    (sender 4 3 false ∷ sender 8 3 true ∷ sender 12 3 true ∷ idle 16 1 false ∷ [], 3, 4 ∷ 8 ∷ 12 ∷ []) ∷
    (sender 4 3 false ∷ held 8 3 true ∷ sender 12 3 true ∷ idle 16 1 false ∷ [], 4, 4 ∷ 12 ∷ 4 ∷ 12 ∷ []) ∷
    (sender 4 3 false ∷ sender 8 3 true ∷ sender 12 3 true ∷ idle 16 1 false ∷ [], 3, 4 ∷ 8 ∷ 12 ∷ []) ∷
    (sender 4 3 false ∷ sender 8 3 true ∷ sender 12 3 true ∷ sender 16 1 false ∷ [], 1, 16 ∷ []) ∷
    []

-- one that comes during a round waits for the next
abbrev pub late_one : List Part
late_one =
    (sender 0 3 false ∷ sender 8 3 true ∷ sender 12 3 true ∷ [], 1, 0 ∷ []) ∷
    (sender 0 3 false ∷ sender 8 3 true ∷ sender 12 3 true ∷ sender 20 3 true ∷ [], 6, 8 ∷ 12 ∷ 0 ∷ 8 ∷ 12 ∷ 20 ∷ []) ∷
    []

-- streams that come again and again do not put off an older one
abbrev pub newer_ones : List Part
newer_ones =
    (sender 0 3 true ∷ sender 4 3 true ∷ [], 2, 0 ∷ 4 ∷ []) ∷
    (sender 0 3 true ∷ sender 4 3 true ∷ sender 8 3 true ∷ [], 1, 0 ∷ []) ∷
    (sender 0 3 true ∷ sender 4 3 true ∷ sender 8 3 true ∷ sender 12 3 true ∷ [], 2, 4 ∷ 8 ∷ []) ∷
    (sender 0 3 true ∷ sender 4 3 true ∷ sender 8 3 true ∷ sender 12 3 true ∷ sender 16 3 true ∷ [], 2, 0 ∷ 4 ∷ []) ∷
    []

-- without priorities the lowest id goes first, wherever it stands in the list
abbrev pub lowest_first : List Part
lowest_first =
    (sender 4 3 false ∷ sender 0 3 false ∷ sender 8 3 false ∷ [], 2, 0 ∷ 0 ∷ []) ∷
    (sender 4 3 false ∷ idle 0 3 false ∷ sender 8 3 false ∷ [], 2, 4 ∷ 4 ∷ []) ∷
    (idle 0 3 false ∷ sender 8 3 false ∷ [], 1, 8 ∷ []) ∷
    (sender 0 3 false ∷ sender 8 3 false ∷ [], 1, 0 ∷ []) ∷
    []

-- a new priority counts at once
abbrev pub other_priority : List Part
other_priority =
    (sender 0 3 false ∷ sender 4 7 true ∷ [], 1, 0 ∷ []) ∷
    (sender 0 3 false ∷ sender 4 2 true ∷ [], 1, 4 ∷ []) ∷
    (sender 0 2 true ∷ sender 4 2 true ∷ [], 3, 0 ∷ 4 ∷ 0 ∷ []) ∷
    []

-- nothing sends that is held, has nothing to send, or is not open
abbrev pub nobody : List Part
nobody =
    ([], 1, []) ∷
    (held 0 3 false ∷ [], 1, []) ∷
    (idle 0 3 false ∷ [], 1, []) ∷
    (sender 0 3 false ∷ [], 1, 0 ∷ []) ∷
    []

abbrev pub RowsHold : Type 0
RowsHold =
    Told no_rounds urgent_first × Told no_rounds late_one × Told no_rounds newer_ones × Told no_rounds lowest_first × Told no_rounds other_priority
    × Told no_rounds nobody
