-- The first id above all streams.
use Rattle.std.specs.Prelude.{ℕ, ◌+◌, [], ◌∷◌, if◌then◌else◌, nat_lt}
use Rattle.h3_connection.specs.StreamSets.{Streams}

abbrev pub greater : ℕ → ℕ → ℕ
greater one other = if nat_lt one other then other else one

-- The ids of request streams are four apart (RFC 9000, section 2.1): the first one above all of these.
abbrev pub first_above : {X : Type 0} → Streams X → ℕ
first_above [] = 0
first_above ((id, x) ∷ streams) = greater (id + 4) (first_above streams)
