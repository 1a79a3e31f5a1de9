-- Sums over streams by their ids, when one of them changes, and of two lists that have the same streams.
use Rattle.std.specs.Prelude.{Option, Some, None, ◌==◌, ◌≢◌, if◌then◌else◌, sum_by, ◌≡◌, ℕ, [], ◌∷◌}
use Rattle.h3_connection.specs.State.{kept_at}
use Rattle.h3_connection.specs.StreamSets.{Streams}

-- the sum of f over the streams
abbrev pub total : {X : Type 0} → (X → ℕ) → Streams X → ℕ
total f streams = sum_by (λ s. f s.1) streams

-- f of a stream, and 0 where none is there
abbrev pub part_of : {X : Type 0} → (X → ℕ) → Option X → ℕ
part_of f None = 0
part_of f (Some x) = f x

-- without the stream of that id
abbrev pub without_stream : {X : Type 0} → Streams X → ℕ → Streams X
without_stream [] id = []
without_stream ((q, y) ∷ streams) id = if q == id then streams else (q, y) ∷ without_stream streams id

-- the stream of that id is gone, and the others are as they were
pub record TakesOut {X : Type 0} (old new : Streams X) (id : ℕ) : Type 0 where
  pub here : kept_at new id ≡ None
  pub others : (q : ℕ) → q ≢ id → kept_at new q ≡ kept_at old q
