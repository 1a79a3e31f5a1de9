-- Streams as what stands at each number.
use Rattle.std.specs.Prelude.{ℕ, ◌^◌, List, [], ◌∷◌, Option, Some, None}
use Rattle.std.specs.List.{range_with_len}
use Rattle.h3_connection.specs.StreamSets.{Streams}

abbrev pub put_first : {X : Type 0} → ℕ → Option X → Streams X → Streams X
put_first q None streams = streams
put_first q (Some x) streams = (q, x) ∷ streams

-- what stands at these numbers
abbrev pub listed_at : {X : Type 0} → (ℕ → Option X) → List ℕ → Streams X
listed_at f [] = []
listed_at f (q ∷ qs) = put_first q (f q) (listed_at f qs)

-- what stands there, and where nothing does the other
abbrev pub either : {X : Type 0} → Option X → Option X → Option X
either (Some x) other = Some x
either None other = other

-- The streams of all ids, by what stands at each.
unfoldable pub streams_of : {X : Type 0} → (ℕ → Option X) → Streams X
streams_of f = listed_at f (range_with_len 0 (2 ^ 64))
