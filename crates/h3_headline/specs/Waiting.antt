-- How many streams of an endpoint wait, and how many of the world.
use Rattle.std.proofs.Common.{ℕ, Bool, nat_lt, if◌then◌else◌, ◌≡◌, true, List, Some, [], ◌∷◌}
use Rattle.std.specs.Prelude.{◌&&◌, is_none, count_by, slice_get, ◌==◌}
use Rattle.h3_proto.specs.declared.stream.Side.{Side}
use Rattle.h3_world.specs.World.{Exchange}
use Rattle.h3_world.specs.Shown.{incoming}
use Rattle.h3_connection.specs.Incoming.{Incoming}
use Rattle.h3_connection.specs.StreamSets.{Streams, stream_at}
use Rattle.h3_proto.specs.StreamIds.{is_request_stream, index_of}

abbrev pub waits_in : ℕ → Side → Exchange → Bool
waits_in n side e = nat_lt n (incoming side e).waits_for && is_none (incoming side e).fault

abbrev pub one_if : Bool → ℕ
one_if b = if b then 1 else 0

abbrev pub waiting_above : ℕ → Streams Incoming → ℕ
waiting_above n streams = count_by (λ s. nat_lt n s.1.waits_for) streams

-- a stream that waits is one of an exchange that does
pub record WaitsAt (n : ℕ) (side : Side) (es : List Exchange) (id : ℕ) : Type 0 where
  pub request : is_request_stream id ≡ true
  pub e : Exchange
  pub at : slice_get es (index_of id) ≡ Some e
  pub waits : waits_in n side e ≡ true

-- all but the stream that is found there
abbrev pub without : Streams Incoming → ℕ → Streams Incoming
without [] id = []
without ((q, i) ∷ streams) id = if q == id then streams else (q, i) ∷ without streams id

-- the stream of an exchange that waits
pub record WaitsThere (n : ℕ) (streams : Streams Incoming) (id : ℕ) : Type 0 where
  pub i : Incoming
  pub at : stream_at streams id ≡ Some i
  pub waits : nat_lt n i.waits_for ≡ true
