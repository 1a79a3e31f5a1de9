-- What came from the peer and was stored, and is not read yet because memory was refused.
use Rattle.std.specs.Prelude.{ℕ, Bool, false, List, ◌==◌}
use Rattle.std.specs.List.{list_any}
pub use Rattle.h3_connection.specs.declared.arrival.Arrival.{Arrival}
pub use Rattle.h3_connection.specs.declared.arrival.Arrival.TheVariants.{BytesCame, EndCame, ResetCame}

abbrev pub stream_of : Arrival → ℕ
stream_of (BytesCame id bytes) = id
stream_of (EndCame id) = id
stream_of (ResetCame id code) = id

-- after it nothing more comes on the stream
abbrev pub closes : ℕ → Arrival → Bool
closes id (BytesCame other bytes) = false
closes id (EndCame other) = other == id
closes id (ResetCame other code) = other == id

abbrev pub is_closed_in : List Arrival → ℕ → Bool
is_closed_in arrivals id = list_any (closes id) arrivals
