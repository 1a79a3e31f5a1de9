-- Streams that are unblocked: the insert count reached the required insert count that they wait for (RFC 9204, section 2.1.2).
use Rattle.std.specs.Prelude.{ℕ, Bool, false, ◌&&◌, nat_le, nat_lt, Option, Some, None}
use Rattle.h3_connection.specs.State.{RequestState}

-- so many insertions unblock a stream that waits for this required insert count; one that waits for none has a count of 0
abbrev pub unblocks : ℕ → ℕ → Bool
unblocks inserted required = nat_lt 0 required && nat_le required inserted

-- there is a stream, which so many insertions unblock
abbrev pub is_unblocked : ℕ → Option RequestState → Bool
is_unblocked inserted None = false
is_unblocked inserted (Some r) = unblocks inserted r.incoming.waits_for

-- and its id is not before this one
abbrev pub is_next : ℕ → ℕ → ℕ → Option RequestState → Bool
is_next inserted from id r = nat_le from id && is_unblocked inserted r
