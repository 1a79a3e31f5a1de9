-- What is heard of bytes that were stored behind those that are unread.
use Rattle.std.proofs.Common.{◌≡◌, ℕ, List, [], ◌++◌, append-nil, Option}
use Rattle.h3_connection.specs.Listeners.{Decoding, Hears}

-- all of them were stored first
pub heard_all : (most : ℕ) (old new : Decoding) (bytes : List ℕ) (fault : Option ℕ) (before after : List ℕ) → Hears most (record old { unread = old.unread ++ bytes }) new [] fault before after
    → Hears most old new bytes fault before after
heard_all most old new bytes fault before after h =
    let same : (old.unread ++ bytes) ++ [] ≡ old.unread ++ bytes = append-nil (old.unread ++ bytes) in
    let table = rw same at h.table in
    let code = rw same at h.fault in
    let increment = rw same at h.increment in
    record { table = table; fault = code; increment = increment }
