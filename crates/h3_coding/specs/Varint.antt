-- The number that bytes begin with (RFC 9000, section 16).
use Rattle.std.specs.Prelude.{◌≡◌, ℕ, ◌+◌, ◌-◌, ◌*◌, ◌/◌, ◌%◌, ◌^◌, List, [], ◌∷◌, length, take, drop, nat_lt, Option, Some, None, Result, Ok, Err, if◌then◌else◌}
use Rattle.h3_coding.specs.Encodings.{big_endian}
use Rattle.h3_coding.specs.declared.coding.UnexpectedEnd.{UnexpectedEnd}

-- the number of a first byte and the bytes that it asks for
abbrev pub varint_of : ℕ → List ℕ → ℕ
varint_of first more = first % 64 * 256 ^ length more + big_endian more

-- the number at the front and the bytes behind it, or none where fewer bytes are there than the first one tells
unfoldable pub varint_at : List ℕ → Option (ℕ × List ℕ)
varint_at [] = None
varint_at (first ∷ rest) =
    let more = 2 ^ (first / 64) - 1 in
    if nat_lt (length rest) more then None else Some (varint_of first (take more rest), drop more rest)

-- a read takes the number at the front, and fails only where there is none
abbrev pub ReadsVarint : Result ℕ UnexpectedEnd → List ℕ → List ℕ → Type 0
ReadsVarint (Ok v) old new = varint_at old ≡ Some (v, new)
ReadsVarint (Err e) old new = varint_at old ≡ None
