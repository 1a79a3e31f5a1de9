-- Prefixed integers (RFC 9204, section 4.1.1; RFC 7541, section 5.1): the value in the low bits of a byte, or all ones
-- there and the rest behind it.
use Rattle.std.specs.Prelude.{ℕ, zero, suc, ◌+◌, ◌*◌, ◌-◌, ◌/◌, ◌%◌, ◌^◌, List, [], ◌∷◌, if◌then◌else◌, nat_lt}

-- Groups of seven bits, the low group first. Each but the last has its top bit set. There are at most so many.
abbrev pub groups : ℕ → ℕ → List ℕ
groups zero n = []
groups (suc most) n = if nat_lt n 128 then n ∷ [] else (128 + n % 128) ∷ groups most (n / 128)

-- the greatest value of that many bits
abbrev pub ones : ℕ → ℕ
ones size = 2 ^ size - 1

-- the shortest encoding of a number in the low bits of a byte whose high bits are the flags. Below 2 ^ 63, nine groups serve
abbrev pub prefixed : ℕ → ℕ → ℕ → List ℕ
prefixed size flags n =
    if nat_lt n (ones size) then (flags * 2 ^ size + n) ∷ []
    else (flags * 2 ^ size + ones size) ∷ groups 9 (n - ones size)
