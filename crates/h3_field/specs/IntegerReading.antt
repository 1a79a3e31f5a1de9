-- How a prefixed integer is read (RFC 9204, section 4.1.1; RFC 7541, section 5.1): also one that is longer than it need be, while its value is in range.
use Rattle.std.specs.Prelude.{◌≡◌, ◌<◌, ◌≤◌, ℕ, ◌+◌, ◌*◌, ◌/◌, ◌%◌, ◌^◌, List, [], ◌∷◌, if◌then◌else◌, nat_lt, nat_le}
use Rattle.h3_field.specs.Integer.{ones}
use Rattle.h3_field.specs.Reading.{Reading, Whole, Unfinished, Bad, then_read}

-- values from this one on are out of range
abbrev pub integer_limit : ℕ → ℕ
integer_limit size = 2 ^ 63 + ones size

-- Groups of seven bits, of which the first has that place. The sum so far decides, also where more groups follow.
abbrev pub groups_reading : ℕ → ℕ → ℕ → List ℕ → Reading ℕ
groups_reading limit sum place [] = Unfinished
groups_reading limit sum place (byte ∷ rest) =
    if nat_le limit (sum + byte % 128 * 128 ^ place) then Bad else (
    if nat_lt byte 128 then Whole (sum + byte % 128 * 128 ^ place) rest else
    groups_reading limit (sum + byte % 128 * 128 ^ place) (place + 1) rest)

-- the flags in the first byte, and the number
abbrev pub integer : ℕ → List ℕ → Reading (ℕ × ℕ)
integer size [] = Unfinished
integer size (first ∷ rest) =
    if nat_lt (first % 2 ^ size) (ones size) then Whole (first / 2 ^ size, first % 2 ^ size) rest else
    then_read (groups_reading (integer_limit size) (ones size) 0 rest) (λ n after. Whole (first / 2 ^ size, n) after)

-- What the groups are worth: the low seven bits of each, by powers of 128.
abbrev pub groups_worth : List ℕ → ℕ
groups_worth [] = 0
groups_worth (byte ∷ rest) = byte % 128 + 128 * groups_worth rest

-- All groups but the last have the top bit set.
abbrev pub AreGroups : List ℕ → Type 0
AreGroups [] = ⊥
AreGroups (byte ∷ []) = byte < 128
AreGroups (byte ∷ next ∷ rest) = (128 ≤ byte) × AreGroups (next ∷ rest)

-- The bytes are one encoding of the number, with these flags above it.
pub data IsInteger (size flags n : ℕ) : List ℕ → Type 0 where
  InPrefix : n < ones size → IsInteger size flags n ((flags * 2 ^ size + n) ∷ [])
  Behind : (groups : List ℕ) → AreGroups groups → n ≡ ones size + groups_worth groups → IsInteger size flags n ((flags * 2 ^ size + ones size) ∷ groups)
