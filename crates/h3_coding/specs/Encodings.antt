-- The encodings of a number below 2 ^ 62 (RFC 9000, section 16).
use Rattle.std.specs.Prelude.{◌≡◌, ℕ, ◌+◌, ◌-◌, ◌*◌, ◌/◌, ◌^◌, ◌<◌, ◌≤◌, List, [], ◌∷◌, length, nat_lt, if◌then◌else◌}
use Rattle.std.specs.List.{AllByRecursion}
use Rattle.std.specs.Int.{bytes_high_first}

-- what the bytes are worth, the highest first: their sum by powers of 256
abbrev pub big_endian : List ℕ → ℕ
big_endian [] = 0
big_endian (byte ∷ bytes) = byte * 256 ^ length bytes + big_endian bytes

abbrev pub IsByte : ℕ → Type 0
IsByte n = n < 256

-- The len bytes are worth v and form times 2 ^ (8 * len - 2), and v is below that power.
pub record IsForm (form len v : ℕ) (bytes : List ℕ) : Type 0 where
  pub count : length bytes ≡ len
  pub each : AllByRecursion IsByte bytes
  pub below : v < 2 ^ (8 * len - 2)
  pub worth : big_endian bytes ≡ v + form * 2 ^ (8 * len - 2)

-- The bytes are an encoding of v.
pub data IsEncoding (v : ℕ) (bytes : List ℕ) : Type 0 where
  one : IsForm 0 1 v bytes → IsEncoding v bytes
  two : IsForm 1 2 v bytes → IsEncoding v bytes
  four : IsForm 2 4 v bytes → IsEncoding v bytes
  eight : IsForm 3 8 v bytes → IsEncoding v bytes

-- The bytes are the one encoding of v with the fewest bytes.
pub record IsShortest (v : ℕ) (bytes : List ℕ) : Type 0 where
  pub is_encoding : IsEncoding v bytes
  pub shortest : (octets : List ℕ) → IsEncoding v octets → length bytes ≤ length octets
  pub only : (octets : List ℕ) → IsEncoding v octets → length octets ≤ length bytes → octets ≡ bytes

-- the encoding of v that has the fewest bytes
unfoldable pub encoding : ℕ → List ℕ
encoding v =
    if nat_lt v (2 ^ 6) then bytes_high_first 1 v
    else (if nat_lt v (2 ^ 14) then bytes_high_first 2 (2 ^ 14 + v)
    else (if nat_lt v (2 ^ 30) then bytes_high_first 4 (2 * 2 ^ 30 + v)
    else bytes_high_first 8 (3 * 2 ^ 62 + v)))

-- The bytes begin no encoding: there are none, or fewer than the first one tells. The count is 0, or k
-- where it tells 2 ^ k, and it is taken.
pub data IsUnfinished (bytes : List ℕ) (count : ℕ) (left : List ℕ) : Type 0 where
  empty : bytes ≡ [] → count ≡ 0 → left ≡ [] → IsUnfinished bytes count left
  short : (first : ℕ) → first < 256 → bytes ≡ first ∷ left → count ≡ first / 64 → length bytes < 2 ^ count → IsUnfinished bytes count left
