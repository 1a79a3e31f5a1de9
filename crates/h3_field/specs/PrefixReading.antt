-- How the prefix of an encoded field section is read (RFC 9204, section 4.5.1).
use Rattle.std.specs.Prelude.{◌≡◌, ◌⊎◌, ◌==◌, ◌<◌, ℕ, ◌+◌, ◌%◌, Bool, true, false, List}
use Rattle.h3_field.specs.Reading.{Reading, Whole, then_read}
use Rattle.h3_field.specs.IntegerReading.{integer}
use Rattle.h3_field.specs.Prefix.{IsRequiredCount}

-- the encoded count, the sign, and the distance of the base from the count
pub record EncodedPrefix : Type 0 where
  pub encoded : ℕ
  pub is_negative : Bool
  pub delta : ℕ

abbrev pub prefix : List ℕ → Reading EncodedPrefix
prefix bytes =
    then_read (integer 8 bytes) (λ count rest.
    then_read (integer 7 rest) (λ base after.
    Whole (record { encoded = count.1; is_negative = base.0 % 2 == 1; delta = base.1 }) after))

abbrev pub HasNoCount : ℕ → ℕ → ℕ → Type 0
HasNoCount capacity inserted encoded = (count : ℕ) → IsRequiredCount capacity inserted encoded count → ⊥

-- the count of an encoded one: 0 stands for 0
abbrev pub IsCount : ℕ → ℕ → ℕ → ℕ → Type 0
IsCount capacity inserted encoded count = ((encoded ≡ 0) × (count ≡ 0)) ⊎ ((0 < encoded) × IsRequiredCount capacity inserted encoded count)

-- RFC 9204 4.5.1.2: base of a section
-- the base, below the count or from it on
abbrev pub IsBase : Bool → ℕ → ℕ → ℕ → Type 0
IsBase true delta count base = base + delta + 1 ≡ count
IsBase false delta count base = base ≡ count + delta

-- A reader that announced this capacity and has read so many insertions takes this count and base. Without a table they
-- are 0 whatever was read: that an encoder could not have written it (4.5.1.1, 4.5.1.2) is not enforced there.
abbrev pub IsPrefix : ℕ → ℕ → EncodedPrefix → ℕ → ℕ → Type 0
IsPrefix capacity inserted p count base =
    ((capacity ≡ 0) × (count ≡ 0) × (base ≡ 0)) ⊎ ((0 < capacity) × IsCount capacity inserted p.encoded count × IsBase p.is_negative p.delta count base)
