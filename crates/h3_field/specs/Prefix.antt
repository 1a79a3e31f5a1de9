-- The prefix of an encoded field section (RFC 9204, section 4.5.1): its required insert count, by its residue, and its
-- base, by its distance from the count.
use Rattle.std.specs.Prelude.{◌≡◌, ℕ, ◌+◌, ◌*◌, ◌-◌, ◌/◌, ◌%◌, ◌<◌, ◌≤◌, List, [], ◌∷◌, ◌++◌, if◌then◌else◌, ◌==◌, nat_lt}
use Rattle.h3_field.specs.Integer.{prefixed}

-- how many entries a table of that capacity can have
abbrev pub most_entries : ℕ → ℕ
most_entries capacity = capacity / 32

abbrev pub prefix_bytes : ℕ → ℕ → ℕ → List ℕ
prefix_bytes capacity count base =
    if count == 0 then 0 ∷ 0 ∷ [] else
    prefixed 8 0 (count % (2 * most_entries capacity) + 1)
    ++ (if nat_lt base count then prefixed 7 1 (count - base - 1) else prefixed 7 0 (base - count))

-- RFC 9204 4.5.1.1: required insert count, encoded
-- The encoded count stands for this one, at a reader that has read so many insertions.
pub record IsRequiredCount (capacity inserted encoded count : ℕ) : Type 0 where
  pub positive : 0 < count
  pub residue : count % (2 * most_entries capacity) + 1 ≡ encoded
  pub not_too_old : inserted < count + most_entries capacity
  pub not_too_new : count ≤ inserted + most_entries capacity
