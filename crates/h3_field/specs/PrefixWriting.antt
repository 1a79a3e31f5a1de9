-- The prefix of an encoded field section, as it is written.
use Rattle.std.specs.Prelude.{ℕ, ◌+◌, ◌*◌, ◌-◌, ◌%◌, false, List, ◌++◌, if◌then◌else◌, ◌==◌, nat_lt}
use Rattle.h3_field.specs.Integer.{prefixed}
use Rattle.h3_field.specs.Prefix.{most_entries}
use Rattle.h3_field.specs.PrefixReading.{EncodedPrefix}

-- the encoded count, sign and distance of a required insert count and a base
abbrev pub written_prefix : ℕ → ℕ → ℕ → EncodedPrefix
written_prefix capacity count base =
    if count == 0 then record { encoded = 0; is_negative = false; delta = 0 } else
    record {
      encoded = count % (2 * most_entries capacity) + 1;
      is_negative = nat_lt base count;
      delta = if nat_lt base count then count - base - 1 else base - count;
    }

abbrev pub encoded_bytes : EncodedPrefix → List ℕ
encoded_bytes p = prefixed 8 0 p.encoded ++ prefixed 7 (if p.is_negative then 1 else 0) p.delta
