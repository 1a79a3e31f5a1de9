-- Settings of a server that its client remembers for a connection to come (RFC 9114, section 7.2.4.2).
use Rattle.std.specs.Prelude.{ℕ, ◌-◌, ◌^◌, Bool, ◌||◌, ◌==◌, nat_le, List, if◌then◌else◌, Option, Some, None, unwrap_or}
use Rattle.std.specs.List.{list_all}
use Rattle.h3_proto.specs.Settings.{known_ids, value_of}

-- what holds of a setting that is not there: field sections have no limit (RFC 9114, section 7.2.4.1), and all else is 0
abbrev pub default_of : ℕ → ℕ
default_of id = if id == 6 then 2 ^ 62 - 1 else 0

-- what was remembered holds still: a value that was no default is there, and not less; the capacity of the table is the same, if there was one
-- (RFC 9204, section 3.2.3)
abbrev pub holds_to : ℕ → ℕ → Option ℕ → Bool
holds_to id before None = before == default_of id
holds_to id before (Some now) = if id == 1 then (before == 0) || (before == now) else nat_le before now

-- the settings that came keep to those that were remembered
abbrev pub keeps_to : List (ℕ × ℕ) → List (ℕ × ℕ) → Bool
keeps_to remembered came = list_all (λ id. holds_to id (unwrap_or (value_of id remembered) (default_of id)) (value_of id came)) known_ids
