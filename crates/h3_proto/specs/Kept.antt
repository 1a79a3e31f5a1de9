-- Settings that are kept, counted by their ids, and an insertion by its tests.
use Rattle.std.specs.Prelude.{if◌then◌else◌, ℕ, ◌+◌, ◌≤◌, Bool, true, false, List, [], ◌∷◌, ◌++◌, length, Result, Ok, Err}
use Rattle.h3_proto.specs.Settings.{known_ids, has_id}
use Rattle.h3_proto.specs.declared.frame.SettingsError.{SettingsError}
use Rattle.h3_proto.specs.declared.frame.SettingsError.TheVariants.{Exceeded, Repeated, InvalidSettingId, InvalidSettingValue}

abbrev pub one_if : Bool → ℕ
one_if true = 1
one_if false = 0

-- how many of the ids are among the pairs
abbrev pub present : List ℕ → List (ℕ × ℕ) → ℕ
present [] kept = 0
present (id ∷ ids) kept = one_if (has_id id kept) + present ids kept

-- the pairs have known ids, no two the same
abbrev pub IsKept : List (ℕ × ℕ) → Type 0
IsKept kept = length kept ≤ present known_ids kept

-- an insertion by its four tests
abbrev pub insert_by : Bool → Bool → Bool → Bool → List (ℕ × ℕ) → ℕ → ℕ → Result (List (ℕ × ℕ)) SettingsError
insert_by full repeated wide_id wide_value kept id value =
    if full then Err Exceeded
    else (if repeated then Err (Repeated id)
    else (if wide_id then Err (InvalidSettingId id)
    else (if wide_value then Err (InvalidSettingValue id value)
    else Ok (kept ++ (id, value) ∷ []))))
