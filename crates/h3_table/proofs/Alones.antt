-- A section that stands alone.
use Rattle.std.proofs.Common.{◌≡◌, ℕ, true, [], ◌∷◌, refl}
use Rattle.std.specs.Prelude.{◌==◌, Some}
use Rattle.h3_table.specs.declared.tracking.NamedEntries.{NamedEntries}
use Rattle.h3_table.specs.declared.tracking.TrackedSection.{TrackedSection}
use Rattle.h3_table.specs.Sections.{IsOldestTaken, IsNewestTaken}

-- what a section names
abbrev pub named_by : TrackedSection → NamedEntries
named_by t = record { oldest = t.oldest; newest = t.newest }

pub oldest_alone : (stream : ℕ) (t : TrackedSection) → (t.stream == stream) ≡ true → IsOldestTaken stream (t ∷ []) [] (Some (named_by t))
oldest_alone stream t it =
    record { found = rw it refl; rest = rw it refl; newest = rw it refl; one = record { front = []; back = []; taken = t; names = refl; was = refl; is = refl }; none = tt }

pub newest_alone : (stream : ℕ) (t : TrackedSection) → (t.stream == stream) ≡ true → IsNewestTaken stream (t ∷ []) [] (Some (named_by t))
newest_alone stream t it =
    record { found = rw it refl; rest = rw it refl; one = record { front = []; back = []; taken = t; names = refl; was = refl; is = refl }; none = tt }
