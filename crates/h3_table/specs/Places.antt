-- Sections at the places of their streams.
use Rattle.std.specs.Prelude.{ℕ, ◌+◌, ◌/◌, ◌%◌, Bool, ◌&&◌, ◌==◌, nat_lt, List, [], ◌∷◌, length, if◌then◌else◌}
use Rattle.h3_table.specs.declared.tracking.TrackedSection.{TrackedSection}

-- the place of a stream, of so many
abbrev pub place_of : ℕ → ℕ → ℕ
place_of count stream = stream / 4 % count

-- a section that names an entry and stands at its stream's place
abbrev pub is_placed : ℕ → ℕ → TrackedSection → Bool
is_placed count place t = nat_lt 0 t.oldest && (place_of count t.stream == place)

-- those of them from one place on
abbrev pub placed_from : ℕ → ℕ → List TrackedSection → List TrackedSection
placed_from count place [] = []
placed_from count place (t ∷ ts) = if is_placed count place t then t ∷ placed_from count (place + 1) ts else placed_from count (place + 1) ts

abbrev pub placed : List TrackedSection → List TrackedSection
placed ts = placed_from (length ts) 0 ts
