-- Which sections hold which entries (RFC 9204, section 2.1.1).
use Rattle.std.specs.Prelude.{ℕ, zero, suc, ◌+◌, Bool, not, filter, List, [], ◌∷◌, count_by, nat_lt, if◌then◌else◌, ◌==◌}
use Rattle.std.specs.List.{list_all, list_any}
use Rattle.h3_table.specs.declared.tracking.TrackedSection.{TrackedSection}

-- Sections over the entries from one number up to another, each with the oldest and the newest entry that it names.
pub record TrackingState : Type 0 where
  pub evicted : ℕ
  pub made : ℕ
  pub sections : List TrackedSection

abbrev pub is_of : ℕ → TrackedSection → Bool
is_of stream t = t.stream == stream

-- the sections without the oldest one of the stream
abbrev pub without_oldest_of : ℕ → List TrackedSection → List TrackedSection
without_oldest_of stream [] = []
without_oldest_of stream (t ∷ ts) = if t.stream == stream then ts else t ∷ without_oldest_of stream ts

-- the newest entry that the oldest section of the stream names, or 0
abbrev pub newest_named : ℕ → List TrackedSection → ℕ
newest_named stream [] = 0
newest_named stream (t ∷ ts) = if t.stream == stream then t.newest else newest_named stream ts

-- the sections without all of the stream
abbrev pub without_all_of : ℕ → List TrackedSection → List TrackedSection
without_all_of stream ts = filter (λ t. not (is_of stream t)) ts

-- without the last one that passes
abbrev pub without_newest : {X : Type 0} → (X → Bool) → List X → List X
without_newest test [] = []
without_newest test (x ∷ xs) = if list_any test xs then x ∷ without_newest test xs else (if test x then xs else x ∷ xs)

-- the sections without the newest one of the stream
abbrev pub without_newest_of : ℕ → List TrackedSection → List TrackedSection
without_newest_of stream ts = without_newest (is_of stream) ts

-- how many sections have this entry as their oldest
abbrev pub reference_count : ℕ → List TrackedSection → ℕ
reference_count number ts = count_by (λ t. t.oldest == number) ts

-- no section names an entry up to that number
abbrev pub is_free_to : ℕ → List TrackedSection → Bool
is_free_to number ts = list_all (λ t. nat_lt number t.oldest) ts

-- the same of so many entries, the first of that number
abbrev pub reference_counts : ℕ → ℕ → List TrackedSection → List ℕ
reference_counts number zero ts = []
reference_counts number (suc count) ts = reference_count number ts ∷ reference_counts (number + 1) count ts
