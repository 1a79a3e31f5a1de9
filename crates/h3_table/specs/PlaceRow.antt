-- Sections at places.
use Rattle.std.specs.Prelude.{ℕ, List}
use Rattle.h3_table.specs.declared.tracking.TrackedSection.{TrackedSection}

pub record PlaceRow : Type 0 where
  pub sections : List TrackedSection
  -- how many places there are
  pub places : ℕ
