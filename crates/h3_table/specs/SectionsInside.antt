-- What the fields of `Sections` stand for.
use Rattle.std.specs.Prelude.{◌≡◌, ◌++◌, List, length}
use Rattle.h3_table.specs.InOrder.{in_order}
use Rattle.h3_table.specs.declared.tracking.TrackedSection.{TrackedSection}
use Rattle.h3_table.specs.declared.sections.Sections.TheInside.{Inside}

abbrev pub sections_inside : Inside → List TrackedSection
sections_inside s = in_order (λ t. t.stream) (s.places.sections ++ s.further)

-- The count is that of the sections.
abbrev pub IsCounted : Inside → Type 0
IsCounted s = s.count ≡ length (sections_inside s)
