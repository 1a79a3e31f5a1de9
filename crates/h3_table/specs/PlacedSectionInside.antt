-- What the fields of a `PlacedSection` stand for.
use Rattle.std.specs.Prelude.{◌*◌, ◌/◌}
use Rattle.h3_table.specs.declared.tracking.TrackedSection.{TrackedSection}
use Rattle.h3_table.specs.declared.places.PlacedSection.TheInside.{Inside}

abbrev pub placed_section_inside : Inside → TrackedSection
placed_section_inside s = record { stream = s.index * 4; oldest = s.oldest; newest = s.newest }

abbrev pub placed_section_of : TrackedSection → Inside
placed_section_of t = record { index = t.stream / 4; oldest = t.oldest; newest = t.newest }
