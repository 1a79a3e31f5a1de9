-- What holds of the fields of a `PlacedSection`.
use Rattle.std.specs.Prelude.{◌≡◌, ◌*◌, ◌/◌}
use Rattle.std.proofs.Common.{ap, arith}
use Rattle.h3_table.specs.declared.places.PlacedSection.TheInside.{Inside}
use Rattle.h3_table.specs.PlacedSectionInside.{placed_section_inside, placed_section_of}

-- No bit of the fields is lost in the section.
pub placed_section_is_back : (s : Inside) → placed_section_of (placed_section_inside s) ≡ s
placed_section_is_back s = let same : s.index * 4 / 4 ≡ s.index = omega arith in ap (λ n. record s { index = n }) same
