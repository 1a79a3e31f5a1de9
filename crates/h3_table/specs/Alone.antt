-- Sections of which one may stand alone.
use Rattle.std.specs.Prelude.{◌≡◌, List, [], ◌∷◌, Option, Some, None}
use Rattle.h3_table.specs.declared.tracking.TrackedSection.{TrackedSection}
use Rattle.h3_table.specs.declared.alone.TrackedSections.TheInside.{Inside}

-- the one that stands alone, or else the others
abbrev pub alone_or : Option TrackedSection → List TrackedSection → List TrackedSection
alone_or (Some t) others = t ∷ []
alone_or None others = others

abbrev pub tracked_sections_inside : Inside → List TrackedSection
tracked_sections_inside s = alone_or s.only s.others

-- there are no others
abbrev pub StandsAlone : Option TrackedSection → List TrackedSection → Type 0
StandsAlone (Some t) others = others ≡ []
StandsAlone None others = Unit {0}

-- Beside one that stands alone there are no others.
abbrev pub IsAlone : Inside → Type 0
IsAlone s = StandsAlone s.only s.others
