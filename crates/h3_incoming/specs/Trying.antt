-- What a decoder makes of an encoded field section.
use Rattle.std.specs.Prelude.{◌≡◌, ℕ, List, codes, nat_lt}
use Rattle.h3_field.specs.Field.{Field}
use Rattle.h3_qpack.specs.DecodedSection.{DecodedSection, Fields, Missing, BadSection}
use Rattle.h3_qpack.specs.Sizes.{IsBlockWithin}
use Rattle.h3_incoming.specs.declared.section.Tried.{Tried}
use Rattle.h3_incoming.specs.declared.section.Tried.TheVariants as tried

-- The answer and the block are of this value; memory may be refused where that may be asked for. Past the limit the fields are counted, and the last
-- status is told.
abbrev pub IsTry : Type 0 → ℕ → DecodedSection → Tried → List Field → Type 0
IsTry asks limit section (tried.Decoded d) block =
    (fields : List Field) × (count : ℕ) × (section ≡ Fields fields count) × IsBlockWithin limit (codes ":status") (nat_lt 0 count) fields d block
IsTry asks limit section (tried.Missing count) block = section ≡ Missing count
IsTry asks limit section tried.Bad block = section ≡ BadSection
IsTry asks limit section tried.OutOfMemory block = asks
