-- What an encoded field section means to a decoder with this table (RFC 9204, sections 2.2.1, 2.2.3 and 4.5).
use Rattle.std.specs.Prelude.{◌≡◌, ◌<◌, ◌≤◌, ◌==◌, ◌-◌, ◌&&◌, ℕ, Bool, true, not, List, Option, if◌then◌else◌, min, take}
use Rattle.h3_field.specs.Field.{Field}
use Rattle.h3_field.specs.Section.{AreLines}
use Rattle.h3_field.specs.Line.{FieldLine}
use Rattle.h3_field.specs.Reading.{Whole}
use Rattle.h3_field.specs.PrefixReading.{EncodedPrefix, prefix, IsPrefix}
use Rattle.h3_table.specs.TableState.{TableState, entry_at, evicted}
use Rattle.h3_qpack.specs.NamedFields.{line_field_by, AreOf}
use Rattle.h3_qpack.specs.DecoderState.{DecoderState, count_capacity}

-- the table without the entries above a number: those that are left of the first so many insertions
abbrev pub up_to : ℕ → TableState → TableState
up_to most h = record h { entries = take (most - evicted h) h.entries; inserted = min most h.inserted }

-- RFC 9204 2.2.3: entries from the required insert count on
-- the table for the lines of a section of this required insert count: all of it, or what the count covers
abbrev pub table_for : DecoderState → ℕ → TableState
table_for r count = if r.checks_count then up_to count r.table else r.table

-- RFC 9204 4.5.1.1: prefix without a table
-- as an encoder without a table writes it: the encoded count is 0, and the sign too (section 4.5.1.2)
abbrev pub names_no_entry : EncodedPrefix → Bool
names_no_entry p = (p.encoded == 0) && not p.is_negative

-- A decoder that checks counts and has no table takes no other prefix.
abbrev pub is_allowed : DecoderState → EncodedPrefix → Bool
is_allowed r p = if r.checks_count && (count_capacity r == 0) then names_no_entry p else true

-- the field of a line over a table
abbrev pub field_at : TableState → ℕ → FieldLine → Option Field
field_at h base line = line_field_by (entry_at h) base line

abbrev pub HaveFields : TableState → ℕ → List FieldLine → List Field → Type 0
HaveFields h base lines fields = AreOf (field_at h base) lines fields

-- The section begins with this required insert count and base, and its lines are the rest.
pub record HasPrefix (r : DecoderState) (bytes rest : List ℕ) (count base : ℕ) : Type 0 where
  pub encoded : EncodedPrefix
  pub whole : prefix bytes ≡ Whole encoded rest
  pub allowed : is_allowed r encoded ≡ true
  pub is : IsPrefix (count_capacity r) r.table.inserted encoded count base

-- The section is of these fields and has this required insert count, which is not above the insertions. Where the decoder checks counts
-- its lines name no entry from that count on (RFC 9204, section 2.2.3), and else any entry that is there.
pub record MeansFields (r : DecoderState) (bytes : List ℕ) (count : ℕ) (fields : List Field) : Type 0 where
  pub rest : List ℕ
  pub base : ℕ
  pub lines : List FieldLine
  pub begins : HasPrefix r bytes rest count base
  pub received : count ≤ r.table.inserted
  pub split : AreLines rest lines
  pub named : HaveFields (table_for r count) base lines fields

-- RFC 9204 2.2.1: missing insertions
-- The section needs so many insertions, and not all were read.
pub record IsMissing (r : DecoderState) (bytes : List ℕ) (count : ℕ) : Type 0 where
  pub rest : List ℕ
  pub base : ℕ
  pub begins : HasPrefix r bytes rest count base
  pub missing : r.table.inserted < count

-- The section means nothing.
pub record IsBadSection (r : DecoderState) (bytes : List ℕ) : Type 0 where
  pub no_fields : (count : ℕ) (fields : List Field) → MeansFields r bytes count fields → ⊥
  pub none_missing : (count : ℕ) → IsMissing r bytes count → ⊥
