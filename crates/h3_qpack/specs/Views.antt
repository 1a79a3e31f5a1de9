-- A dynamic table as the lines of one section name its entries (RFC 9204, sections 3.2.5 and 3.2.6).
use Rattle.std.specs.Prelude.{◌≡◌, ◌⊎◌, ℕ, Option, Some, None, Result, Ok, Err}
use Rattle.h3_field.specs.Field.{Field}
use Rattle.h3_field.specs.declared.dynamic.Error.{Error}
use Rattle.h3_field.specs.declared.dynamic.Error.TheVariants.{OutOfMemory}
use Rattle.h3_table.specs.TableState.{TableState}

-- a table, and the base of a section
pub record Based : Type 0 where
  pub table : TableState
  pub base : ℕ

-- The entry, or why there is none: it is not there, or its copy found no memory.
abbrev pub AnswersEntry : Option Field → Error → Result Field Error → Type 0
AnswersEntry entry missing (Ok f) = entry ≡ Some f
AnswersEntry entry missing (Err e) = (e ≡ OutOfMemory) ⊎ ((entry ≡ None) × (e ≡ missing))
