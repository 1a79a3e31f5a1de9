-- What a look at a field section finds, before the stream passes it.
use Rattle.std.specs.Prelude.{◌≡◌, ℕ, Bool, ⊤, true, List, IfSome, is_some, nat_lt}
use Rattle.h3_field.specs.Field.{Field}
use Rattle.h3_proto.specs.declared.stream.Side.{Side}
use Rattle.h3_qpack.specs.DecodedSection.{Fields, Missing, BadSection, decode_section}
use Rattle.h3_qpack.specs.DecoderState.{DecoderState}
use Rattle.h3_connection.specs.Coming.{fields_in, fields_next}
use Rattle.h3_connection.specs.Incoming.{Incoming}
use Rattle.h3_connection.specs.Pulling.{acknowledgment, at_section, past_section, pull_stream, read_section}
use Rattle.h3_connection.specs.declared.event.Pull.{Pull}
use Rattle.h3_connection.specs.declared.setup.Announced.{Announced}
use Rattle.h3_incoming.specs.Judging.{judged_as}
use Rattle.h3_incoming.specs.Resuming.{Resumes}
use Rattle.h3_incoming.specs.declared.judge.Judged.{Judged}
use Rattle.h3_incoming.specs.declared.stream.sections.Looked.{Looked}
use Rattle.h3_incoming.specs.declared.stream.sections.Looked.TheVariants as looked

-- A field section is next, and stands in the new stream. A pull of the old one answers it, whatever the table is by then.
pub record BeginsSection (side : Side) (own : Announced) (id : ℕ) (old new : Incoming) : Type 0 where
  pub there : is_some new.section ≡ true
  pub pulls : IfSome new.section (λ bytes. (r : DecoderState) → pull_stream side own id r old ≡ at_section side own id r new bytes)
  pub lists : (r : DecoderState) → fields_next own r old ≡ fields_in r new.section
  pub resumes : Resumes own old new

-- The section was decoded and judged, with this answer if it is handed out.
pub record IsJudged (side : Side) (own : Announced) (r : DecoderState) (i : Incoming) (bytes : List ℕ) (j : Judged) (acknowledges : Bool) (answer : Pull) : Type 0 where
  pub fields : List Field
  pub count : ℕ
  pub decodes : decode_section r bytes ≡ Fields fields count
  pub acknowledges_is : acknowledges ≡ nat_lt 0 count
  pub reads : (id : ℕ) → read_section side own id r (past_section i) (acknowledgment id count) fields ≡ judged_as id (past_section i) (acknowledgment id count) answer j

-- what was found in a section, and written as the answer
abbrev pub IsLooked : Side → Announced → DecoderState → Incoming → List ℕ → Looked → Pull → Type 0
IsLooked side own r i bytes (looked.Judged j acknowledges) answer = IsJudged side own r i bytes j acknowledges answer
IsLooked side own r i bytes (looked.Missing count) answer = decode_section r bytes ≡ Missing count
IsLooked side own r i bytes looked.Bad answer = decode_section r bytes ≡ BadSection
IsLooked side own r i bytes looked.OutOfMemory answer = ⊤
