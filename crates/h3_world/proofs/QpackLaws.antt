-- The laws of h3_qpack that the lemmas here rest on.
use Rattle.std.proofs.Common.{◌≡◌, ℕ, List, []}
use Rattle.h3_field.specs.Field.{Field}
use Rattle.h3_qpack.specs.EncoderHistory.{EncoderHistory, HasNoTable, writing_on}
use Rattle.h3_qpack.specs.SectionEncoding.{instructions_for, sent_section}
use Rattle.h3_world.proofs.Grown.{SessionsAreSound}

pub record QpackLaws : Type 0 where
  -- every session is sound
  pub sound : SessionsAreSound
  -- an encoder without a table and without insertions inserts nothing
  pub inserts_none : (s : EncoderHistory) (stream : ℕ) (fields : List Field) → HasNoTable s → s.inserted ≡ [] → instructions_for (writing_on s stream) fields ≡ []
  pub still_empty : (s : EncoderHistory) (stream : ℕ) (fields : List Field) → HasNoTable s → s.inserted ≡ [] → (sent_section s stream fields).inserted ≡ []
