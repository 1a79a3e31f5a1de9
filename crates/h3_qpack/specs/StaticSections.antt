-- Sections that name no entry and insert nothing, as an encoder writes them by its choices.
use Rattle.std.specs.Prelude.{ℕ, List, ◌∷◌, flat_map}
use Rattle.h3_field.specs.Field.{Field}
use Rattle.h3_field.specs.Secret.{guarded}
use Rattle.h3_field.specs.Line.{FieldLine, line_bytes}
use Rattle.h3_field.specs.StaticLines.{static_line_by}
use Rattle.h3_qpack.specs.declared.encoder_choices.EncoderChoices.{EncoderChoices}

-- the line of a field, which is flagged if it is a secret and these are guarded
abbrev pub chosen_line : EncoderChoices → Field → FieldLine
chosen_line choices f = static_line_by choices.shortest_strings (guarded choices.guards_secrets f)

-- a prefix of count 0 and base 0, and the lines
abbrev pub static_section : EncoderChoices → List Field → List ℕ
static_section choices fields = 0 ∷ 0 ∷ flat_map (λ f. line_bytes (chosen_line choices f)) fields
