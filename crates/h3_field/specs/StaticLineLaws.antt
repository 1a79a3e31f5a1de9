-- With nothing chosen a line is that of a writer without choices.
use Rattle.std.proofs.Common.{◌≡◌, ℕ, false, Option, Some, None, refl}
use Rattle.h3_field.specs.Field.{Field}
use Rattle.h3_field.specs.Section.{literal_line, line_or_literal, static_line}
use Rattle.h3_field.specs.StaticTable.{static_field, static_name}
use Rattle.h3_field.specs.StaticLines.{literal_line_by, line_or_literal_by, static_line_by}

same_literal : (name : Option ℕ) (f : Field) → literal_line_by false name f ≡ literal_line name f
same_literal (Some index) f = refl
same_literal None f = refl

same_line : (entry : Option ℕ) (f : Field) → line_or_literal_by false entry f ≡ line_or_literal entry f
same_line (Some index) f = refl
same_line None f = same_literal (static_name f.name) f

pub unchosen_line : (f : Field) → static_line_by false f ≡ static_line f
unchosen_line f = same_line (static_field f) f
