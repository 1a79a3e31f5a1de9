use Rattle.std.proofs.Common.{◌≡◌, ◌++◌, string_bytes, take, flat_map}
use Rattle.h3_script.specs.Lines.{field_word}
use Rattle.h3_script.proofs.text.fields_text.Given as goal

abbrev pub invariant-loop-field : goal.invariant-loop-field
invariant-loop-field l = string_bytes l.text ≡ l.name ++ flat_map field_word (take l.field-index l.fields)
