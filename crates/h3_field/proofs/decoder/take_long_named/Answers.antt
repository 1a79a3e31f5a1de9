use Rattle.std.proofs.Common.{refl}
use Rattle.h3_field.specs.StringLiteral.{huffman_text}
use Rattle.h3_field.specs.LineReading.{named}
use Rattle.h3_field.specs.LineAnswer.{named_line}
use Rattle.h3_field.specs.ShapeAnswer.{behind}
use Rattle.h3_field.specs.IntegerReading.{integer}
use Rattle.h3_field.specs.SectionLaws.{named_entry, line_named}
use Rattle.h3_field.proofs.NoLines.{has_field, no_static_name}
use Rattle.h3_field.specs.ShorterLaws.{named_less}
use Rattle.h3_field.proofs.NamedLines.{refused_named}
use Rattle.h3_field.proofs.decoder.take_long_named.Goals as goal

pub returns-in-Ok : goal.returns-in-Ok
returns-in-Ok c =
    has_field (behind (integer 4 c.args.buf.now)) named_line named _ _ _ _ named_less (line_named _ c.requires.some c.requires.own) (c.in-Ok-Static.ensures.own c.requires.own)
    (rw (c.in-Ok-Static.field-0-is, c.with_never_indexed.ensures, c.with_static_name.ensures) (named_entry _ _ _ _ c.in-Ok.ensures))

pub returns-in-Ok-Static : goal.returns-in-Ok-Static
returns-in-Ok-Static c =
    no_static_name (behind (integer 4 c.args.buf.now)) named_line _ _ _ _ (line_named _ c.requires.some c.requires.own) (c.in-Ok-Static.ensures.own c.requires.own) c.in-Ok-Static.index (huffman_text c.in-Ok-Static.value.items) c.in-Ok-Static.never_indexed c.in-Err-get_name.ensures.1 (rw c.in-Ok-Static.field-0-is refl)

pub returns : goal.returns
returns c = refused_named (behind (integer 4 c.args.buf.now)) _ _ _ _ (line_named _ c.requires.some c.requires.own) (c.in-Err.ensures.own c.requires.own) c.refusal_of_named.ensures
