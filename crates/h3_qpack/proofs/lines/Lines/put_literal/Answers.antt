use Rattle.std.proofs.Common.{refl}
use Rattle.h3_field.specs.LineAnswer.{field_line}
use Rattle.h3_field.specs.LineReading.{literal}
use Rattle.h3_field.specs.ShapeAnswer.{AtString}
use Rattle.h3_field.specs.SectionLaws.{line_literal}
use Rattle.h3_field.specs.ShorterLaws.{literal_less}
use Rattle.h3_qpack.proofs.LinesAt.{begins_with}
use Rattle.h3_qpack.proofs.lines.Lines.put_literal.Goals as goal

pub returns-then-has_read_onto : goal.returns-then-has_read_onto
returns-then-has_read_onto c =
    let read = c.has_read_onto.ensures.yes c.if-has_read_onto.true in
    record {
      field = read.0;
      begins = begins_with AtString c.args.self.now.table c.args.self.now.base field_line literal _ _ _ _ literal_less (line_literal _ c.requires.some c.requires.own) read.1 refl;
      added = read.2;
    }
