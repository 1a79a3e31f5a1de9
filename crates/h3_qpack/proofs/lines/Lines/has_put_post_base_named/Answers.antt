use Rattle.std.proofs.Common.{refl}
use Rattle.h3_field.specs.ShapeAnswer.{AtInteger}
use Rattle.h3_field.specs.LineAnswer.{short_post_base_named_line}
use Rattle.h3_field.specs.LineReading.{post_base_named}
use Rattle.h3_field.specs.OntoLaws.{post_base_onto}
use Rattle.h3_field.specs.SectionLaws.{line_post_base_named}
use Rattle.h3_field.specs.ShorterLaws.{post_base_named_less}
use Rattle.h3_qpack.proofs.LinesAt.{begins_with}
use Rattle.h3_qpack.proofs.lines.Lines.has_put_post_base_named.Goals as goal

pub returns-in-Ok-post_base-clause-yes : goal.returns-in-Ok-post_base-clause-yes
returns-in-Ok-post_base-clause-yes c = λ yes.
    let read = rw c.name.ensures at (c.has_put_value.ensures.yes yes) in
    let told = post_base_onto c.args.buf.now c.decode_index.new.buf c.has_put_value.new.buf c.in-Ok-post_base.entry.name c.args.block.now c.has_put_value.new.block _ c.in-Ok.ensures.answer read in
    record {
      field = record { name = c.in-Ok-post_base.entry.name; value = told.0; never_indexed = c.in-Ok.head.1 };
      begins =
          begins_with AtInteger c.args.self.now.table c.args.self.now.base (short_post_base_named_line told.0) post_base_named _ _ _ _ post_base_named_less (line_post_base_named _ c.requires.some c.requires.own) told.1
          (rw c.in-Ok-post_base.ensures refl);
      added = told.2;
    }
