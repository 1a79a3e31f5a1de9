use Rattle.std.proofs.Common.{refl}
use Rattle.std.proofs.lemmas.Result.{err_from_is_err_and}
use Rattle.h3_field.specs.LineReading.{literal}
use Rattle.h3_field.specs.LineAnswer.{literal_line}
use Rattle.h3_field.specs.ShapeAnswer.{AtString}
use Rattle.h3_field.specs.SectionLaws.{line_literal}
use Rattle.h3_field.proofs.NoLines.{has_field, refused_line}
use Rattle.h3_field.specs.ShorterLaws.{literal_less}
use Rattle.h3_field.proofs.NamedLines.{literal_asks}
use Rattle.h3_field.proofs.decoder.take_long_literal.Goals as goal

pub returns : goal.returns
returns c =
    has_field AtString literal_line literal _ _ _ _ literal_less (line_literal _ c.requires.some c.requires.own) (c.in_ok-line.ensures.own c.requires.own) (rw (c.with_never_indexed.ensures, c.new-field.ensures) refl)

pub returns-in_err-line : goal.returns-in_err-line
returns-in_err-line c =
    let own = line_literal _ c.requires.some c.requires.own in
    let p = err_from_is_err_and c.from_residual.result c.from_residual.ensures.1 in
    rw (p.1, p.2) (refused_line _ AtString literal_line _ _ _ _ (λ memory. literal_asks _ own) own (c.in_err-line.ensures.own c.requires.own))
