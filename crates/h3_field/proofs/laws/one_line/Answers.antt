use Rattle.h3_field.specs.SectionLaws.{line_one}
use Rattle.h3_field.proofs.laws.one_line.Goals as goal

pub returns : goal.returns
returns c = line_one
