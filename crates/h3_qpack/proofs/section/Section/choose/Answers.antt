use Rattle.h3_table.specs.Matches.{matches}
use Rattle.h3_table.specs.declared.entries.Match.TheVariants as what
use Rattle.h3_qpack.proofs.Missed.{none_at_zero}
use Rattle.h3_qpack.proofs.section.Section.choose.Goals as goal

pub returns-then-is_some-clause-missed : goal.returns-then-is_some-clause-missed
returns-then-is_some-clause-missed c = none_at_zero c.args.table.now.table (matches what.Field c.args.field.now)
