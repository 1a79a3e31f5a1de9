use Rattle.h3_header.proofs.HeadTestLaws.{field_value, told_by}
use Rattle.h3_header.proofs.headers.read.is_value.Goals as goal

pub returns : goal.returns
returns c = told_by _ _ (field_value c.args.text.now) c.is_field_value.ensures
