use Rattle.h3_header.proofs.HeadTestLaws.{header_name, told_by}
use Rattle.h3_header.proofs.headers.read.is_name.Goals as goal

pub returns : goal.returns
returns c = told_by _ _ (header_name c.args.text.now) c.is_header_name.ensures
