use Rattle.std.proofs.Common.{ap, ◌∙◌, get_or}
use Rattle.h3_table.proofs.Chains.{filled}
use Rattle.h3_table.proofs.index.fill.Goals as goal

pub returns-clause-same : goal.returns-clause-same
returns-clause-same c = λ slot lt. ap (λ xs. get_or xs slot 0) c.in_ok-resize.ensures.items ∙ filled 256 _ c.args.heads.now.items slot lt
