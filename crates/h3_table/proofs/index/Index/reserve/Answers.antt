use Rattle.h3_table.proofs.Chains.{still_indexed}
use Rattle.h3_table.proofs.index.Index.reserve.Goals as goal

pub returns-clause-same : goal.returns-clause-same
returns-clause-same c = λ evicted slots i. still_indexed c.args.self.now _ evicted slots c.reserve_number.ensures.items c.fill.ensures.same i
