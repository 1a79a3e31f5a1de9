use Rattle.std.proofs.Common.{refl}
use Rattle.h3_table.proofs.Chains.{indexed_later}
use Rattle.h3_table.proofs.index.Index.evict_oldest.Goals as goal

pub returns : goal.returns
returns c = λ evicted slots i le. indexed_later c.args.self.now _ c.args.count evicted slots refl c.drop_front.ensures le i
