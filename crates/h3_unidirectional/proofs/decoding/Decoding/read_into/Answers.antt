use Rattle.h3_unidirectional.proofs.Heard.{hears_ends}
use Rattle.h3_unidirectional.proofs.decoding.Decoding.read_into.Goals as goal

pub returns-in-Ok-clause-ok : goal.returns-in-Ok-clause-ok
returns-in-Ok-clause-ok c = hears_ends _ _ _ _ _ _ c.read_front.ensures.front c.in-Ok.ensures.ok c.excess.ensures c.read_front.ensures.increment
