use Rattle.std.proofs.Common.{sym, ◌∙◌}
use Rattle.h3_webtransport.proofs.Keeping.{drops_later}
use Rattle.h3_webtransport.proofs.sessions.keeping.drop_one_way.Goals as goal

pub returns-then-lacks_memory : goal.returns-then-lacks_memory
returns-then-lacks_memory c = drops_later _ _ _ _ c.drop_session-dropped.result _ c.drop_session-dropped.ensures (sym c.lacks_memory.ensures ∙ c.if-lacks_memory.true) c.drop_behind.ensures
