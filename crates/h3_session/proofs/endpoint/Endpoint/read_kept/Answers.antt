use Rattle.h3_session.proofs.PullingKept.{reads_kept}
use Rattle.h3_session.proofs.endpoint.Endpoint.read_kept.Goals as goal

pub returns-clause-reads : goal.returns-clause-reads
returns-clause-reads c = reads_kept c.args.self.now c.take_kept.new.self c.read_all.new.self c.in-Ok.arrivals.items c.read_all.result c.in-Ok.ensures.none c.in-Ok.ensures.ok.0 c.read_all.ensures.reads
