use Rattle.h3_session.proofs.SendingSections.{stops, stops_late, queues}
use Rattle.h3_session.proofs.endpoint.Endpoint.queue_section.Goals as goal

pub returns-in_default-clause-err : goal.returns-in_default-clause-err
returns-in_default-clause-err c = stops _ _ _ _ _ c.self.view_is c.in_default.ensures.err

pub returns-in_default-send_section-clause-err : goal.returns-in_default-send_section-clause-err
returns-in_default-send_section-clause-err c =
    stops_late _ _ c.encode.new.streams _ _ _ _ c.in-Ok.section c.in-Ok.count c.self.view_is c.in_default-send_section.ensures.err.1 c.in-Ok.ensures.ok (rw c.id-id.ensures at c.withdraw.ensures)

pub returns-clause-ok : goal.returns-clause-ok
returns-clause-ok c =
    queues _ _ _ _ _ _ c.in-Ok.section c.in-Ok.count c.args.place c.self.view_is c.in-Ok.ensures.ok c.in-Ok-send_section.ensures.there c.in-Ok-send_section.ensures.ok
