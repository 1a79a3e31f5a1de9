use Rattle.h3_session.proofs.SendingSections.{withdrawn_stops}
use Rattle.h3_session.proofs.endpoint.heads.withdraw.Goals as goal

pub returns : goal.returns
returns c = λ s fields section before h.
    withdrawn_stops s c.args.id fields section c.args.count before _ _ c.withdraw.new.self c.streams.view_is (c.sections_leave_their_counts.ensures.withdrawn s c.args.id fields) c.withdraw.ensures.encoder
    c.withdraw.ensures.unread h
