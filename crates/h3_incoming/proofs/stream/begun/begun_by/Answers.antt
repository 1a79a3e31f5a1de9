use Rattle.std.proofs.Common.{sym, subst}
use Rattle.h3_frames.specs.declared.proto.frame.PayloadLen.{PayloadLen}
use Rattle.h3_frames.specs.declared.proto.frame.Frame.{Frame}
use Rattle.h3_incoming.specs.Beginning.{IsBegunBy}
use Rattle.h3_incoming.proofs.stream.begun.begun_by.Goals as goal

pub returns-in-Data-clause-begins : goal.returns-in-Data-clause-begins
returns-in-Data-clause-begins c =
    subst (λ (f : Frame PayloadLen). IsBegunBy c.args.place c.args.content f c.begun_by_data.result) (sym c.in-Data.is) (c.begun_by_data.ensures.begins c.args.content)

pub returns-in-WebTransportStream-clause-begins : goal.returns-in-WebTransportStream-clause-begins
returns-in-WebTransportStream-clause-begins c =
    subst (λ (f : Frame PayloadLen). IsBegunBy c.args.place c.args.content f c.begun_by_session.result) (sym c.in-WebTransportStream.is) (c.begun_by_session.ensures.begins c.args.content)
