use Rattle.std.proofs.Common.{sym, subst}
use Rattle.h3_frames.specs.declared.frame.decoder.MessageFrame.{MessageFrame}
use Rattle.h3_frames.specs.MessageFrames.{as_frame}
use Rattle.h3_incoming.specs.Beginning.{IsBegunBy}
use Rattle.h3_incoming.proofs.stream.begun.begun_by_message.Goals as goal

pub returns-in-Data-clause-begins : goal.returns-in-Data-clause-begins
returns-in-Data-clause-begins c =
    subst (λ (f : MessageFrame). IsBegunBy c.args.place c.args.content (as_frame f) c.begun_by_data.result) (sym c.in-Data.is) (c.begun_by_data.ensures.begins c.args.content)
