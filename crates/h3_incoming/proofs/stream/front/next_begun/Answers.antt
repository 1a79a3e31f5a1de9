use Rattle.h3_connection.specs.StrictConnection.{kinds_of}
use Rattle.h3_frames.specs.MessageFrames.{as_frame}
use Rattle.h3_incoming.proofs.stream.front.next_begun.Goals as goal

pub returns-in-Some-Some-clause-gives : goal.returns-in-Some-Some-clause-gives
returns-in-Some-Some-clause-gives c =
    let b = c.begun_by_message.ensures in
    (as_frame c.in-Some-Some.frame, record { is = rw c.in-Some-Some.field-0-is at (b.is c.args.side); begins = rw c.in-Some-Some.field-0-is at b.begins; section = rw c.in-Some-Some.field-0-is at b.section; empty = rw c.in-Some-Some.field-0-is at b.empty }, rw c.in-Some-Some.field-0-is at c.in-Some-Some.ensures.gives (kinds_of c.args.announced.now))

pub returns-in-Some-None-clause-gives : goal.returns-in-Some-None-clause-gives
returns-in-Some-None-clause-gives c = rw c.in-Some-None.field-0-is at c.in-Some-None.ensures.gives (kinds_of c.args.announced.now)
