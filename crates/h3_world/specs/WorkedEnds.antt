-- Worked schedules: resets, cancellations and announcements.
use Rattle.std.specs.Prelude.{List, [], ◌∷◌, codes}
use Rattle.h3_proto.specs.declared.stream.Side.TheVariants.{Client, Server}
use Rattle.h3_world.specs.declared.event.Event.{Event}
use Rattle.h3_world.specs.declared.event.Event.TheVariants as event
use Rattle.h3_world.specs.declared.event.Answer.{Answer}
use Rattle.h3_world.specs.declared.event.Answer.TheVariants as answer
use Rattle.h3_connection.specs.declared.event.Pull.TheVariants as pull
use Rattle.h3_connection.specs.declared.event.Refusal.TheVariants as refusal
use Rattle.h3_connection.specs.declared.event.Fault.TheVariants as fault
use Rattle.h3_connection.specs.declared.event.StreamFault.TheVariants as stream_fault
use Rattle.h3_world.specs.WorkedHeads.{home}

-- a stream that is reset
abbrev pub reset_run : List Event
reset_run =
    event.OpenRequest Client ∷ event.Body Client 0 (codes "hi") ∷ event.Head Client 0 home ∷
    event.Reset Client 0 ∷ event.Deliver Client 0 1 ∷ event.DeliverEnd Client 0 ∷
    event.DeliverReset Client 0 ∷ event.Pull Server 0 ∷ event.Reset Client 0 ∷
    event.Deliver Client 0 1 ∷ event.Deliver Client 0 0 ∷ event.DeliverReset Client 0 ∷
    event.Cancel Server 0 ∷ []

abbrev pub reset_answers : List Answer
reset_answers =
    answer.Opened 0 ∷ answer.Refused refusal.OutOfOrder ∷ answer.Done ∷
    answer.Done ∷ answer.Short 0 ∷ answer.Early ∷
    answer.Done ∷ answer.Pulled (pull.Fault (fault.Stream (stream_fault.Reset 268))) ∷ answer.Refused refusal.Ended ∷
    answer.Short 0 ∷ answer.Refused refusal.AfterEnd ∷ answer.Refused refusal.AfterEnd ∷
    answer.Refused refusal.Ended ∷ []

-- announcements of a server that goes away
abbrev pub goaway_run : List Event
goaway_run =
    event.Goaway Server 8 ∷ event.Goaway Server 4 ∷ event.Goaway Server 6 ∷
    event.Goaway Server 8 ∷ event.OpenRequest Client ∷ event.Deliver Server 3 26 ∷
    event.OpenRequest Client ∷ event.Deliver Server 3 1 ∷ event.OpenRequest Client ∷
    event.Deliver Server 3 3 ∷ event.OpenRequest Client ∷ event.OpenRequest Server ∷ []

abbrev pub goaway_answers : List Answer
goaway_answers =
    answer.Done ∷ answer.Done ∷ answer.Refused refusal.NotRequestId ∷
    answer.Refused (refusal.Raised 4) ∷ answer.Opened 0 ∷ answer.Delivered 26 ∷
    answer.Opened 4 ∷ answer.Delivered 1 ∷ answer.Refused (refusal.GoingAway 8) ∷
    answer.Delivered 3 ∷ answer.Refused (refusal.GoingAway 4) ∷ answer.Refused refusal.NotClient ∷ []

-- cancellations that are refused
abbrev pub cancel_run : List Event
cancel_run =
    event.Cancel Client 2 ∷ event.Cancel Client 0 ∷ event.OpenRequest Client ∷
    event.Cancel Client 0 ∷ event.Cancel Client 0 ∷ event.Reset Client 3 ∷
    event.Finish Client 2 ∷ event.DeliverEnd Client 2 ∷ event.DeliverReset Client 2 ∷
    event.DeliverEnd Client 4 ∷ event.Pull Client 2 ∷ event.Pull Client 3 ∷
    event.Pull Client 4 ∷ event.Pull Server 4 ∷ event.Pull Server 1 ∷
    event.Deliver Server 3 1 ∷ event.Pull Client 3 ∷ []

abbrev pub cancel_answers : List Answer
cancel_answers =
    answer.Refused refusal.Critical ∷ answer.Refused refusal.NotOpen ∷ answer.Opened 0 ∷
    answer.Done ∷ answer.Refused refusal.Ended ∷ answer.Refused refusal.Critical ∷
    answer.Refused refusal.NotOpen ∷ answer.Early ∷ answer.Early ∷
    answer.NoStream ∷ answer.Pulled pull.NoMessages ∷ answer.Pulled pull.Pending ∷
    answer.Pulled pull.NoMessages ∷ answer.Pulled pull.Pending ∷ answer.Pulled pull.NoMessages ∷
    answer.Delivered 1 ∷ answer.Pulled pull.NoMessages ∷ []
