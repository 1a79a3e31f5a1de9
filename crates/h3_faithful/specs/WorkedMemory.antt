-- Worked schedules of which memory is refused. Each answer is one that the contracts of the calls allow.
use Rattle.std.specs.Prelude.{List, false, [], ◌∷◌, codes}
use Rattle.h3_header.specs.Head.{head_fields}
use Rattle.h3_proto.specs.declared.stream.Side.TheVariants.{Client, Server}
use Rattle.h3_connection.specs.declared.event.Fault.TheVariants as fault
use Rattle.h3_connection.specs.declared.event.Item.TheVariants as item
use Rattle.h3_connection.specs.declared.event.Malformation.TheVariants as malformation
use Rattle.h3_connection.specs.declared.event.Pull.TheVariants as pull
use Rattle.h3_connection.specs.declared.event.Refusal.TheVariants as refusal
use Rattle.h3_connection.specs.declared.event.StreamFault.TheVariants as stream_fault
use Rattle.h3_world.specs.WorkedHeads.{home, status}
use Rattle.h3_world.specs.declared.event.Answer.{Answer}
use Rattle.h3_world.specs.declared.event.Answer.TheVariants as answer
use Rattle.h3_world.specs.declared.event.Event.{Event}
use Rattle.h3_world.specs.declared.event.Event.TheVariants as event
use Rattle.h3_headline.specs.Messages.{MessageContent}
use Rattle.h3_headline.specs.Messages.MessageContent.{Byte, FieldSection}
use Rattle.h3_headline.specs.Messages.SectionKind.{OfHead}
use Rattle.h3_strict.specs.WorkedStrict.{head_request}
use Rattle.h3_faithful.specs.WorkedFaithful.{content_length_two}

abbrev pub refused_memory : Answer
refused_memory = answer.Refused refusal.OutOfMemory

abbrev pub pulled_nothing : Answer
pulled_nothing = answer.Pulled (pull.Fault fault.Memory)

-- a header section and a body are sent again: each was sent once
abbrev pub again_run : List Event
again_run =
    event.OpenRequest Client ∷ event.Head Client 0 home ∷ event.Body Client 0 (codes "hi") ∷ event.Head Client 0 home ∷
    event.Body Client 0 (codes "hi") ∷ event.Body Client 0 (codes "hi") ∷ event.Finish Client 0 ∷ []

abbrev pub again_answers : List Answer
again_answers = answer.Opened 0 ∷ refused_memory ∷ answer.Refused refusal.OutOfOrder ∷ answer.Done ∷ refused_memory ∷ answer.Done ∷ answer.Done ∷ []

abbrev pub again_sent : List MessageContent
again_sent = FieldSection OfHead false (head_fields home) ∷ Byte 104 ∷ Byte 105 ∷ []

-- what was pulled without memory is pulled later, once
abbrev pub later_run : List Event
later_run =
    event.OpenRequest Client ∷ event.Deliver Client 0 0 ∷ event.Head Server 0 (status 200) ∷ event.Deliver Server 0 5 ∷
    event.Pull Client 0 ∷ event.Pull Client 0 ∷ event.Pull Client 0 ∷ []

abbrev pub later_answers : List Answer
later_answers =
    answer.Opened 0 ∷ answer.Delivered 0 ∷ answer.Done ∷ answer.Delivered 5 ∷
    pulled_nothing ∷ answer.Pulled (pull.Item (item.Head (status 200))) ∷ answer.Pulled pull.Pending ∷ []

-- The settings come and memory is refused for them, so what comes behind is kept too. A pull reads all of it
abbrev pub kept_run : List Event
kept_run =
    event.OpenRequest Client ∷ event.Deliver Client 0 0 ∷ event.Head Server 0 (status 200) ∷ event.Deliver Server 3 25 ∷ event.Deliver Server 0 5 ∷
    event.Pull Client 0 ∷ event.Pull Client 0 ∷ []

abbrev pub kept_answers : List Answer
kept_answers =
    answer.Opened 0 ∷ answer.Delivered 0 ∷ answer.Done ∷ answer.Refused refusal.Kept ∷ answer.Refused refusal.Kept ∷
    pulled_nothing ∷ answer.Pulled (pull.Item (item.Head (status 200))) ∷ []

-- Two strict sides: content behind an early response to HEAD is found malformed, once there is memory for that. Another stream goes on
abbrev pub content_length : Answer
content_length = answer.Pulled (pull.Fault (fault.Stream (stream_fault.Malformed malformation.ContentLength)))

abbrev pub verdict_run : List Event
verdict_run =
    event.OpenRequest Client ∷ event.Head Client 0 head_request ∷ event.Deliver Client 0 1 ∷ event.Head Server 0 content_length_two ∷
    event.Body Server 0 (codes "hi") ∷ event.Deliver Server 0 12 ∷ event.Pull Client 0 ∷ event.Pull Client 0 ∷ event.Pull Client 0 ∷
    event.OpenRequest Client ∷ event.Deliver Client 4 0 ∷ event.Head Server 4 (status 200) ∷ event.Deliver Server 4 5 ∷ event.Pull Client 4 ∷ []

abbrev pub verdict_answers : List Answer
verdict_answers =
    answer.Opened 0 ∷ answer.Done ∷ answer.Delivered 1 ∷ answer.Done ∷
    answer.Done ∷ answer.Delivered 12 ∷ answer.Pulled (pull.Item (item.Head content_length_two)) ∷ pulled_nothing ∷ content_length ∷
    answer.Opened 4 ∷ answer.Delivered 0 ∷ answer.Done ∷ answer.Delivered 5 ∷ answer.Pulled (pull.Item (item.Head (status 200))) ∷ []
