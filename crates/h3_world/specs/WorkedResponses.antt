-- Worked schedules: responses without a table.
use Rattle.std.specs.Prelude.{List, [], ◌∷◌, codes}
use Rattle.h3_proto.specs.declared.stream.Side.TheVariants.{Client, Server}
use Rattle.h3_world.specs.declared.event.Event.{Event}
use Rattle.h3_world.specs.declared.event.Event.TheVariants as event
use Rattle.h3_world.specs.declared.event.Answer.{Answer}
use Rattle.h3_world.specs.declared.event.Answer.TheVariants as answer
use Rattle.h3_connection.specs.declared.event.Item.TheVariants as item
use Rattle.h3_connection.specs.declared.event.Pull.TheVariants as pull
use Rattle.h3_connection.specs.declared.event.Refusal.TheVariants as refusal
use Rattle.h3_world.specs.WorkedHeads.{status, with_one, x_b}

-- a response of one head
abbrev pub head_run : List Event
head_run =
    event.OpenRequest Client ∷ event.Deliver Client 0 0 ∷ event.Head Server 0 (status 200) ∷
    event.Deliver Server 0 5 ∷ event.Pull Client 0 ∷ []

abbrev pub head_answers : List Answer
head_answers =
    answer.Opened 0 ∷ answer.Delivered 0 ∷ answer.Done ∷
    answer.Delivered 5 ∷ answer.Pulled (pull.Item (item.Head (status 200))) ∷ []

-- a head that the client does not take
abbrev pub large_run : List Event
large_run =
    event.OpenRequest Client ∷ event.Deliver Client 0 0 ∷ event.Head Server 0 (status 200) ∷
    event.Deliver Server 0 5 ∷ event.Pull Client 0 ∷ []

abbrev pub large_answers : List Answer
large_answers =
    answer.Opened 0 ∷ answer.Delivered 0 ∷ answer.Done ∷
    answer.Delivered 5 ∷ answer.Pulled (pull.Item (item.TooLarge 42)) ∷ []

-- a head with a second field
abbrev pub second_run : List Event
second_run =
    event.OpenRequest Client ∷ event.Deliver Client 0 0 ∷ event.Head Server 0 (with_one 200 (codes "accept-ranges") (codes "bytes")) ∷
    event.Deliver Server 0 6 ∷ event.Pull Client 0 ∷ []

abbrev pub second_answers : List Answer
second_answers =
    answer.Opened 0 ∷ answer.Delivered 0 ∷ answer.Done ∷
    answer.Delivered 6 ∷ answer.Pulled (pull.Item (item.Head (with_one 200 (codes "accept-ranges") (codes "bytes")))) ∷ []

-- a head that comes in two pieces
abbrev pub cut_run : List Event
cut_run =
    event.OpenRequest Client ∷ event.Deliver Client 0 0 ∷ event.Head Server 0 (status 200) ∷
    event.Deliver Server 0 4 ∷ event.Pull Client 0 ∷ event.Deliver Server 0 2 ∷
    event.Deliver Server 0 1 ∷ event.Pull Client 0 ∷ []

abbrev pub cut_answers : List Answer
cut_answers =
    answer.Opened 0 ∷ answer.Delivered 0 ∷ answer.Done ∷
    answer.Delivered 4 ∷ answer.Pulled pull.Pending ∷ answer.Short 1 ∷
    answer.Delivered 1 ∷ answer.Pulled (pull.Item (item.Head (status 200))) ∷ []

-- a field that is no static entry
abbrev pub literal_run : List Event
literal_run =
    event.OpenRequest Client ∷ event.Deliver Client 0 0 ∷ event.Head Server 0 (x_b 200) ∷
    event.Deliver Server 0 11 ∷ event.Pull Client 0 ∷ []

abbrev pub literal_answers : List Answer
literal_answers =
    answer.Opened 0 ∷ answer.Delivered 0 ∷ answer.Done ∷
    answer.Delivered 11 ∷ answer.Pulled (pull.Item (item.Head (x_b 200))) ∷ []

-- heads that are refused
abbrev pub refused_run : List Event
refused_run =
    event.OpenRequest Client ∷ event.Deliver Client 0 0 ∷ event.Head Server 0 (status 200) ∷
    event.Head Server 0 (status 200) ∷ event.Head Client 0 (status 200) ∷ event.Head Server 0 (status 103) ∷
    event.Head Server 4 (status 200) ∷ []

abbrev pub refused_answers : List Answer
refused_answers =
    answer.Opened 0 ∷ answer.Delivered 0 ∷ answer.Done ∷
    answer.Refused refusal.OutOfOrder ∷ answer.Refused refusal.WrongSide ∷ answer.Refused refusal.OutOfOrder ∷
    answer.Refused refusal.NotOpen ∷ []

-- a body and the end, byte by byte
abbrev pub bytewise_run : List Event
bytewise_run =
    event.OpenRequest Client ∷ event.Deliver Client 0 0 ∷ event.Head Server 0 (status 200) ∷
    event.Body Server 0 (codes "hi") ∷ event.Finish Server 0 ∷ event.Deliver Server 0 1 ∷
    event.Deliver Server 0 1 ∷ event.Deliver Server 0 1 ∷ event.Deliver Server 0 1 ∷
    event.Pull Client 0 ∷ event.Deliver Server 0 1 ∷ event.Pull Client 0 ∷
    event.Pull Client 0 ∷ event.Deliver Server 0 1 ∷ event.Deliver Server 0 1 ∷
    event.Pull Client 0 ∷ event.Deliver Server 0 1 ∷ event.Pull Client 0 ∷
    event.DeliverEnd Server 0 ∷ event.Deliver Server 0 1 ∷ event.Pull Client 0 ∷
    event.Pull Client 0 ∷ event.DeliverEnd Server 0 ∷ event.DeliverEnd Server 0 ∷
    event.Deliver Server 0 0 ∷ event.Pull Client 0 ∷ event.Pull Client 0 ∷ []

abbrev pub bytewise_answers : List Answer
bytewise_answers =
    answer.Opened 0 ∷ answer.Delivered 0 ∷ answer.Done ∷
    answer.Done ∷ answer.Done ∷ answer.Delivered 1 ∷
    answer.Delivered 1 ∷ answer.Delivered 1 ∷ answer.Delivered 1 ∷
    answer.Pulled pull.Pending ∷ answer.Delivered 1 ∷ answer.Pulled (pull.Item (item.Head (status 200))) ∷
    answer.Pulled pull.Pending ∷ answer.Delivered 1 ∷ answer.Delivered 1 ∷
    answer.Pulled pull.Pending ∷ answer.Delivered 1 ∷ answer.Pulled (pull.Item (item.Body (codes "h"))) ∷
    answer.Early ∷ answer.Delivered 1 ∷ answer.Pulled (pull.Item (item.Body (codes "i"))) ∷
    answer.Pulled pull.Pending ∷ answer.Done ∷ answer.Refused refusal.AfterEnd ∷
    answer.Refused refusal.AfterEnd ∷ answer.Pulled (pull.Item item.End) ∷ answer.Pulled (pull.Item item.End) ∷ []

-- a body behind a head that is too large
abbrev pub large_body_run : List Event
large_body_run =
    event.OpenRequest Client ∷ event.Deliver Client 0 0 ∷ event.Head Server 0 (status 200) ∷
    event.Body Server 0 (codes "hi") ∷ event.Finish Server 0 ∷ event.Deliver Server 0 9 ∷
    event.DeliverEnd Server 0 ∷ event.Pull Client 0 ∷ event.Pull Client 0 ∷
    event.Pull Client 0 ∷ []

abbrev pub large_body_answers : List Answer
large_body_answers =
    answer.Opened 0 ∷ answer.Delivered 0 ∷ answer.Done ∷
    answer.Done ∷ answer.Done ∷ answer.Delivered 9 ∷
    answer.Done ∷ answer.Pulled (pull.Item (item.TooLarge 42)) ∷ answer.Pulled (pull.Item (item.Body (codes "hi"))) ∷
    answer.Pulled (pull.Item item.End) ∷ []
