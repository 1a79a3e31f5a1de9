-- Worked schedules: interim responses.
use Rattle.std.specs.Prelude.{List, [], ◌∷◌, codes}
use Rattle.h3_proto.specs.declared.stream.Side.TheVariants.{Client, Server}
use Rattle.h3_world.specs.declared.event.Event.{Event}
use Rattle.h3_world.specs.declared.event.Event.TheVariants as event
use Rattle.h3_world.specs.declared.event.Answer.{Answer}
use Rattle.h3_world.specs.declared.event.Answer.TheVariants as answer
use Rattle.h3_connection.specs.declared.event.Item.TheVariants as item
use Rattle.h3_connection.specs.declared.event.Pull.TheVariants as pull
use Rattle.h3_connection.specs.declared.event.Refusal.TheVariants as refusal
use Rattle.h3_world.specs.WorkedHeads.{status, trailer_of, x_a, x_b}

-- an interim head before the final one
abbrev pub interim_run : List Event
interim_run =
    event.OpenRequest Client ∷ event.Deliver Client 0 0 ∷ event.Head Server 0 (status 103) ∷
    event.Head Server 0 (status 200) ∷ event.Deliver Server 0 10 ∷ event.Pull Client 0 ∷
    event.Pull Client 0 ∷ event.Pull Client 0 ∷ []

abbrev pub interim_answers : List Answer
interim_answers =
    answer.Opened 0 ∷ answer.Delivered 0 ∷ answer.Done ∷
    answer.Done ∷ answer.Delivered 10 ∷ answer.Pulled (pull.Item (item.Interim (status 103))) ∷
    answer.Pulled (pull.Item (item.Head (status 200))) ∷ answer.Pulled pull.Pending ∷ []

-- both heads are larger than the client takes
abbrev pub large_interim_run : List Event
large_interim_run =
    event.OpenRequest Client ∷ event.Deliver Client 0 0 ∷ event.Head Server 0 (status 103) ∷
    event.Head Server 0 (status 200) ∷ event.Body Server 0 (codes "hi") ∷ event.Deliver Server 0 14 ∷
    event.Pull Client 0 ∷ event.Pull Client 0 ∷ event.Pull Client 0 ∷ []

abbrev pub large_interim_answers : List Answer
large_interim_answers =
    answer.Opened 0 ∷ answer.Delivered 0 ∷ answer.Done ∷
    answer.Done ∷ answer.Done ∷ answer.Delivered 14 ∷
    answer.Pulled (pull.Item (item.TooLarge 42)) ∷ answer.Pulled (pull.Item (item.TooLarge 42)) ∷ answer.Pulled (pull.Item (item.Body (codes "hi"))) ∷ []

-- where an interim head may not come, and what may not follow it
abbrev pub interim_order_run : List Event
interim_order_run =
    event.OpenRequest Client ∷ event.Deliver Client 0 0 ∷ event.Head Server 0 (status 100) ∷
    event.Body Server 0 (codes "hi") ∷ event.Trailer Server 0 (trailer_of (codes "x-t") (codes "1")) ∷ event.Finish Server 0 ∷
    event.Head Server 0 (status 199) ∷ event.Head Server 0 (status 200) ∷ event.Head Server 0 (status 103) ∷
    event.Trailer Server 0 (status 103) ∷ event.Head Client 0 (status 103) ∷ []

abbrev pub interim_order_answers : List Answer
interim_order_answers =
    answer.Opened 0 ∷ answer.Delivered 0 ∷ answer.Done ∷
    answer.Refused refusal.OutOfOrder ∷ answer.Refused refusal.OutOfOrder ∷ answer.Refused refusal.OutOfOrder ∷
    answer.Done ∷ answer.Done ∷ answer.Refused refusal.OutOfOrder ∷
    answer.Refused refusal.PseudoInTrailer ∷ answer.Refused refusal.WrongSide ∷ []

-- three heads that name one entry, and a cancellation that releases all of them
abbrev pub released_run : List Event
released_run =
    event.OpenRequest Client ∷ event.OpenRequest Client ∷ event.Deliver Client 0 0 ∷
    event.Deliver Client 4 0 ∷ event.Deliver Client 2 25 ∷ event.Head Server 0 (x_a 103) ∷
    event.Head Server 0 (x_a 103) ∷ event.Head Server 0 (x_a 200) ∷ event.Deliver Server 7 9 ∷
    event.Cancel Client 0 ∷ event.Deliver Client 10 3 ∷ event.Head Server 4 (x_b 200) ∷ []

abbrev pub released_answers : List Answer
released_answers =
    answer.Opened 0 ∷ answer.Opened 4 ∷ answer.Delivered 0 ∷
    answer.Delivered 0 ∷ answer.Delivered 25 ∷ answer.Done ∷
    answer.Done ∷ answer.Done ∷ answer.Delivered 9 ∷
    answer.Done ∷ answer.Delivered 3 ∷ answer.Done ∷ []
