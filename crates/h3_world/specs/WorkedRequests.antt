-- Worked schedules: requests, with a table and without.
use Rattle.std.specs.Prelude.{List, [], ◌∷◌, codes, Some, None}
use Rattle.h3_proto.specs.declared.stream.Side.TheVariants.{Client, Server}
use Rattle.h3_world.specs.declared.event.Event.{Event}
use Rattle.h3_world.specs.declared.event.Event.TheVariants as event
use Rattle.h3_world.specs.declared.event.Answer.{Answer}
use Rattle.h3_world.specs.declared.event.Answer.TheVariants as answer
use Rattle.h3_connection.specs.declared.event.Item.TheVariants as item
use Rattle.h3_connection.specs.declared.event.Pull.TheVariants as pull
use Rattle.h3_connection.specs.declared.event.Refusal.TheVariants as refusal
use Rattle.h3_connection.specs.declared.event.Fault.TheVariants as fault
use Rattle.h3_connection.specs.declared.event.StreamFault.TheVariants as stream_fault
use Rattle.h3_world.specs.WorkedHeads.{status, trailer_of, home, sample}

-- a request without a table
abbrev pub home_run : List Event
home_run =
    event.OpenRequest Client ∷ event.Head Client 0 home ∷ event.Deliver Client 0 21 ∷
    event.Pull Server 0 ∷ event.Pull Server 0 ∷ []

abbrev pub home_answers : List Answer
home_answers =
    answer.Opened 0 ∷ answer.Done ∷ answer.Delivered 21 ∷
    answer.Pulled (pull.Item (item.Head home)) ∷ answer.Pulled pull.Pending ∷ []

-- requests with a table of which nothing is read back
abbrev pub three_run : List Event
three_run =
    event.OpenRequest Client ∷ event.OpenRequest Client ∷ event.OpenRequest Client ∷
    event.Deliver Server 3 25 ∷ event.Head Client 0 sample ∷ event.Head Client 4 sample ∷
    event.Head Client 8 sample ∷ []

abbrev pub three_answers : List Answer
three_answers =
    answer.Opened 0 ∷ answer.Opened 4 ∷ answer.Opened 8 ∷
    answer.Delivered 25 ∷ answer.Done ∷ answer.Done ∷
    answer.Done ∷ []

-- a head that waits for its insertions
abbrev pub waits_run : List Event
waits_run =
    event.OpenRequest Client ∷ event.OpenRequest Client ∷ event.Deliver Server 3 25 ∷
    event.Head Client 4 sample ∷ event.Deliver Client 4 8 ∷ event.Pull Server 4 ∷
    event.Show Server ∷ event.Deliver Client 6 29 ∷ event.Show Server ∷
    event.Pull Server 4 ∷ []

abbrev pub waits_answers : List Answer
waits_answers =
    answer.Opened 0 ∷ answer.Opened 4 ∷ answer.Delivered 25 ∷
    answer.Done ∷ answer.Delivered 8 ∷ answer.Pulled (pull.Waiting 2) ∷
    answer.Shown None (record { sending = 0; receiving = 0 }) 1 ∷ answer.Delivered 29 ∷ answer.Shown None (record { sending = 0; receiving = 106 }) 0 ∷
    answer.Pulled (pull.Item (item.Head sample)) ∷ []

-- a head that waits and is given up
abbrev pub gives_up_run : List Event
gives_up_run =
    event.OpenRequest Client ∷ event.OpenRequest Client ∷ event.Deliver Server 3 25 ∷
    event.Head Client 4 sample ∷ event.Deliver Client 4 8 ∷ event.Pull Server 4 ∷
    event.Cancel Server 4 ∷ event.Show Server ∷ event.Pull Server 4 ∷
    event.Cancel Server 4 ∷ event.Deliver Client 4 0 ∷ []

abbrev pub gives_up_answers : List Answer
gives_up_answers =
    answer.Opened 0 ∷ answer.Opened 4 ∷ answer.Delivered 25 ∷
    answer.Done ∷ answer.Delivered 8 ∷ answer.Pulled (pull.Waiting 2) ∷
    answer.Done ∷ answer.Shown None (record { sending = 0; receiving = 0 }) 0 ∷ answer.Pulled (pull.Fault (fault.Stream stream_fault.Canceled)) ∷
    answer.Refused refusal.Ended ∷ answer.Delivered 0 ∷ []

-- a request with a table, and what both sides show
abbrev pub shown_run : List Event
shown_run =
    event.OpenRequest Client ∷ event.Deliver Server 3 25 ∷ event.Head Client 0 sample ∷
    event.Deliver Client 0 8 ∷ event.Pull Server 0 ∷ event.Deliver Client 6 29 ∷
    event.Pull Server 0 ∷ event.Pull Server 0 ∷ event.Deliver Server 11 3 ∷
    event.Show Client ∷ event.Show Server ∷ []

abbrev pub shown_answers : List Answer
shown_answers =
    answer.Opened 0 ∷ answer.Delivered 25 ∷ answer.Done ∷
    answer.Delivered 8 ∷ answer.Pulled (pull.Waiting 2) ∷ answer.Delivered 29 ∷
    answer.Pulled (pull.Item (item.Head sample)) ∷ answer.Pulled pull.Pending ∷ answer.Delivered 3 ∷
    answer.Shown (Some (record { capacity = 220; blocked = 2; section = 1000 })) (record { sending = 106; receiving = 0 }) 0 ∷ answer.Shown None (record { sending = 0; receiving = 106 }) 0 ∷ []

-- bodies, a trailer and refusals, with a head that waits
abbrev pub long_run : List Event
long_run =
    event.OpenRequest Client ∷ event.Head Server 0 (status 200) ∷ event.Deliver Server 3 25 ∷
    event.Head Client 0 sample ∷ event.Body Client 0 (codes "hello") ∷ event.Body Client 0 [] ∷
    event.Trailer Client 0 (trailer_of (codes "x-t") (codes "1")) ∷ event.Finish Client 0 ∷ event.Body Client 0 (codes "x") ∷
    event.Deliver Client 0 12 ∷ event.Pull Server 0 ∷ event.Show Server ∷
    event.Deliver Client 6 29 ∷ event.Pull Server 0 ∷ event.Pull Server 0 ∷
    event.Pull Server 0 ∷ event.DeliverEnd Client 0 ∷ event.Deliver Client 0 9 ∷
    event.Deliver Client 0 8 ∷ event.DeliverEnd Client 0 ∷ event.Pull Server 0 ∷
    event.Pull Server 0 ∷ event.Deliver Client 6 6 ∷ event.Pull Server 0 ∷ event.Pull Server 0 ∷ []

abbrev pub long_answers : List Answer
long_answers =
    answer.Opened 0 ∷ answer.Refused refusal.NotOpen ∷ answer.Delivered 25 ∷
    answer.Done ∷ answer.Done ∷ answer.Done ∷
    answer.Done ∷ answer.Done ∷ answer.Refused refusal.OutOfOrder ∷
    answer.Delivered 12 ∷ answer.Pulled (pull.Waiting 2) ∷ answer.Shown None (record { sending = 0; receiving = 0 }) 1 ∷
    answer.Delivered 29 ∷ answer.Pulled (pull.Item (item.Head sample)) ∷ answer.Pulled (pull.Item (item.Body (codes "he"))) ∷
    answer.Pulled pull.Pending ∷ answer.Early ∷ answer.Short 8 ∷
    answer.Delivered 8 ∷ answer.Done ∷ answer.Pulled (pull.Item (item.Body (codes "llo"))) ∷
    answer.Pulled (pull.Waiting 3) ∷ answer.Delivered 6 ∷ answer.Pulled (pull.Item (item.Trailer (trailer_of (codes "x-t") (codes "1")))) ∷ answer.Pulled (pull.Item item.End) ∷ []
