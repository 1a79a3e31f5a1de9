-- Worked schedules: which entries give way.
use Rattle.std.specs.Prelude.{List, [], ◌∷◌}
use Rattle.h3_proto.specs.declared.stream.Side.TheVariants.{Client, Server}
use Rattle.h3_world.specs.declared.event.Event.{Event}
use Rattle.h3_world.specs.declared.event.Event.TheVariants as event
use Rattle.h3_world.specs.declared.event.Answer.{Answer}
use Rattle.h3_world.specs.declared.event.Answer.TheVariants as answer
use Rattle.h3_connection.specs.declared.event.Item.TheVariants as item
use Rattle.h3_connection.specs.declared.event.Pull.TheVariants as pull
use Rattle.h3_world.specs.WorkedHeads.{x_a, x_b}

-- an entry that is not known to be received stays
abbrev pub kept_entry_run : List Event
kept_entry_run =
    event.OpenRequest Client ∷ event.OpenRequest Client ∷ event.Deliver Client 0 0 ∷
    event.Deliver Client 4 0 ∷ event.Deliver Client 2 25 ∷ event.Head Server 0 (x_a 200) ∷
    event.Cancel Client 0 ∷ event.Deliver Client 10 2 ∷ event.Head Server 4 (x_b 200) ∷ []

abbrev pub kept_entry_answers : List Answer
kept_entry_answers =
    answer.Opened 0 ∷ answer.Opened 4 ∷ answer.Delivered 0 ∷
    answer.Delivered 0 ∷ answer.Delivered 25 ∷ answer.Done ∷
    answer.Done ∷ answer.Delivered 2 ∷ answer.Done ∷ []

-- an entry that is known and not named gives way
abbrev pub dropped_entry_run : List Event
dropped_entry_run =
    event.OpenRequest Client ∷ event.OpenRequest Client ∷ event.Deliver Client 0 0 ∷
    event.Deliver Client 4 0 ∷ event.Deliver Client 2 25 ∷ event.Head Server 0 (x_a 200) ∷
    event.Deliver Server 7 9 ∷ event.Deliver Server 0 6 ∷ event.Pull Client 0 ∷
    event.Deliver Client 10 3 ∷ event.Head Server 4 (x_b 200) ∷ []

abbrev pub dropped_entry_answers : List Answer
dropped_entry_answers =
    answer.Opened 0 ∷ answer.Opened 4 ∷ answer.Delivered 0 ∷
    answer.Delivered 0 ∷ answer.Delivered 25 ∷ answer.Done ∷
    answer.Delivered 9 ∷ answer.Delivered 6 ∷ answer.Pulled (pull.Item (item.Head (x_a 200))) ∷
    answer.Delivered 3 ∷ answer.Done ∷ []
