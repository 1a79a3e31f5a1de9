-- Worked schedules: streams whose cancellation was read.
use Rattle.std.specs.Prelude.{List, [], ◌∷◌, Some}
use Rattle.h3_proto.specs.declared.stream.Side.TheVariants.{Client, Server}
use Rattle.h3_world.specs.declared.event.Event.{Event}
use Rattle.h3_world.specs.declared.event.Event.TheVariants as event
use Rattle.h3_world.specs.declared.event.Answer.{Answer}
use Rattle.h3_world.specs.declared.event.Answer.TheVariants as answer
use Rattle.h3_connection.specs.declared.event.Item.TheVariants as item
use Rattle.h3_connection.specs.declared.event.Pull.TheVariants as pull
use Rattle.h3_world.specs.WorkedHeads.{x_a}

-- a canceled stream names no entry, and another one does
abbrev pub canceled_run : List Event
canceled_run =
    event.OpenRequest Client ∷ event.OpenRequest Client ∷ event.OpenRequest Client ∷
    event.Deliver Client 0 0 ∷ event.Deliver Client 4 0 ∷ event.Deliver Client 8 0 ∷
    event.Deliver Client 2 25 ∷ event.Cancel Client 0 ∷ event.Deliver Client 10 2 ∷
    event.Head Server 0 (x_a 200) ∷ event.Head Server 4 (x_a 200) ∷ event.Head Server 8 (x_a 200) ∷
    event.Deliver Server 7 9 ∷ event.Deliver Server 8 6 ∷ event.Pull Client 8 ∷
    event.Deliver Client 10 2 ∷ event.Show Server ∷ []

abbrev pub canceled_answers : List Answer
canceled_answers =
    answer.Opened 0 ∷ answer.Opened 4 ∷ answer.Opened 8 ∷
    answer.Delivered 0 ∷ answer.Delivered 0 ∷ answer.Delivered 0 ∷
    answer.Delivered 25 ∷ answer.Done ∷ answer.Delivered 2 ∷
    answer.Done ∷ answer.Done ∷ answer.Done ∷
    answer.Delivered 9 ∷ answer.Delivered 6 ∷ answer.Pulled (pull.Item (item.Head (x_a 200))) ∷
    answer.Delivered 2 ∷ answer.Shown (Some (record { capacity = 64; blocked = 10; section = 1000 })) (record { sending = 36; receiving = 0 }) 0 ∷ []
