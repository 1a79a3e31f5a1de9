-- The machine that hands out all of a body that is there: one of the answers that are allowed.
use Rattle.std.specs.Prelude.{ℕ, List, [], ◌∷◌, take, drop, nat_lt, if◌then◌else◌, Option, Some, None}
use Rattle.h3_field.specs.Field.{Field, section_size}
use Rattle.h3_header.specs.Head.{Head as Fields}
use Rattle.h3_header.specs.Reads.{head_of_fields}
use Rattle.h3_proto.specs.declared.stream.Side.{Side}
use Rattle.h3_connection.specs.Announcing.{section_of}
use Rattle.h3_connection.specs.OwnIds.{other}
use Rattle.h3_connection.specs.declared.event.Item.{Item}
use Rattle.h3_connection.specs.declared.event.Item.TheVariants as item
use Rattle.h3_connection.specs.declared.event.Pull.{Pull}
use Rattle.h3_connection.specs.declared.event.Pull.TheVariants as pull
use Rattle.h3_connection.specs.declared.event.Refusal.{Refusal}
use Rattle.h3_connection.specs.declared.event.StreamFault.TheVariants.{Canceled}
use Rattle.h3_connection.specs.Lists.{listed_pull}
use Rattle.h3_world.specs.declared.event.Event.{Event}
use Rattle.h3_world.specs.declared.event.Event.TheVariants as event
use Rattle.h3_world.specs.declared.event.Answer.{Answer}
use Rattle.h3_world.specs.declared.event.Answer.TheVariants as answer
use Rattle.h3_world.specs.Setup.{Setup, announced_at}
use Rattle.h3_world.specs.Flow.{Flow, Part}
use Rattle.h3_world.specs.Flow.Part.{Interim, Head, Body, Trailer, End}
use Rattle.h3_world.specs.World.{World, party}
use Rattle.h3_world.specs.Came.{insertions_came}
use Rattle.h3_world.specs.Streams.{flow}
use Rattle.h3_world.specs.Order.{next_part}
use Rattle.h3_world.specs.Refusals.{next_id, open_refusal, head_refusal, fields_refusal, body_refusal, trailer_refusal, trailer_fields_refusal, finish_refusal, reset_refusal, cancel_refusal, goaway_refusal}
use Rattle.h3_world.specs.Sending.{opened, sent_head, sent_fields, sent_body, sent_trailer, sent_trailer_fields, finished, cut_off, given_up, with_goaway}
use Rattle.h3_world.specs.Delivering.{delivery, end_delivery, reset_delivery}
use Rattle.h3_world.specs.Items.{body_there, handed_out}
use Rattle.h3_world.specs.Pauses.{pause_before, paused}
use Rattle.h3_world.specs.Pulling.{settled, list_next}
use Rattle.h3_world.specs.Shown.{limits_shown, sizes_shown, streams_waiting}

-- the item of a field section
abbrev pub section_item : (Fields → Item) → ℕ → List Field → Item
section_item kind most fields =
    if nat_lt most (section_size fields) then item.TooLarge (section_size fields) else kind (head_of_fields fields)

-- the next item, as much as is there
abbrev pub item_there : ℕ → Flow → Option Part → Item
item_there most f None = item.End
item_there most f (Some (Interim s)) = section_item item.Interim most s.fields
item_there most f (Some (Head s)) = section_item item.Head most s.fields
item_there most f (Some (Trailer s)) = section_item item.Trailer most s.fields
item_there most f (Some (Body bytes own)) = item.Body (take (body_there f bytes own) (drop f.body_out bytes))
item_there most f (Some End) = item.End

abbrev pub count_waited_for : Pull → ℕ
count_waited_for (pull.Waiting count) = count
count_waited_for _ = 0

abbrev pub pull_next : World → Side → ℕ → Option Pull → Item → Answer × World
pull_next w side id (Some p) i = (answer.Pulled p, paused w side id (count_waited_for p))
pull_next w side id None i = (answer.Pulled (pull.Item i), handed_out w side id i)

abbrev pub pull_settled : World → Option Pull → Answer × World → Answer × World
pull_settled w (Some p) next = (answer.Pulled p, w)
pull_settled w None next = next

abbrev pub pulled : Setup → World → Side → ℕ → Answer × World
pulled setup w side id =
    let f = flow w (other side) id in
    pull_settled w (settled w side id)
    (pull_next w side id (pause_before f (insertions_came (party w (other side))) (next_part f))
    (item_there (section_of (announced_at setup side)) f (next_part f)))

-- the answer of a pull with lists, by that of a pull and the list that is next
abbrev pub listed : Option (List Field) → Answer → Answer
listed fields (answer.Pulled p) = answer.Listed (listed_pull fields p)
listed fields given = given

abbrev pub pulled_listed : Setup → World → Side → ℕ → Answer × World
pulled_listed setup w side id = let p = pulled setup w side id in (listed (list_next setup w side id) p.0, p.1)

abbrev pub done : Option Refusal → World → Answer → World → Answer × World
done (Some refusal) old success after = (answer.Refused refusal, old)
done None old success after = (success, after)

abbrev pub served : Setup → World → Event → Answer × World
served setup w (event.OpenRequest side) = done (open_refusal setup w side) w (answer.Opened (next_id w)) (opened w)
served setup w (event.Head side id head) = done (head_refusal setup w side id head) w answer.Done (sent_head w side id head)
served setup w (event.Fields side id fields) = done (fields_refusal setup w side id fields) w answer.Done (sent_fields w side id fields)
served setup w (event.Body side id bytes) = done (body_refusal w side id) w answer.Done (sent_body w side id bytes)
served setup w (event.Trailer side id trailer) = done (trailer_refusal setup w side id trailer) w answer.Done (sent_trailer w side id trailer)
served setup w (event.TrailerFields side id fields) = done (trailer_fields_refusal setup w side id fields) w answer.Done (sent_trailer_fields w side id fields)
served setup w (event.Finish side id) = done (finish_refusal w side id) w answer.Done (finished w side id)
served setup w (event.Reset side id) = done (reset_refusal w side id) w answer.Done (cut_off w side id)
served setup w (event.Cancel side id) = done (cancel_refusal w side id) w answer.Done (given_up w side id Canceled)
served setup w (event.Goaway side id) = done (goaway_refusal w side id) w answer.Done (with_goaway w side id)
served setup w (event.Deliver side id count) = delivery setup w side id count
served setup w (event.DeliverEnd side id) = end_delivery setup w side id
served setup w (event.DeliverReset side id) = reset_delivery w side id
served setup w (event.Pull side id) = pulled setup w side id
served setup w (event.PullFields side id) = pulled_listed setup w side id
served setup w (event.Show side) = (answer.Shown (limits_shown setup w side) (sizes_shown w side) (streams_waiting w side), w)

-- the answers to the events, in order
abbrev pub answers_from : Setup → World → List Event → List Answer
answers_from setup w [] = []
answers_from setup w (e ∷ es) =
    let next = served setup w e in
    next.0 ∷ answers_from setup next.1 es

-- the world that the events lead to
abbrev pub world_after : Setup → World → List Event → World
world_after setup w [] = w
world_after setup w (e ∷ es) = world_after setup (served setup w e).1 es
