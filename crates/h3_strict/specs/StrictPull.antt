-- What a pull of a strict receiver has to leave, where the parts of its flow break no rule.
use Rattle.std.specs.Prelude.{◌≡◌, false, Option, Some}
use Rattle.h3_messages.specs.Content.{awaited_by}
use Rattle.h3_messages.specs.declared.content.Content.{Content}
use Rattle.h3_proto.specs.declared.stream.Side.{Side}
use Rattle.h3_proto.specs.declared.stream.Side.TheVariants.{Server}
use Rattle.h3_connection.specs.Incoming.{Incoming}
use Rattle.h3_connection.specs.Pulling.{Pulled}
use Rattle.h3_connection.specs.declared.event.Item.{Item}
use Rattle.h3_connection.specs.declared.event.Item.TheVariants as item
use Rattle.h3_connection.specs.declared.event.Pull.{Pull}
use Rattle.h3_connection.specs.declared.event.Pull.TheVariants as pull
use Rattle.h3_world.specs.Flow.{Flow, Part}
use Rattle.h3_world.specs.Flow.Part.{Head}
use Rattle.h3_world.specs.Items.{after_item}
use Rattle.h3_world.specs.Order.{next_part}
use Rattle.h3_strict.specs.Plainly.{tells_malformed}
use Rattle.h3_strict.specs.Unbroken.{CountsAlong}

-- the flow after what a pull answered: an item hands out of the next part, and nothing else does
abbrev pub flow_after : Flow → Pull → Flow
flow_after f (pull.Item i) = after_item f (next_part f) i
flow_after f _ = f

-- What is known of a response's content behind an item: a server that is handed the head of a request knows what that asks for.
abbrev pub response_of_part : Side → Option Part → Option Content → Option Content
response_of_part Server (Some (Head s)) known = Some (awaited_by s.fields)
response_of_part side part known = known

abbrev pub response_by : Item → Side → Option Part → Option Content → Option Content
response_by (item.Head h) side part known = response_of_part side part known
response_by _ side part known = known

abbrev pub response_after : Pull → Side → Option Part → Option Content → Option Content
response_after (pull.Item i) side part known = response_by i side part known
response_after _ side part known = known

-- The receiver's content is what the parts say that it has begun to read.
abbrev pub CountsFlow : Side → Content → Flow → Incoming → Type 0
CountsFlow reader awaited f i = CountsAlong reader awaited f.sent f.parts_out i.body_left i.content

-- It does, and knows so much of the response.
pub record Counting (reader : Side) (awaited : Content) (known : Option Content) (f : Flow) (i : Incoming) : Type 0 where
  pub counts : CountsFlow reader awaited f i
  pub response : i.response ≡ known

-- The pull finds no message malformed, and the receiver counts on.
pub record PullsOn (reader : Side) (awaited : Content) (known : Option Content) (f : Flow) (p : Pulled) : Type 0 where
  pub judges_not : tells_malformed false p.answer ≡ false
  pub counts : CountsFlow reader awaited (flow_after f p.answer) p.incoming
  pub responds : p.incoming.response ≡ response_after p.answer reader (next_part f) known
