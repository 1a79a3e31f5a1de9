-- Two strict ends count the content of each message alike, and what was sent breaks no rule: in the world of the same ends without strict messages.
use Rattle.std.specs.Prelude.{◌≡◌, ℕ, Bool, true, false, List, [], ◌∷◌, Option, Some, None}
use Rattle.h3_messages.specs.Content.{awaited_by}
use Rattle.h3_messages.specs.OwnMessages.{IsSentOf}
use Rattle.h3_messages.specs.declared.content.Content.{Content}
use Rattle.h3_messages.specs.declared.content.Content.TheVariants.{Unsaid}
use Rattle.h3_proto.specs.declared.stream.Side.{Side}
use Rattle.h3_proto.specs.declared.stream.Side.TheVariants.{Client, Server}
use Rattle.h3_connection.specs.Delivering.{incoming_at}
use Rattle.h3_connection.specs.Incoming.{Incoming}
use Rattle.h3_connection.specs.Outgoing.{Outgoing, takes_end}
use Rattle.h3_connection.specs.OwnIds.{other}
use Rattle.h3_connection.specs.Sending.{outgoing_at}
use Rattle.h3_connection.specs.declared.event.StreamFault.{StreamFault}
use Rattle.h3_connection.specs.declared.setup.Announced.{Announced}
use Rattle.h3_world.specs.Ends.{Ends, end_at}
use Rattle.h3_world.specs.Flow.{Flow, Part}
use Rattle.h3_world.specs.Flow.Part.{Head}
use Rattle.h3_world.specs.Order.{is_over}
use Rattle.h3_world.specs.Setup.{Setup, TakesAnyLength, announced_at}
use Rattle.h3_world.specs.Streams.{flow}
use Rattle.h3_world.specs.World.{World}
use Rattle.h3_strict.specs.Plainly.{is_malformation}
use Rattle.h3_strict.specs.StrictPull.{CountsFlow}
use Rattle.h3_strict.specs.Unbroken.{AreUnbroken, content_along}

-- what a request asks of its response's content, by its head
abbrev pub asked_in : List Part → Content
asked_in [] = Unsaid
asked_in (Head s ∷ parts) = awaited_by s.fields
asked_in (_ ∷ parts) = asked_in parts

-- its final head was sent
abbrev pub has_head : List Part → Bool
has_head [] = false
has_head (Head s ∷ parts) = true
has_head (_ ∷ parts) = has_head parts

-- what is awaited in front of a message of the side
abbrev pub awaited_of : Side → List Part → Content
awaited_of Client request = Unsaid
awaited_of Server request = asked_in request

-- no rule of messages was the reason to give a stream up
abbrev pub IsFine : Option StreamFault → Type 0
IsFine None = Unit {0}
IsFine (Some fault) = is_malformation fault ≡ false

-- One flow: its parts break no rule of its reader; behind its head its sender counts what they say, or sends nothing of what its reader would
-- take; and its reader counts as far as it has read.
pub record TalliesFlow (reader : Side) (peer : Announced) (awaited : Content) (f : Flow) (o : Outgoing) (i : Incoming) : Type 0 where
  pub unbroken : AreUnbroken reader peer awaited f.sent
  pub sends : takes_end o ≡ true → IsSentOf o.content (content_along reader awaited f.sent)
  pub receives : i.fault ≡ None → is_over f ≡ false → CountsFlow reader awaited f i
  pub fine : IsFine i.fault

-- what the server has of a request's response
pub record KnowsResponse (request : List Part) (i : Incoming) : Type 0 where
  pub has : has_head request ≡ true
  pub response : i.response ≡ Some (asked_in request)

-- Both ends do, on all streams. A response has its final head only behind that of its request, and where the server knows what was asked, it
-- keeps that.
pub record Tallies (setup : Setup) (w : World) (ends : Ends) (known : ℕ → Bool) : Type 0 where
  pub flows : (writer : Side) (id : ℕ) → TalliesFlow (other writer) (announced_at setup (other writer)) (awaited_of writer (flow w Client id).sent) (flow w writer id)
      (outgoing_at (end_at ends writer) id) (incoming_at (end_at ends (other writer)) id)
  pub announced : (side : Side) → (end_at ends side).announced ≡ announced_at setup side
  pub asked : (id : ℕ) → has_head (flow w Server id).sent ≡ true → has_head (flow w Client id).sent ≡ true
  pub knows : (id : ℕ) → known id ≡ true → KnowsResponse (flow w Client id).sent (incoming_at ends.server id)

-- it asks for strict messages, and has no limit on what is unfinished
abbrev pub IsStrict : Announced → Type 0
IsStrict a = (a.choices.strict_messages ≡ true) × TakesAnyLength a

-- and so does each side
abbrev pub JudgesStrictly : Setup → Type 0
JudgesStrictly setup = (side : Side) → IsStrict (announced_at setup side)
