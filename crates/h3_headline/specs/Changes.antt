-- What an event changes of a world, change by change; and what no event changes back.
use Rattle.std.specs.Prelude.{◌≡◌, ℕ, ◌+◌, Bool, true, false, ◌&&◌, [], Option, Some}
use Rattle.h3_proto.specs.declared.stream.Side.{Side}
use Rattle.h3_proto.specs.declared.stream.Side.TheVariants.{Server}
use Rattle.h3_connection.specs.declared.event.Item.{Item}
use Rattle.h3_connection.specs.declared.event.StreamFault.{StreamFault}
use Rattle.h3_world.specs.Flow.{Flow, Part}
use Rattle.h3_world.specs.Items.{after_item}
use Rattle.h3_world.specs.Sending.{appended, cut_off, opened, with_goaway}
use Rattle.h3_world.specs.Streams.{flow, is_open, with_flow}
use Rattle.h3_world.specs.World.{Party, World, party, with_party}
use Rattle.h3_world.specs.declared.event.Answer.{Answer}
use Rattle.h3_world.specs.declared.event.Answer.TheVariants as answer
use Rattle.h3_world.specs.declared.event.Event.{Event}
use Rattle.h3_world.specs.declared.event.Event.TheVariants as event
use Rattle.h3_headline.specs.Messages.{is_done, is_on}
use Rattle.h3_headline.specs.Steps.{IsThere}

-- Each change of a flow, but for its reset.
pub data FlowChange (f : Flow) : Flow → Type 0 where
  Sends : (part : Part) → FlowChange f (appended f part)
  Comes : (count : ℕ) → FlowChange f (record f { delivered = f.delivered + count; seen = true })
  Ends : FlowChange f (record f { seen = true; ended = true })
  IsMarked : FlowChange f (record f { seen = true; reset_came = true })
  IsSeen : FlowChange f (record f { seen = true })
  IsGivenUp : (fault : StreamFault) → FlowChange f (record f { fault = Some fault; waits_for = 0 })
  Waits : (count : ℕ) → FlowChange f (record f { waits_for = count })
  HandsOut : (part : Option Part) (i : Item) → FlowChange f (after_item f part i)

-- What holds of each change of a world, and of one behind the other, but for a reset and a GOAWAY.
pub record Stepwise (R : World → World → Type 0) : Type 0 where
  pub same : (w : World) → R w w
  pub joined : (w mid new : World) → R w mid → R mid new → R w new
  pub opens : (w : World) → R w (opened w)
  pub writes : (w : World) (side : Side) (p : Party) → p.own.goaways ≡ (party w side).own.goaways → R w (with_party w side p)
  pub changes : (w : World) (side : Side) (id : ℕ) (g : Flow) → IsThere w id → FlowChange (flow w side id) g → R w (with_flow w side id g)

-- the same of what an event leads to
abbrev pub LeadsTo : (World → World → Type 0) → World → Answer × World → Type 0
LeadsTo R w next = R w next.1

-- And of these, where the event does them.
abbrev pub Allows : (World → World → Type 0) → World → Event → Answer → Type 0
Allows R w (event.Reset side id) a = IsThere w id → a ≡ answer.Done → R w (cut_off w side id)
Allows R w (event.Goaway side id) a = a ≡ answer.Done → R w (with_goaway w side id)
Allows R w e a = Unit {0}

-- the side resets the stream
abbrev pub resets_on : Side → ℕ → Event → Answer → Bool
resets_on side id (event.Reset acting i) a = is_on side id acting i && is_done a
resets_on side id _ a = false

-- the server goes away
abbrev pub goes_away : Event → Answer → Bool
goes_away (event.Goaway Server id) a = is_done a
goes_away _ a = false

-- A stream that is open at a side stays so. One that is not reset, and a server that has not gone away, stay so but for that.
pub record StaysAs (writer : Side) (id : ℕ) (resets goes : Bool) (w new : World) : Type 0 where
  pub opened : is_open w writer id ≡ true → is_open new writer id ≡ true
  pub unreset : resets ≡ false → (flow w writer id).is_reset ≡ false → (flow new writer id).is_reset ≡ false
  pub unsaid : goes ≡ false → w.server.own.goaways ≡ [] → new.server.own.goaways ≡ []

-- over an event
abbrev pub StaysBy : World → Event → Side → ℕ → Answer → World → Type 0
StaysBy w e writer id a new = StaysAs writer id (resets_on writer id e a) (goes_away e a) w new
