-- The world of any two sides, memory refused or not: as that of sides that ask for no strict messages, limit nothing and take any protocol, with
-- three steps more.
use Rattle.std.specs.Prelude.{◌≡◌, ℕ, ◌<◌, Bool, true, false, ◌∷◌, List, [], length, Option, Some, None, drop, take}
use Rattle.std.specs.List.{list_any}
use Rattle.h3_proto.specs.declared.stream.Side.{Side}
use Rattle.h3_connection.specs.OwnIds.{other}
use Rattle.h3_connection.specs.StrictSending.{broken_protocol}
use Rattle.h3_connection.specs.declared.event.Fault.TheVariants.{Stream}
use Rattle.h3_connection.specs.declared.event.Malformation.{Malformation}
use Rattle.h3_connection.specs.declared.event.Pull.{Pull}
use Rattle.h3_connection.specs.declared.event.Pull.TheVariants.{Fault}
use Rattle.h3_connection.specs.declared.event.Refusal.TheVariants as refusal
use Rattle.h3_connection.specs.declared.event.StreamFault.TheVariants.{Malformed}
use Rattle.h3_connection.specs.declared.setup.Announced.{Announced}
use Rattle.h3_connection.specs.Lists.{pull_of}
use Rattle.h3_world.specs.Ends.{Ends}
use Rattle.h3_world.specs.Flow.{Flow, Section}
use Rattle.h3_world.specs.Headline.{is_connection_fault, is_out_of_memory}
use Rattle.h3_world.specs.Lists.{unreadable}
use Rattle.h3_world.specs.Order.{next_part, section_of_part}
use Rattle.h3_world.specs.Pulling.{settled}
use Rattle.h3_world.specs.Run.{Run}
use Rattle.h3_world.specs.World.{empty_world}
use Rattle.h3_world.specs.declared.event.Answer.{Answer}
use Rattle.h3_world.specs.declared.event.Answer.TheVariants as answer
use Rattle.h3_world.specs.declared.event.Event.{Event}
use Rattle.h3_world.specs.declared.event.Event.TheVariants as event
use Rattle.h3_world.specs.Setup.{IsPlain, Setup, announced_at, takes_any}
use Rattle.h3_world.specs.Streams.{flow}
use Rattle.h3_memory.specs.Kept.{KeepingWorld, caught_up, nothing_kept, with_kept}
use Rattle.h3_memory.specs.Keeping.{StandsKeeping}
use Rattle.h3_memory.specs.MemoryStep.{HappensWithMemory}
use Rattle.h3_strict.specs.GivesUp.{GivesUp}
use Rattle.h3_strict.specs.PlainEnds.{is_malformed_refusal, plain_ends, plain_setup}

abbrev pub asks_for_strict : Setup → Side → Bool
asks_for_strict setup side = (announced_at setup side).choices.strict_messages

abbrev pub is_without_fault : ℕ → List Answer → Type 0
is_without_fault n answers = list_any is_connection_fault (take n answers) ≡ false

-- The side that sends asks for strict messages.
abbrev pub is_strict_send : Setup → Event → Bool
is_strict_send setup (event.Head side id head) = asks_for_strict setup side
is_strict_send setup (event.Fields side id fields) = asks_for_strict setup side
is_strict_send setup (event.Body side id bytes) = asks_for_strict setup side
is_strict_send setup (event.Trailer side id trailer) = asks_for_strict setup side
is_strict_send setup (event.TrailerFields side id fields) = asks_for_strict setup side
is_strict_send setup (event.Finish side id) = asks_for_strict setup side
is_strict_send setup _ = false

-- What the side would not read itself of what it is to send: a protocol that it does not take (RFC 8441, section 4), or a bad part of a list.
abbrev pub unread : Setup → Event → Option Malformation
unread setup (event.Head side id head) = broken_protocol (announced_at setup side) head
unread setup (event.Fields side id fields) = unreadable (takes_any (announced_at setup side)) fields
unread setup (event.Trailer side id trailer) = broken_protocol (announced_at setup side) trailer
unread setup (event.TrailerFields side id fields) = unreadable (takes_any (announced_at setup side)) fields
unread setup _ = None

-- A list tells that memory is wanting only above so many fields.
abbrev pub MayLack : Event → Type 0
MayLack (event.Fields side id fields) = 24576 < length fields
MayLack (event.TrailerFields side id fields) = 24576 < length fields
MayLack _ = Unit {0}

-- What the side would not read itself is malformed, or memory is wanting.
abbrev pub IsRefusedUnread : Type 0 → Option Malformation → Answer → Type 0
IsRefusedUnread lacks (Some why) (answer.Refused (refusal.Malformed told)) = told ≡ why
IsRefusedUnread lacks (Some why) (answer.Refused refusal.OutOfMemory) = lacks
IsRefusedUnread lacks why a = ⊥

abbrev pub RefusesUnread : Setup → Event → Answer → Type 0
RefusesUnread setup e a = IsRefusedUnread (MayLack e) (unread setup e) a

-- The next part of the flow is a section that the side does not read: by another protocol than those that it takes.
abbrev pub IsUnreadNext : Announced → Flow → Malformation → Type 0
IsUnreadNext own f why = (s : Section) × (section_of_part (next_part f) ≡ Some s) × (unreadable (takes_any own) s.fields ≡ Some why)

-- A pull that finds the message malformed once all that the side keeps is read. A side that judges plainly finds only what it does not read.
pub record PullsMalformed (setup : Setup) (k : KeepingWorld) (side : Side) (id : ℕ) (p : Pull) (new : KeepingWorld) : Type 0 where
  pub why : Malformation
  pub judges : IsPlain (announced_at setup side) → IsUnreadNext (announced_at setup side) (flow (caught_up (plain_setup setup) k side) (other side) id) why
  pub told : p ≡ Fault (Stream (Malformed why))
  pub unsettled : settled (caught_up (plain_setup setup) k side) side id ≡ None
  pub given_up : GivesUp (plain_setup setup) (caught_up (plain_setup setup) k side) side id why new.world
  pub kept : new ≡ with_kept k side new.world []

abbrev pub PullsOn : Setup → KeepingWorld → Event → Answer → KeepingWorld → Type 0
PullsOn setup k (event.Pull side id) (answer.Pulled p) new = PullsMalformed setup k side id p new
PullsOn setup k (event.PullFields side id) (answer.Listed l) new = PullsMalformed setup k side id (pull_of l) new
PullsOn setup k e a new = ⊥

-- What may come of an event. Of a side that judges more stands in the world the same side that does not (`plain_setup`).
pub data HappensAnywhere (setup : Setup) (k : KeepingWorld) (e : Event) (a : Answer) (new : KeepingWorld) : Type 0 where
  -- as between sides that judge plainly, where no memory is refused
  AsPlainly : is_out_of_memory a ≡ false → HappensWithMemory (plain_setup setup) k e a new → HappensAnywhere setup k e a new
  -- and where it is
  LacksMemory : is_out_of_memory a ≡ true → HappensWithMemory (plain_setup setup) k e a new → HappensAnywhere setup k e a new
  -- a strict side refuses a send as malformed, and nothing changes
  RefusesMalformed : is_strict_send setup e ≡ true → is_malformed_refusal a ≡ true → new ≡ k → HappensAnywhere setup k e a new
  -- a side refuses what it would not read itself, and nothing changes
  RefusesOwn : RefusesUnread setup e a → new ≡ k → HappensAnywhere setup k e a new
  -- a pull of a side that asks for strict messages, has a limit or does not read the next section gives the message up
  GivesMessageUp : PullsOn setup k e a new → HappensAnywhere setup k e a new

-- **The answers are those of a run of such steps.**
pub record RunsAnywhere (setup : Setup) (events : List Event) (answers : List Answer) : Type 0 where
  pub world : KeepingWorld
  pub run : Run (HappensAnywhere setup) (nothing_kept (empty_world (plain_setup setup))) events answers world

abbrev pub is_send : Event → Bool
is_send (event.Head side id head) = true
is_send (event.Fields side id fields) = true
is_send (event.Body side id bytes) = true
is_send (event.Trailer side id trailer) = true
is_send (event.TrailerFields side id fields) = true
is_send (event.Finish side id) = true
is_send _ = false

-- So it is up to a fault of the connection, and no send finds such a fault.
pub record RunsUntilFault (setup : Setup) (events : List Event) (answers : List Answer) : Type 0 where
  pub runs : (n : ℕ) → is_without_fault n answers → RunsAnywhere setup (take n events) (take n answers)
  pub sends : (n : ℕ) (e : Event) (a : Answer) (later : List Event) (others : List Answer) → is_without_fault n answers → drop n events ≡ e ∷ later → drop n answers ≡ a ∷ others → is_send e ≡ true → is_connection_fault a ≡ false

-- Where there is none, these ends stand in the last world, with what they keep, as the same ends that judge plainly.
pub record StandsAnywhere (setup : Setup) (events : List Event) (answers : List Answer) (ends : Ends) : Type 0 where
  pub runs : RunsAnywhere setup events answers
  pub stands : StandsKeeping (plain_setup setup) runs.world (plain_ends ends)
