-- A side that judges more gives a message up as malformed, in the world of the same sides that judge plainly.
use Rattle.std.specs.Prelude.{◌≡◌, ℕ, None}
use Rattle.h3_proto.specs.declared.stream.Side.{Side}
use Rattle.h3_connection.specs.Announcing.{section_of}
use Rattle.h3_connection.specs.OwnIds.{other}
use Rattle.h3_connection.specs.declared.event.Fault.TheVariants.{Stream}
use Rattle.h3_connection.specs.declared.event.Item.{Item}
use Rattle.h3_connection.specs.declared.event.Malformation.{Malformation}
use Rattle.h3_connection.specs.declared.event.Pull.{Pull}
use Rattle.h3_connection.specs.declared.event.Pull.TheVariants.{Fault, Item as Out}
use Rattle.h3_connection.specs.declared.event.StreamFault.TheVariants.{Malformed}
use Rattle.h3_connection.specs.Lists.{pull_of}
use Rattle.h3_world.specs.Items.{HasCome, handed_out}
use Rattle.h3_world.specs.Order.{next_part}
use Rattle.h3_world.specs.Pulling.{PausesExactly, settled}
use Rattle.h3_world.specs.Sending.{given_up}
use Rattle.h3_world.specs.Setup.{Setup, announced_at}
use Rattle.h3_world.specs.Streams.{flow}
use Rattle.h3_world.specs.World.{World}
use Rattle.h3_world.specs.declared.event.Answer.{Answer}
use Rattle.h3_world.specs.declared.event.Answer.TheVariants as answer
use Rattle.h3_world.specs.declared.event.Event.{Event}
use Rattle.h3_world.specs.declared.event.Event.TheVariants as event
use Rattle.h3_strict.specs.PlainEnds.{plain_setup}

-- The side gives the message up that comes next on the stream: at once, or behind its next part, which it takes and hands to nobody.
pub data GivesUp (setup : Setup) (w : World) (side : Side) (id : ℕ) (why : Malformation) (new : World) : Type 0 where
  AtOnce : new ≡ given_up w side id (Malformed why) → GivesUp setup w side id why new
  BehindPart : (i : Item) → HasCome (section_of (announced_at setup side)) (flow w (other side) id) (next_part (flow w (other side) id)) i
      → PausesExactly w side id (Out i) → new ≡ given_up (handed_out w side id i) side id (Malformed why) → GivesUp setup w side id why new

-- The answer of a pull tells that, and the side gives the message up.
pub record GivesMessageUp (setup : Setup) (w : World) (side : Side) (id : ℕ) (p : Pull) (new : World) : Type 0 where
  pub why : Malformation
  pub told : p ≡ Fault (Stream (Malformed why))
  pub unsettled : settled w side id ≡ None
  pub gives : GivesUp (plain_setup setup) w side id why new

abbrev pub GivesUpBy : Setup → World → Event → Answer → World → Type 0
GivesUpBy setup w (event.Pull side id) (answer.Pulled p) new = GivesMessageUp setup w side id p new
GivesUpBy setup w (event.PullFields side id) (answer.Listed l) new = GivesMessageUp setup w side id (pull_of l) new
GivesUpBy setup w e a new = ⊥
