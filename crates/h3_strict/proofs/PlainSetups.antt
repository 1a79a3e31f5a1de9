-- New endpoints, and setups, without strict messages.
use Rattle.std.proofs.Common.{◌≡◌, false, true, refl}
use Rattle.h3_proto.specs.declared.stream.Side.{Side}
use Rattle.h3_proto.specs.declared.stream.Side.TheVariants.{Client, Server}
use Rattle.h3_connection.specs.Endpoint.{new_endpoint}
use Rattle.h3_connection.specs.OwnIds.{other}
use Rattle.h3_connection.specs.declared.setup.Announced.{Announced}
use Rattle.h3_world.specs.Ends.{new_ends}
use Rattle.h3_world.specs.Setup.{IsMade, IsMadeSetup, JudgesPlainly, Setup, announced_at, refuses_sessions, takes_any}
use Rattle.h3_strict.specs.PlainEnds.{plain_ends, plain_setup}
use Rattle.h3_strict.specs.Plainly.{plain, plainly}

pub new_plainly : (side : Side) (announced : Announced) → plainly (new_endpoint side announced) ≡ new_endpoint side (plain announced)
new_plainly side announced = refl

pub new_ends_plainly : (setup : Setup) → plain_ends (new_ends setup) ≡ new_ends (plain_setup setup)
new_ends_plainly setup = refl

-- some configuration announces it
made_plainly : (a : Announced) → IsMade a → IsMade (plain a)
made_plainly a h =
    record {
      settings = h.settings;
      sends_grease = h.sends_grease;
      grease = h.grease;
      small = h.small;
      section = h.section;
      sessions = h.sessions;
      are = h.are;
      table = h.table;
      blocked = h.blocked;
      within = refl;
      remembered = h.remembered;
    }

sides_plainly : (setup : Setup) → IsMadeSetup setup → (side : Side) → IsMade (announced_at (plain_setup setup) side)
sides_plainly setup h Client = made_plainly setup.client (h.sides Client)
sides_plainly setup h Server = made_plainly setup.server (h.sides Server)

pub setup_plainly : (setup : Setup) → IsMadeSetup setup → IsMadeSetup (plain_setup setup)
unfolding made_plainly sides_plainly
setup_plainly setup h = record { sides = sides_plainly setup h; take = kept }
  where
    kept : (side : Side) → refuses_sessions (announced_at (plain_setup setup) side) (sides_plainly setup h side).settings (sides_plainly setup h (other side)).settings ≡ false
    kept Client = h.take Client
    kept Server = h.take Server

-- any protocol is taken
pub any_protocols : (setup : Setup) (side : Side) → takes_any (announced_at (plain_setup setup) side) ≡ true
any_protocols setup Client = refl
any_protocols setup Server = refl

pub judges_plainly : (setup : Setup) → JudgesPlainly (plain_setup setup)
judges_plainly setup Client = (refl, refl)
judges_plainly setup Server = (refl, refl)
