-- Setups without limits.
use Rattle.std.proofs.Common.{◌≡◌, false, refl}
use Rattle.h3_proto.specs.declared.stream.Side.{Side}
use Rattle.h3_proto.specs.declared.stream.Side.TheVariants.{Client, Server}
use Rattle.h3_connection.specs.OwnIds.{other}
use Rattle.h3_connection.specs.declared.setup.Announced.{Announced}
use Rattle.h3_world.specs.Setup.{IsMade, IsMadeSetup, JudgesPlainly, Setup, announced_at, refuses_sessions}
use Rattle.h3_strict.specs.Limits.{AsksForNone, AsksForStrict, unlimited, unlimited_setup}
use Rattle.h3_strict.specs.Tallies.{JudgesStrictly}

-- some configuration announces it
made_unlimited : (a : Announced) → IsMade a → IsMade (unlimited a)
made_unlimited a h =
    record {
      settings = h.settings;
      sends_grease = h.sends_grease;
      grease = h.grease;
      small = h.small;
      section = h.section;
      sessions = h.sessions;
      are = h.are;
      table = h.table;
      blocked = h.blocked;
      within = refl;
      remembered = h.remembered;
    }

sides_unlimited : (setup : Setup) → IsMadeSetup setup → (side : Side) → IsMade (announced_at (unlimited_setup setup) side)
sides_unlimited setup h Client = made_unlimited setup.client (h.sides Client)
sides_unlimited setup h Server = made_unlimited setup.server (h.sides Server)

pub setup_unlimited : (setup : Setup) → IsMadeSetup setup → IsMadeSetup (unlimited_setup setup)
unfolding made_unlimited sides_unlimited
setup_unlimited setup h = record { sides = sides_unlimited setup h; take = kept }
  where
    kept : (side : Side) → refuses_sessions (announced_at (unlimited_setup setup) side) (sides_unlimited setup h side).settings (sides_unlimited setup h (other side)).settings ≡ false
    kept Client = h.take Client
    kept Server = h.take Server

pub unlimited_plainly : (setup : Setup) → AsksForNone setup → JudgesPlainly (unlimited_setup setup)
unlimited_plainly setup none Client = (none Client, refl)
unlimited_plainly setup none Server = (none Server, refl)

pub unlimited_strictly : (setup : Setup) → AsksForStrict setup → JudgesStrictly (unlimited_setup setup)
unlimited_strictly setup strict Client = (strict Client, refl)
unlimited_strictly setup strict Server = (strict Server, refl)
