-- What an event between two ends leaves of their world, where all that its pull reads was read: as between sides that judge plainly, or a pull gives a message
-- up. Of an event that sends and hands out nothing it is said that it leaves the parts.
use Rattle.std.specs.Prelude.{◌≡◌, ◌⊎◌, []}
use Rattle.h3_world.specs.Ends.{Ends, end_at}
use Rattle.h3_world.specs.Step.{Step}
use Rattle.h3_world.specs.World.{World}
use Rattle.h3_world.specs.declared.event.Answer.{Answer}
use Rattle.h3_world.specs.declared.event.Event.{Event}
use Rattle.h3_world.specs.declared.event.Event.TheVariants as event
use Rattle.h3_world.specs.Setup.{Setup}
use Rattle.h3_headline.specs.Contents.{KeepsParts}
use Rattle.h3_strict.specs.GivesUp.{GivesUpBy}
use Rattle.h3_strict.specs.PlainEnds.{plain_setup}

abbrev pub WorldStep : Setup → World → Event → Answer → World → Type 0
WorldStep setup w (event.Head side id head) a v = Step (plain_setup setup) w (event.Head side id head) a v
WorldStep setup w (event.Fields side id fields) a v = Step (plain_setup setup) w (event.Fields side id fields) a v
WorldStep setup w (event.Body side id bytes) a v = Step (plain_setup setup) w (event.Body side id bytes) a v
WorldStep setup w (event.Trailer side id trailer) a v = Step (plain_setup setup) w (event.Trailer side id trailer) a v
WorldStep setup w (event.TrailerFields side id fields) a v = Step (plain_setup setup) w (event.TrailerFields side id fields) a v
WorldStep setup w (event.Finish side id) a v = Step (plain_setup setup) w (event.Finish side id) a v
WorldStep setup w (event.Pull side id) a v = Step (plain_setup setup) w (event.Pull side id) a v ⊎ GivesUpBy setup w (event.Pull side id) a v
WorldStep setup w (event.PullFields side id) a v = Step (plain_setup setup) w (event.PullFields side id) a v ⊎ GivesUpBy setup w (event.PullFields side id) a v
WorldStep setup w e a v = KeepsParts w v

-- the side that pulls keeps nothing
abbrev pub KeepsNone : Ends → Event → Type 0
KeepsNone ends (event.Pull side id) = (end_at ends side).kept ≡ []
KeepsNone ends (event.PullFields side id) = (end_at ends side).kept ≡ []
KeepsNone ends e = Unit {0}
