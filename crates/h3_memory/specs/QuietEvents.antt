-- Events that neither send a part of a message nor pull one.
use Rattle.std.specs.Prelude.{Bool, true, false}
use Rattle.h3_world.specs.declared.event.Event.{Event}
use Rattle.h3_world.specs.declared.event.Event.TheVariants as event

abbrev pub is_quiet : Event → Bool
is_quiet (event.OpenRequest side) = true
is_quiet (event.Reset side id) = true
is_quiet (event.Cancel side id) = true
is_quiet (event.Goaway side id) = true
is_quiet (event.Deliver side id count) = true
is_quiet (event.DeliverEnd side id) = true
is_quiet (event.DeliverReset side id) = true
is_quiet (event.Show side) = true
is_quiet _ = false
