-- What a run asks for of its events.
use Rattle.std.specs.Prelude.{◌^◌, ◌<◌, List, length}
use Rattle.std.specs.List.{AllByRecursion}
use Rattle.h3_field.specs.Field.{section_size}
use Rattle.h3_header.specs.Head.{head_fields}
use Rattle.h3_world.specs.Sendable.{NamesTaken}
use Rattle.h3_world.specs.Setup.{JudgesPlainly, Setup, both_take_any}
use Rattle.h3_world.specs.declared.event.Event.{Event}
use Rattle.h3_world.specs.declared.event.Event.TheVariants as event

-- The section or body that the event sends has less than 2^56 bytes. A section counts by its size (RFC 9114, section 4.2.2).
abbrev pub IsSmall : Event → Type 0
IsSmall (event.Head acting id head) = section_size (head_fields head) < 2 ^ 56
IsSmall (event.Fields acting id fields) = section_size fields < 2 ^ 56
IsSmall (event.Body acting id bytes) = length bytes < 2 ^ 56
IsSmall (event.Trailer acting id trailer) = section_size (head_fields trailer) < 2 ^ 56
IsSmall (event.TrailerFields acting id fields) = section_size fields < 2 ^ 56
IsSmall _ = Unit {0}

abbrev pub AreSmall : List Event → Type 0
AreSmall events = AllByRecursion IsSmall events

-- Neither side asks for strict messages or limits what is unfinished, and no event names a `:protocol` that one of the two does not take.
pub record ArePlain (setup : Setup) (events : List Event) : Type 0 where
  pub sides : JudgesPlainly setup
  pub taken : AllByRecursion (NamesTaken (both_take_any setup)) events
