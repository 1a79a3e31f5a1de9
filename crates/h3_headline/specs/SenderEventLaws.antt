-- Where a call of a sender is served, the event happens in the world, and both ends stand in it after that.
use Rattle.h3_world.specs.Setup.{Setup}
use Rattle.h3_world.specs.declared.event.Answer.{Answer}
use Rattle.h3_world.specs.Ends.{Ends, answered}
use Rattle.h3_world.specs.World.{World}
use Rattle.h3_world.specs.declared.event.Event.{Event}
use Rattle.h3_world.specs.Machine.{served}
use Rattle.h3_world.specs.Sendable.{IsSendable}
use Rattle.h3_headline.specs.AlikeLaws.{alike_stands}
use Rattle.h3_headline.specs.Calls.{Serves}
use Rattle.h3_headline.specs.Cited.{WorldLaws}
use Rattle.h3_headline.specs.OwnStreams.{AnswersAlike, KeepsWriting}
use Rattle.h3_headline.specs.Standing.{Stands}
use Rattle.h3_headline.specs.Steps.{StandsOn}

pub answers_served : (setup : Setup) (given : Answer × Ends) (to : Answer × World) → Serves setup given to → AnswersAlike setup given to
answers_served setup given to h = record { answer = h.answer; at_client = h.both.here; at_server = h.both.there; next_id = h.next_id }

pub writes_served : (setup : Setup) (given : Answer × Ends) (to : Answer × World) → Serves setup given to → KeepsWriting setup to.1
writes_served setup given to h = record { client_writes = h.both.writes_here; server_writes = h.both.writes_there; requests = h.both.sends_here; responses = h.both.sends_there }

pub served_stands : (laws : WorldLaws) (setup : Setup) (w : World) (ends : Ends) (e : Event) → IsSendable setup e → Stands setup w ends → Serves setup (answered ends e) (served setup w e) → StandsOn setup w ends e
served_stands laws setup w ends e sendable h s =
    alike_stands laws setup w ends e sendable h (answers_served setup (answered ends e) (served setup w e) s) (writes_served setup (answered ends e) (served setup w e) s)
