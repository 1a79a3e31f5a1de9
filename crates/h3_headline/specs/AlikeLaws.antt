-- Where two endpoints answer an event as the machine of the world does, the event happens in the world, and they stand in it after that.
use Rattle.std.proofs.Common.{sym, subst}
use Rattle.h3_world.specs.Setup.{Setup}
use Rattle.h3_world.specs.declared.event.Event.{Event}
use Rattle.h3_world.specs.Ends.{Ends, answered}
use Rattle.h3_world.specs.Headline.{Happens}
use Rattle.h3_world.specs.Machine.{served}
use Rattle.h3_world.specs.Sendable.{IsSendable}
use Rattle.h3_world.specs.World.{World}
use Rattle.h3_headline.specs.Cited.{WorldLaws}
use Rattle.h3_headline.specs.FewLaws.{few_after}
use Rattle.h3_headline.specs.OwnStreams.{AnswersAlike, KeepsWriting}
use Rattle.h3_headline.specs.Standing.{Stands}
use Rattle.h3_headline.specs.Steps.{StandsOn}

pub alike_stands : (laws : WorldLaws) (setup : Setup) (w : World) (ends : Ends) (e : Event) → IsSendable setup e → Stands setup w ends
    → AnswersAlike setup (answered ends e) (served setup w e) → KeepsWriting setup (served setup w e).1 → StandsOn setup w ends e
alike_stands laws setup w ends e sendable h alike written =
    let new = (served setup w e).1 in
    let step = laws.machine setup w e h.sound in
    let both = laws.both setup w new e (served setup w e).0 sendable step.0 step.1 h.sound in
    record {
      new = new;
      happens = subst (λ a. Happens setup w e a new) (sym alike.answer) both.0;
      stands = record {
        at_client = alike.at_client;
        at_server = alike.at_server;
        next_id = alike.next_id;
        few = few_after setup w e h.few;
        sound = both.1;
        client_writes = written.client_writes;
        server_writes = written.server_writes;
        requests = written.requests;
        responses = written.responses;
      };
    }
