-- What may come of one event.
use Rattle.std.specs.Prelude.{◌≡◌, ◌≤◌, Option, Some, None}
use Rattle.h3_proto.specs.declared.stream.Side.TheVariants.{Client, Server}
use Rattle.h3_connection.specs.declared.event.Refusal.{Refusal}
use Rattle.h3_connection.specs.declared.event.StreamFault.TheVariants.{Canceled}
use Rattle.h3_connection.specs.Lists.{pull_of}
use Rattle.h3_world.specs.Setup.{Setup}
use Rattle.h3_world.specs.declared.event.Event.{Event}
use Rattle.h3_world.specs.declared.event.Event.TheVariants as event
use Rattle.h3_world.specs.declared.event.Answer.{Answer}
use Rattle.h3_world.specs.declared.event.Answer.TheVariants as answer
use Rattle.h3_world.specs.World.{World}
use Rattle.h3_world.specs.Refusals.{next_id, open_refusal, head_refusal, fields_refusal, body_refusal, trailer_refusal, trailer_fields_refusal, finish_refusal, reset_refusal, cancel_refusal, goaway_refusal}
use Rattle.h3_world.specs.Sending.{opened, sent_head, sent_fields, sent_body, sent_trailer, sent_trailer_fields, finished, cut_off, given_up, with_goaway}
use Rattle.h3_world.specs.Delivering.{delivery, end_delivery, reset_delivery}
use Rattle.h3_world.specs.Pulling.{Pulls, PullsListed, PausesExactly}
use Rattle.h3_world.specs.Shown.{limits_shown, sizes_shown, streams_waiting}

-- The first refusal, with nothing changed, or else the answer and the world of success.
abbrev pub Does : Option Refusal → World → Answer → World → Answer → World → Type 0
Does (Some refusal) old success after given new = (given ≡ answer.Refused refusal) × (new ≡ old)
Does None old success after given new = (given ≡ success) × (new ≡ after)

abbrev pub Step : Setup → World → Event → Answer → World → Type 0
Step setup w (event.OpenRequest side) given new =
    Does (open_refusal setup w side) w (answer.Opened (next_id w)) (opened w) given new
Step setup w (event.Head side id head) given new =
    Does (head_refusal setup w side id head) w answer.Done (sent_head w side id head) given new
Step setup w (event.Fields side id fields) given new =
    Does (fields_refusal setup w side id fields) w answer.Done (sent_fields w side id fields) given new
Step setup w (event.Body side id bytes) given new =
    Does (body_refusal w side id) w answer.Done (sent_body w side id bytes) given new
Step setup w (event.Trailer side id trailer) given new =
    Does (trailer_refusal setup w side id trailer) w answer.Done (sent_trailer w side id trailer) given new
Step setup w (event.TrailerFields side id fields) given new =
    Does (trailer_fields_refusal setup w side id fields) w answer.Done (sent_trailer_fields w side id fields) given new
Step setup w (event.Finish side id) given new =
    Does (finish_refusal w side id) w answer.Done (finished w side id) given new
Step setup w (event.Reset side id) given new =
    Does (reset_refusal w side id) w answer.Done (cut_off w side id) given new
Step setup w (event.Cancel side id) given new =
    Does (cancel_refusal w side id) w answer.Done (given_up w side id Canceled) given new
Step setup w (event.Goaway side id) given new =
    Does (goaway_refusal w side id) w answer.Done (with_goaway w side id) given new
Step setup w (event.Deliver side id count) given new = (given, new) ≡ delivery setup w side id count
Step setup w (event.DeliverEnd side id) given new = (given, new) ≡ end_delivery setup w side id
Step setup w (event.DeliverReset side id) given new = (given, new) ≡ reset_delivery w side id
Step setup w (event.Pull side id) (answer.Pulled pull) new = Pulls setup w side id pull new
Step setup w (event.Pull side id) _ new = ⊥
Step setup w (event.PullFields side id) (answer.Listed l) new = PullsListed setup w side id l new
Step setup w (event.PullFields side id) _ new = ⊥
Step setup w (event.Show side) given new =
    (given ≡ answer.Shown (limits_shown setup w side) (sizes_shown w side) (streams_waiting w side)) × (new ≡ w)

-- A pull pauses exactly where it must.
abbrev pub IsExact : World → Event → Answer → Type 0
IsExact w (event.Pull side id) (answer.Pulled pull) = PausesExactly w side id pull
IsExact w (event.PullFields side id) (answer.Listed l) = PausesExactly w side id (pull_of l)
IsExact w _ _ = Unit {0}

-- No more streams wait at a side than it allows (RFC 9204, section 2.1.2).
pub record IsWithinLimits (setup : Setup) (w : World) : Type 0 where
  pub client : streams_waiting w Client ≤ setup.client.limits.blocked
  pub server : streams_waiting w Server ≤ setup.server.limits.blocked
