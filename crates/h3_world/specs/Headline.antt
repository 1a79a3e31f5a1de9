-- What holds of each step of a run.
use Rattle.std.specs.Prelude.{◌≡◌, ℕ, Bool, true, false, None, is_none}
use Rattle.h3_proto.specs.declared.stream.Side.{Side}
use Rattle.h3_connection.specs.OwnIds.{other, encoder_id}
use Rattle.h3_connection.specs.Pulling.{is_memory as tells_memory}
use Rattle.h3_connection.specs.declared.event.Pull.{Pull}
use Rattle.h3_connection.specs.declared.event.Pull.TheVariants as pull
use Rattle.h3_connection.specs.declared.event.Refusal.TheVariants as refusal
use Rattle.h3_connection.specs.declared.event.Fault.TheVariants as fault
use Rattle.h3_connection.specs.Lists.{pull_of}
use Rattle.h3_connection.specs.declared.lists.ListPull.TheVariants as list
use Rattle.h3_world.specs.Setup.{Setup}
use Rattle.h3_world.specs.declared.event.Event.{Event}
use Rattle.h3_world.specs.declared.event.Event.TheVariants as event
use Rattle.h3_world.specs.declared.event.Answer.{Answer}
use Rattle.h3_world.specs.declared.event.Answer.TheVariants as answer
use Rattle.h3_world.specs.World.{World}
use Rattle.h3_world.specs.Streams.{flow, waiting}
use Rattle.h3_world.specs.Order.{next_part, is_finished}
use Rattle.h3_world.specs.Pauses.{pause_of}
use Rattle.h3_world.specs.Pulling.{settled}
use Rattle.h3_world.specs.Step.{Step, IsExact, IsWithinLimits}

-- Nothing waits on the stream and on its sender's encoder stream, the stream was not reset, and its end was delivered if it
-- was finished.
pub record IsDelivered (setup : Setup) (w : World) (writer : Side) (id : ℕ) : Type 0 where
  pub whole : (flow w writer id).is_reset ≡ false
  pub message : waiting setup w writer id ≡ 0
  pub encoder : waiting setup w writer (encoder_id writer) ≡ 0
  pub ended : is_finished (flow w writer id) ≡ true → (flow w writer id).ended ≡ true

-- With everything delivered, a pull pauses only at the end of what was sent.
abbrev pub PullComesOut : Setup → World → Side → ℕ → Pull → Type 0
PullComesOut setup w side id p =
    IsDelivered setup w (other side) id → settled w side id ≡ None → is_none (pause_of p) ≡ false → next_part (flow w (other side) id) ≡ None

abbrev pub ComesOut : Setup → World → Event → Answer → Type 0
ComesOut setup w (event.Pull side id) (answer.Pulled p) = PullComesOut setup w side id p
ComesOut setup w (event.PullFields side id) (answer.Listed l) = PullComesOut setup w side id (pull_of l)
ComesOut setup w _ _ = Unit {0}

abbrev pub is_connection_fault : Answer → Bool
is_connection_fault (answer.Pulled (pull.Fault (fault.Connection code))) = true
is_connection_fault (answer.Listed (list.Fault (fault.Connection code))) = true
is_connection_fault (answer.Refused (refusal.Closed code)) = true
is_connection_fault (answer.Refused (refusal.Connection code)) = true
is_connection_fault _ = false

-- the answer tells that memory was refused
abbrev pub is_out_of_memory : Answer → Bool
is_out_of_memory (answer.Refused refusal.OutOfMemory) = true
is_out_of_memory (answer.Refused refusal.Kept) = true
is_out_of_memory (answer.Pulled p) = tells_memory p
is_out_of_memory (answer.Listed l) = tells_memory (pull_of l)
is_out_of_memory _ = false

-- one step, with all that is said of it
pub record Happens (setup : Setup) (w : World) (e : Event) (a : Answer) (new : World) : Type 0 where
  pub step : Step setup w e a new
  pub exact : IsExact w e a
  pub comes_out : ComesOut setup w e a
  pub no_connection_fault : is_connection_fault a ≡ false
  pub within_limits : IsWithinLimits setup new
