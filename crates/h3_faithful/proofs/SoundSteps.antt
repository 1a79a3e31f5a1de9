-- Each step of the world of any two sides keeps it sound.
use Rattle.std.proofs.Common.{◌≡◌, ℕ, true, [], sym, subst, None}
use Rattle.h3_proto.specs.declared.stream.Side.{Side}
use Rattle.h3_connection.specs.Announcing.{section_of}
use Rattle.h3_connection.specs.OwnIds.{other}
use Rattle.h3_connection.specs.declared.event.Item.{Item}
use Rattle.h3_connection.specs.declared.event.Pull.{Pull}
use Rattle.h3_connection.specs.declared.event.Pull.TheVariants as pull
use Rattle.h3_connection.specs.declared.event.StreamFault.{StreamFault}
use Rattle.h3_connection.specs.declared.event.StreamFault.TheVariants.{Malformed}
use Rattle.h3_connection.specs.Lists.{pull_of}
use Rattle.h3_world.specs.Headline.{is_out_of_memory}
use Rattle.h3_world.specs.Items.{HasCome, handed_out}
use Rattle.h3_world.specs.Order.{next_part}
use Rattle.h3_world.specs.Pulling.{PausesExactly, settled}
use Rattle.h3_world.specs.Sendable.{IsSendable, IsSendableBy}
use Rattle.h3_world.specs.Sending.{given_up}
use Rattle.h3_world.specs.Setup.{Setup, announced_at}
use Rattle.h3_world.specs.Step.{IsExact}
use Rattle.h3_world.specs.Streams.{flow}
use Rattle.h3_world.specs.World.{World}
use Rattle.h3_world.specs.declared.event.Answer.{Answer}
use Rattle.h3_world.specs.declared.event.Answer.TheVariants as answer
use Rattle.h3_world.specs.declared.event.Event.{Event}
use Rattle.h3_world.specs.declared.event.Event.TheVariants as event
use Rattle.h3_memory.specs.Kept.{KeepingWorld, caught_up, with_kept}
use Rattle.h3_memory.specs.MemoryStep.{StepWithMemory, UnlessMemory, reader_world}
use Rattle.h3_memory.specs.SoundKeeping.{IsSoundKeeping}
use Rattle.h3_strict.specs.GivesUp.{AtOnce, BehindPart, GivesUp}
use Rattle.h3_strict.specs.PlainEnds.{plain_setup}
use Rattle.h3_faithful.specs.Steps.{AsPlainly, GivesMessageUp, HappensAnywhere, LacksMemory, PullsMalformed, PullsOn, RefusesMalformed, RefusesOwn}

-- `each_step_keeps_worlds_sound` and `a_side_gives_a_stream_up` of `h3_memory`
pub record SoundLaws : Type 0 where
  pub each : (setup : Setup) (k new : KeepingWorld) (e : Event) (a : Answer) → IsSendable setup e → IsSoundKeeping setup k → StepWithMemory setup k e a new → UnlessMemory (is_out_of_memory a) (IsExact (reader_world setup k e) e a) → IsSoundKeeping setup new
  pub at_once : (setup : Setup) (k : KeepingWorld) (side : Side) (id : ℕ) (fault : StreamFault) → IsSoundKeeping setup k → settled (caught_up setup k side) side id ≡ None
      → IsSoundKeeping setup (with_kept k side (given_up (caught_up setup k side) side id fault) [])
  pub behind : (setup : Setup) (k : KeepingWorld) (side : Side) (id : ℕ) (fault : StreamFault) → IsSoundKeeping setup k → settled (caught_up setup k side) side id ≡ None
      → (i : Item) → HasCome (section_of (announced_at setup side)) (flow (caught_up setup k side) (other side) id) (next_part (flow (caught_up setup k side) (other side) id)) i → PausesExactly (caught_up setup k side) side id (pull.Item i)
      → IsSoundKeeping setup (with_kept k side (given_up (handed_out (caught_up setup k side) side id i) side id fault) [])

module _ (laws : SoundLaws) (setup : Setup) (k new : KeepingWorld) (sound : IsSoundKeeping (plain_setup setup) k) where
  abbrev ps : Setup
  ps = plain_setup setup

  pull_sound : (side : Side) (id : ℕ) (p : Pull) → PullsMalformed setup k side id p new → IsSoundKeeping ps new
  pull_sound side id p m = subst (IsSoundKeeping ps) (sym m.kept) (by_way m.given_up)
    where
      left : (v : World) → new.world ≡ v → IsSoundKeeping ps (with_kept k side v []) → IsSoundKeeping ps (with_kept k side new.world [])
      left v is h = subst (λ w. IsSoundKeeping ps (with_kept k side w [])) (sym is) h

      by_way : GivesUp ps (caught_up ps k side) side id m.why new.world → IsSoundKeeping ps (with_kept k side new.world [])
      by_way (AtOnce is) = left (given_up (caught_up ps k side) side id (Malformed m.why)) is (laws.at_once ps k side id (Malformed m.why) sound m.unsettled)
      by_way (BehindPart i come exact is) = left (given_up (handed_out (caught_up ps k side) side id i) side id (Malformed m.why)) is (laws.behind ps k side id (Malformed m.why) sound m.unsettled i come exact)

  -- a message is given up
  gives_up_sound : (e : Event) (a : Answer) → PullsOn setup k e a new → IsSoundKeeping ps new
  gives_up_sound (event.Pull side id) (answer.Pulled p) m = pull_sound side id p m
  gives_up_sound (event.PullFields side id) (answer.Listed l) m = pull_sound side id (pull_of l) m
  gives_up_sound e a m = absurd m

  pub sound_step : (e : Event) (a : Answer) → IsSendableBy true e → HappensAnywhere setup k e a new → IsSoundKeeping ps new
  sound_step e a sendable (AsPlainly told h) = laws.each ps k new e a sendable sound h.step h.exact
  sound_step e a sendable (LacksMemory told h) = laws.each ps k new e a sendable sound h.step h.exact
  sound_step e a sendable (RefusesMalformed strict told is) = subst (IsSoundKeeping ps) (sym is) sound
  sound_step e a sendable (RefusesOwn unread is) = subst (IsSoundKeeping ps) (sym is) sound
  sound_step e a sendable (GivesMessageUp pulls) = gives_up_sound e a pulls
