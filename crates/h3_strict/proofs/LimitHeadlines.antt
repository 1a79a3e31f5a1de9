-- Two ends with limits in a world, and what they hand out, by what the same ends without limits do.
use Rattle.std.proofs.Common.{◌≡◌, ℕ, true, false, List, refl, ap, sym, ◌∙◌, subst}
use Rattle.std.specs.List.{AllByRecursion, list_any}
use Rattle.h3_proto.specs.declared.stream.Side.{Side}
use Rattle.h3_proto.specs.declared.stream.Side.TheVariants.{Client, Server}
use Rattle.h3_connection.specs.OwnIds.{other}
use Rattle.h3_world.specs.Ends.{answers_of_ends, ends_after, new_ends}
use Rattle.h3_world.specs.Headline.{Happens, is_connection_fault}
use Rattle.h3_world.specs.Run.{Run}
use Rattle.h3_world.specs.Sendable.{IsSendable}
use Rattle.h3_world.specs.Setup.{IsMadeSetup, JudgesPlainly, Setup}
use Rattle.h3_world.specs.World.{World, empty_world}
use Rattle.h3_world.specs.declared.event.Answer.{Answer}
use Rattle.h3_world.specs.declared.event.Event.{Event}
use Rattle.h3_headline.specs.Exactly.{IsAllOf, IsExactly, Reader, reader_at}
use Rattle.h3_headline.specs.Messages.{IsFrontOf, has_finished, has_pulled_end, pulled, sent}
use Rattle.h3_headline.specs.Standing.{Stands}
use Rattle.h3_strict.proofs.LimitSetups.{setup_unlimited, unlimited_plainly, unlimited_strictly}
use Rattle.h3_strict.proofs.PlainHeadlines.{RunInWorlds}
use Rattle.h3_strict.specs.Limits.{AsksForNone, AsksForStrict, RunsUnlimited, unlimited_ends, unlimited_setup}
use Rattle.h3_strict.specs.PlainEnds.{NoneJudges}
use Rattle.h3_strict.specs.ServerKnows.{ServerKnows}
use Rattle.h3_strict.specs.Tallies.{JudgesStrictly}

-- who reads is the same
same_reader : (setup : Setup) (side : Side) → reader_at (unlimited_setup setup) side ≡ reader_at setup side
same_reader setup Client = refl
same_reader setup Server = refl

-- what a side is handed out of a stream, as its answers tell
abbrev pub HandsFront : Reader → Side → ℕ → List Event → List Answer → Type 0
HandsFront r side id events answers = IsFrontOf (IsExactly r) (pulled side id events answers) (sent (other side) id events answers)

abbrev pub HandsAll : Reader → Side → ℕ → List Event → List Answer → Type 0
HandsAll r side id events answers =
    has_pulled_end side id events answers ≡ true → IsAllOf (IsExactly r) (pulled side id events answers) (sent (other side) id events answers) × (has_finished (other side) id events answers ≡ true)

-- h3_headline's laws
abbrev pub NoFaults : Type 0
NoFaults = (setup : Setup) (events : List Event) → IsMadeSetup setup → JudgesPlainly setup → AllByRecursion (IsSendable setup) events → list_any is_connection_fault (answers_of_ends (new_ends setup) events) ≡ false

abbrev pub HandFronts : Type 0
HandFronts = (setup : Setup) (events : List Event) (side : Side) (id : ℕ) → IsMadeSetup setup → JudgesPlainly setup → AllByRecursion (IsSendable setup) events → HandsFront (reader_at setup side) side id events (answers_of_ends (new_ends setup) events)

abbrev pub HandAll : Type 0
HandAll = (setup : Setup) (events : List Event) (side : Side) (id : ℕ) → IsMadeSetup setup → JudgesPlainly setup → AllByRecursion (IsSendable setup) events → HandsAll (reader_at setup side) side id events (answers_of_ends (new_ends setup) events)

module _ (setup : Setup) (events : List Event) (made : IsMadeSetup setup) (none : AsksForNone setup) (sendable : AllByRecursion (IsSendable setup) events) (runs : RunsUnlimited (new_ends setup) events) where
  pub loose_world : RunInWorlds
      → (w : World) × Run (Happens (unlimited_setup setup)) (empty_world (unlimited_setup setup)) events (answers_of_ends (new_ends setup) events) w × Stands (unlimited_setup setup) w (unlimited_ends (ends_after (new_ends setup) events))
  loose_world headline =
      let ran = headline (unlimited_setup setup) events (setup_unlimited setup made) (unlimited_plainly setup none) sendable in
      (ran.0, subst (λ l. Run (Happens (unlimited_setup setup)) (empty_world (unlimited_setup setup)) events l ran.0) (sym runs.answers) ran.1, subst (Stands (unlimited_setup setup) ran.0) (sym runs.leads) ran.2)

  pub loose_fault : NoFaults → list_any is_connection_fault (answers_of_ends (new_ends setup) events) ≡ false
  loose_fault law = ap (list_any is_connection_fault) runs.answers ∙ law (unlimited_setup setup) events (setup_unlimited setup made) (unlimited_plainly setup none) sendable

  pub loose_front : HandFronts → (side : Side) (id : ℕ) → HandsFront (reader_at setup side) side id events (answers_of_ends (new_ends setup) events)
  loose_front law side id =
      subst (HandsFront (reader_at setup side) side id events) (sym runs.answers)
      (subst (λ n. HandsFront n side id events (answers_of_ends (unlimited_ends (new_ends setup)) events)) (same_reader setup side) (law (unlimited_setup setup) events side id (setup_unlimited setup made) (unlimited_plainly setup none) sendable))

  pub loose_end : HandAll → (side : Side) (id : ℕ) → HandsAll (reader_at setup side) side id events (answers_of_ends (new_ends setup) events)
  loose_end law side id =
      subst (HandsAll (reader_at setup side) side id events) (sym runs.answers)
      (subst (λ n. HandsAll n side id events (answers_of_ends (unlimited_ends (new_ends setup)) events)) (same_reader setup side) (law (unlimited_setup setup) events side id (setup_unlimited setup made) (unlimited_plainly setup none) sendable))

-- Two strict ends take what they send.
abbrev pub NoneJudgeStrictly : Type 0
NoneJudgeStrictly = (setup : Setup) (events : List Event) → IsMadeSetup setup → JudgesStrictly setup → AllByRecursion (IsSendable setup) events → ServerKnows events (answers_of_ends (new_ends setup) events) → NoneJudges (new_ends setup) events

pub strict_none : (setup : Setup) (events : List Event) → IsMadeSetup setup → AsksForStrict setup → AllByRecursion (IsSendable setup) events → ServerKnows events (answers_of_ends (new_ends setup) events) → RunsUnlimited (new_ends setup) events
    → NoneJudgeStrictly → NoneJudges (new_ends setup) events
strict_none setup events made strict sendable knows runs none =
    runs.judges (none (unlimited_setup setup) events (setup_unlimited setup made) (unlimited_strictly setup strict) sendable (subst (ServerKnows events) runs.answers knows))
