-- Two endpoints that may ask for strict messages in a world, and what they hand out, by what the same endpoints without strict messages do.
use Rattle.std.proofs.Common.{◌≡◌, ℕ, true, false, List, refl, ap, sym, ◌∙◌, subst}
use Rattle.std.specs.List.{AllByRecursion, list_any}
use Rattle.h3_proto.specs.declared.stream.Side.{Side}
use Rattle.h3_proto.specs.declared.stream.Side.TheVariants.{Client, Server}
use Rattle.h3_connection.specs.OwnIds.{other}
use Rattle.h3_world.specs.Ends.{answers_of_ends, ends_after, new_ends}
use Rattle.h3_world.specs.Headline.{Happens, is_connection_fault}
use Rattle.h3_world.specs.Run.{Run}
use Rattle.h3_world.specs.Sendable.{IsSendable}
use Rattle.h3_world.specs.Setup.{IsMadeSetup, JudgesPlainly, Setup, both_take_any}
use Rattle.h3_world.specs.World.{World, empty_world}
use Rattle.h3_world.specs.declared.event.Answer.{Answer}
use Rattle.h3_world.specs.declared.event.Event.{Event}
use Rattle.h3_headline.specs.Exactly.{IsAllOf, IsExactly, Reader, reader_at}
use Rattle.h3_headline.specs.Messages.{IsFrontOf, MessageContent, has_finished, has_pulled_end, pulled, sent}
use Rattle.h3_headline.specs.Standing.{Stands}
use Rattle.h3_strict.specs.NarrowLaws.{all_widen}
use Rattle.h3_strict.specs.PlainEnds.{RunsPlainly, answers_without_malformed, plain_ends, plain_setup, without_malformed}
use Rattle.h3_strict.proofs.PlainMessages.{same_ended, same_faults, same_finished, same_pulled, same_sent, sendable_left}
use Rattle.h3_strict.proofs.PlainSetups.{judges_plainly, setup_plainly}

-- who reads is the same
same_reader : (setup : Setup) (side : Side) → reader_at (plain_setup setup) side ≡ reader_at setup side
same_reader setup Client = refl
same_reader setup Server = refl

-- h3_headline's laws of endpoints that ask for no strict messages
abbrev pub RunInWorlds : Type 0
RunInWorlds = (setup : Setup) (events : List Event) → IsMadeSetup setup → JudgesPlainly setup → AllByRecursion (IsSendable setup) events
    → (w : World) × Run (Happens setup) (empty_world setup) events (answers_of_ends (new_ends setup) events) w × Stands setup w (ends_after (new_ends setup) events)

module _ (setup : Setup) (events : List Event) (made : IsMadeSetup setup) (sendable : AllByRecursion (IsSendable setup) events) (runs : RunsPlainly (new_ends setup) events) where
  abbrev pub left : List Event
  left = without_malformed events (answers_of_ends (new_ends setup) events)

  abbrev left_answers : List Answer
  left_answers = answers_without_malformed (answers_of_ends (new_ends setup) events)

  pub may_be_sent : AllByRecursion (IsSendable (plain_setup setup)) left
  may_be_sent = all_widen (both_take_any setup) left (sendable_left setup events (answers_of_ends (new_ends setup) events) sendable)

  abbrev plain_answers : List Answer
  plain_answers = answers_of_ends (new_ends (plain_setup setup)) left

  pub runs_in_a_world : RunInWorlds
      → (w : World) × Run (Happens (plain_setup setup)) (empty_world (plain_setup setup)) left left_answers w × Stands (plain_setup setup) w (plain_ends (ends_after (new_ends setup) events))
  runs_in_a_world headline =
      let ran = headline (plain_setup setup) left (setup_plainly setup made) (judges_plainly setup) may_be_sent in
      (ran.0, subst (λ l. Run (Happens (plain_setup setup)) (empty_world (plain_setup setup)) left l ran.0) (sym runs.answers) ran.1, subst (Stands (plain_setup setup) ran.0) (sym runs.leads) ran.2)

  pub no_fault : list_any is_connection_fault plain_answers ≡ false → list_any is_connection_fault (answers_of_ends (new_ends setup) events) ≡ false
  no_fault h = sym (same_faults (answers_of_ends (new_ends setup) events)) ∙ ap (list_any is_connection_fault) runs.answers ∙ h

  module _ (side : Side) (id : ℕ) where
    abbrev given : List Answer
    given = answers_of_ends (new_ends setup) events

    same_front : pulled side id left plain_answers ≡ pulled side id events given
    same_front = ap (pulled side id left) (sym runs.answers) ∙ same_pulled side id events given

    same_all : sent (other side) id left plain_answers ≡ sent (other side) id events given
    same_all = ap (sent (other side) id left) (sym runs.answers) ∙ same_sent (other side) id events given

    -- what is said of what is handed out and what was sent
    same_messages : (P : Reader → List MessageContent → List MessageContent → Type 0) → P (reader_at (plain_setup setup) side) (pulled side id left plain_answers) (sent (other side) id left plain_answers)
        → P (reader_at setup side) (pulled side id events (answers_of_ends (new_ends setup) events)) (sent (other side) id events (answers_of_ends (new_ends setup) events))
    same_messages P h =
        subst (λ r. P r (pulled side id events given) (sent (other side) id events given)) (same_reader setup side)
        (subst (λ l. P (reader_at (plain_setup setup) side) l (sent (other side) id events given)) same_front (subst (λ l. P (reader_at (plain_setup setup) side) (pulled side id left plain_answers) l) same_all h))

    pub hands_out_a_front : IsFrontOf (IsExactly (reader_at (plain_setup setup) side)) (pulled side id left plain_answers) (sent (other side) id left plain_answers)
        → IsFrontOf (IsExactly (reader_at setup side)) (pulled side id events (answers_of_ends (new_ends setup) events)) (sent (other side) id events (answers_of_ends (new_ends setup) events))
    hands_out_a_front h = same_messages (λ r handed all. IsFrontOf (IsExactly r) handed all) h

    pub hands_out_all : (has_pulled_end side id left plain_answers ≡ true
        → IsAllOf (IsExactly (reader_at (plain_setup setup) side)) (pulled side id left plain_answers) (sent (other side) id left plain_answers) × (has_finished (other side) id left plain_answers ≡ true))
        → has_pulled_end side id events (answers_of_ends (new_ends setup) events) ≡ true
        → IsAllOf (IsExactly (reader_at setup side)) (pulled side id events (answers_of_ends (new_ends setup) events)) (sent (other side) id events (answers_of_ends (new_ends setup) events))
        × (has_finished (other side) id events (answers_of_ends (new_ends setup) events) ≡ true)
    hands_out_all h ended =
        let all = h (ap (has_pulled_end side id left) (sym runs.answers) ∙ same_ended side id events given ∙ ended) in
        (same_messages (λ r handed all. IsAllOf (IsExactly r) handed all) all.0, sym (same_finished (other side) id events given) ∙ ap (has_finished (other side) id left) runs.answers ∙ all.1)
