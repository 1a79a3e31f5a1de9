-- What any two sides sent and were handed, behind a run of the world of both.
use Rattle.std.proofs.Common.{◌≡◌, ℕ, Bool, true, false, List, [], ◌∷◌, refl, ap, sym, ◌∙◌, subst}
use Rattle.std.specs.Prelude.{◌||◌, Option, Some, None, is_some}
use Rattle.std.specs.List.{AllByRecursion}
use Rattle.h3_proto.specs.declared.stream.Side.{Side}
use Rattle.h3_proto.specs.declared.stream.Side.TheVariants.{Client, Server}
use Rattle.h3_connection.specs.OwnIds.{other}
use Rattle.h3_connection.specs.declared.event.Malformation.{Malformation}
use Rattle.h3_connection.specs.declared.event.Pull.{Pull}
use Rattle.h3_connection.specs.declared.event.Pull.TheVariants as pull
use Rattle.h3_connection.specs.Lists.{pull_of}
use Rattle.h3_connection.specs.declared.lists.ListPull.TheVariants as list
use Rattle.h3_world.specs.Flow.{Flow}
use Rattle.h3_world.specs.Headline.{is_out_of_memory}
use Rattle.h3_world.specs.Order.{is_over}
use Rattle.h3_world.specs.Run.{Run}
use Rattle.h3_world.specs.Sendable.{IsSendableBy}
use Rattle.h3_world.specs.Sound.{IsSoundWorld}
use Rattle.h3_world.specs.Streams.{flow}
use Rattle.h3_world.specs.World.{World, empty_world}
use Rattle.h3_world.specs.declared.event.Answer.{Answer}
use Rattle.h3_world.specs.declared.event.Answer.TheVariants as answer
use Rattle.h3_world.specs.declared.event.Event.{Event}
use Rattle.h3_world.specs.declared.event.Event.TheVariants as event
use Rattle.h3_world.specs.Setup.{Setup}
use Rattle.h3_headline.specs.Changes.{StaysAs, StaysBy}
use Rattle.h3_headline.specs.ContentLaws.{out_front, stays}
use Rattle.h3_headline.specs.Contents.{Carries, GoneStays, KeepsParts, MovesBy, contents, out, reader_of}
use Rattle.h3_headline.specs.Exactly.{IsAllOf, IsExactly, Reader, reader_at}
use Rattle.h3_headline.specs.Messages.{IsFrontOf, MessageContent, contents_of, ended_in, finished_in, has_finished, has_pulled_end, is_end_of, is_on, pulled, pulled_in, sent, sent_in}
use Rattle.h3_headline.specs.PulledAndSentLaws.{front_as_sent, is_complete}
use Rattle.h3_memory.specs.Kept.{KeepingWorld, caught_up, is_settled, nothing_kept}
use Rattle.h3_memory.specs.MemoryStep.{Answers, Pulls, StepOf, StepWithMemory}
use Rattle.h3_memory.specs.SoundKeeping.{IsSoundKeeping}
use Rattle.h3_strict.specs.Accounts.{Accounts, Advances, AdvancesBy, AnswersNothing, KeepsOn, Quiet}
use Rattle.h3_strict.specs.AdvanceLaws.{advances, advances_then, front_more, keeps, quiet_none, says}
use Rattle.h3_strict.specs.GivingUpLaws.{alive_before, gives_up_advances, none_if, not_both, nothing_yet, quiet_on, quiet_step, refusal_advances, refused_advances, told_nothing, unused_accounts}
use Rattle.h3_strict.specs.PlainEnds.{plain_setup}
use Rattle.h3_faithful.specs.Steps.{AsPlainly, GivesMessageUp, HappensAnywhere, IsRefusedUnread, LacksMemory, MayLack, PullsMalformed, PullsOn, RefusesMalformed, RefusesOwn, unread}
use Rattle.h3_faithful.proofs.SoundSteps.{SoundLaws, sound_step}

-- `each_step_moves_messages` of `h3_memory`, and its laws of sound worlds
pub record MemoryMoves : Type 0 where
  pub begins : (setup : Setup) → IsSoundKeeping setup (nothing_kept (empty_world setup))
  pub moves : (setup : Setup) (k new : KeepingWorld) (e : Event) (a : Answer) (writer : Side) (id : ℕ) → IsSoundKeeping setup k → StepWithMemory setup k e a new → MovesBy setup k.world e writer id a new.world
  pub gone : (setup : Setup) (k new : KeepingWorld) (e : Event) (a : Answer) → IsSoundKeeping setup k → StepWithMemory setup k e a new → GoneStays k.world new.world
  pub caught : (setup : Setup) (k : KeepingWorld) (side : Side) → IsSoundKeeping setup k → KeepsParts k.world (caught_up setup k side) × GoneStays k.world (caught_up setup k side) × IsSoundWorld setup (caught_up setup k side)
  pub stays : (setup : Setup) (k new : KeepingWorld) (e : Event) (a : Answer) (writer : Side) (id : ℕ) → IsSoundKeeping setup k → StepWithMemory setup k e a new → StaysBy k.world e writer id a new.world
  pub caught_as : (setup : Setup) (k : KeepingWorld) (side writer : Side) (id : ℕ) (resets goes : Bool) → IsSoundKeeping setup k → StaysAs writer id resets goes k.world (caught_up setup k side)
  pub sound : SoundLaws

abbrev pub AccountsAt : Setup → KeepingWorld → List Event → List Answer → Side → ℕ → Type 0
AccountsAt setup k events answers side id =
    Accounts (reader_at setup side) (flow k.world (other side) id) (sent (other side) id events answers) (has_finished (other side) id events answers) (pulled side id events answers) (has_pulled_end side id events answers)

abbrev pub RunsSo : Setup → List Event → List Answer → KeepingWorld → Type 0
RunsSo setup events answers k = Run (HappensAnywhere setup) (nothing_kept (empty_world (plain_setup setup))) events answers k

-- an answer that tells of memory hands out nothing
memory_nothing : (a : Answer) → is_out_of_memory a ≡ true → AnswersNothing a
memory_nothing (answer.Refused r) told = (refl, refl)
memory_nothing (answer.Pulled (pull.Fault f)) told = (refl, refl)
memory_nothing (answer.Listed (list.Fault f)) told = (refl, refl)
memory_nothing a told = absurd (cc)

quiet_at : (w : World) (e : Event) (a : Answer) (writer : Side) (id : ℕ) → AnswersNothing a → Quiet (flow w writer id) (pulled_in (other writer) id e a) (ended_in (other writer) id e a)
quiet_at w (event.Pull side i) a writer id none = quiet_on w side i a writer id (λ gone. none)
quiet_at w (event.PullFields side i) a writer id none = quiet_on w side i a writer id (λ gone. none)
quiet_at w e a writer id none = quiet_none (flow w writer id)

-- of a stream that was given up a pull is settled
gone_settled : (w : World) (side : Side) (i : ℕ) → is_settled w side i ≡ false → is_some (flow w (other side) i).fault ≡ true → ⊥
gone_settled w side i e gone = let never : true ≡ false = sym (ap (λ b. b || is_over (flow w (other side) i)) gone) ∙ e in cc

quiet_answers : (setup : Setup) (k new : KeepingWorld) (e : Event) (a : Answer) (writer : Side) (id : ℕ) → Answers setup k e a new → Quiet (flow k.world writer id) (pulled_in (other writer) id e a) (ended_in (other writer) id e a)
quiet_answers setup k new (event.Pull side i) a writer id step = by_settled (is_settled k.world side i) refl step
  where
    by_settled : (b : Bool) → is_settled k.world side i ≡ b → Pulls setup k side (event.Pull side i) b a new → Quiet (flow k.world writer id) (pulled_in (other writer) id (event.Pull side i) a) (ended_in (other writer) id (event.Pull side i) a)
    by_settled true e h = quiet_step setup k.world new.world (event.Pull side i) a writer id h.0
    by_settled false e h = quiet_on k.world side i a writer id (λ gone. absurd (gone_settled k.world side i e gone))
quiet_answers setup k new (event.PullFields side i) a writer id step = by_settled (is_settled k.world side i) refl step
  where
    by_settled : (b : Bool) → is_settled k.world side i ≡ b → Pulls setup k side (event.PullFields side i) b a new
        → Quiet (flow k.world writer id) (pulled_in (other writer) id (event.PullFields side i) a) (ended_in (other writer) id (event.PullFields side i) a)
    by_settled true e h = quiet_step setup k.world new.world (event.PullFields side i) a writer id h.0
    by_settled false e h = quiet_on k.world side i a writer id (λ gone. absurd (gone_settled k.world side i e gone))
quiet_answers setup k new e a writer id step = quiet_none (flow k.world writer id)

memory_quiet : (setup : Setup) (k new : KeepingWorld) (e : Event) (a : Answer) (writer : Side) (id : ℕ) → StepWithMemory setup k e a new → Quiet (flow k.world writer id) (pulled_in (other writer) id e a) (ended_in (other writer) id e a)
memory_quiet setup k new e a writer id step = by_memory (is_out_of_memory a) refl step
  where
    by_memory : (b : Bool) → is_out_of_memory a ≡ b → StepOf b setup k e a new → Quiet (flow k.world writer id) (pulled_in (other writer) id e a) (ended_in (other writer) id e a)
    by_memory true told h = quiet_at k.world e a writer id (memory_nothing a told)
    by_memory false told h = quiet_answers setup k new e a writer id h

-- what a run leaves of a flow
pub record Told (setup : Setup) (k new : KeepingWorld) (events : List Event) (answers : List Answer) (writer : Side) (id : ℕ) : Type 0 where
  pub sound : IsSoundKeeping (plain_setup setup) new
  pub advances : Advances (reader_of (plain_setup setup) writer) (flow k.world writer id) (flow new.world writer id) (sent writer id events answers) (has_finished writer id events answers) (pulled (other writer) id events answers)
      (has_pulled_end (other writer) id events answers)

module _ (laws : MemoryMoves) (setup : Setup) where
  abbrev ps : Setup
  ps = plain_setup setup

  memory_advances : (k new : KeepingWorld) (e : Event) (a : Answer) (writer : Side) (id : ℕ) → IsSoundKeeping ps k → StepWithMemory ps k e a new → AdvancesBy ps k.world e writer id a new.world
  memory_advances k new e a writer id sound step =
      advances (reader_of ps writer) (flow k.world writer id) (flow new.world writer id) (sent_in writer id e a) (finished_in writer id e a) (pulled_in (other writer) id e a) (ended_in (other writer) id e a)
      (laws.moves ps k new e a writer id sound step) (memory_quiet ps k new e a writer id step)
      (alive_before (is_some (flow k.world writer id).fault) (is_some (flow new.world writer id).fault) (laws.gone ps k new e a sound step writer id))

  -- once all that is kept is read
  caught_on : (k : KeepingWorld) (side : Side) (writer : Side) (id : ℕ) → IsSoundKeeping ps k → KeepsOn ps k.world writer id (caught_up ps k side)
  caught_on k side writer id sound =
      let c = laws.caught ps k side sound in
      let u = caught_up ps k side in
      advances (reader_of ps writer) (flow k.world writer id) (flow u writer id) [] false [] false
      (stays (reader_of ps writer) (flow k.world writer id) (flow u writer id) false (c.0 writer id) (λ x. absurd (let never : false ≡ true = x in cc))) (quiet_none (flow k.world writer id))
      (alive_before (is_some (flow k.world writer id).fault) (is_some (flow u writer id).fault) (c.1 writer id))

  given_up_on : (k new : KeepingWorld) (side : Side) (i : ℕ) (p : Pull) (writer : Side) (id : ℕ) → IsSoundKeeping ps k → PullsMalformed setup k side i p new → KeepsOn ps k.world writer id new.world
  given_up_on k new side i p writer id sound m =
      let u = caught_up ps k side in
      advances_then (reader_of ps writer) (flow k.world writer id) (flow u writer id) (flow new.world writer id) [] [] false false [] [] false false (caught_on k side writer id sound)
      (gives_up_advances ps u side i m.why (laws.caught ps k side sound).2 m.unsettled writer id new.world m.given_up)

  pulls_on : (k new : KeepingWorld) (e : Event) (a : Answer) (writer : Side) (id : ℕ) → IsSoundKeeping ps k → PullsOn setup k e a new → AdvancesBy ps k.world e writer id a new.world
  pulls_on k new (event.Pull side i) (answer.Pulled p) writer id sound m =
      says (reader_of ps writer) (flow k.world writer id) (flow new.world writer id) [] [] false false [] (pulled_in (other writer) id (event.Pull side i) (answer.Pulled p)) false (ended_in (other writer) id (event.Pull side i) (answer.Pulled p)) refl refl
      (none_if (is_on (other writer) id side i) (contents_of (answer.Pulled p)) (ap (λ x. contents_of (answer.Pulled x)) m.told))
      (not_both (is_on (other writer) id side i) (is_end_of (answer.Pulled p)) (ap (λ x. is_end_of (answer.Pulled x)) m.told)) (given_up_on k new side i p writer id sound m)
  pulls_on k new (event.PullFields side i) (answer.Listed l) writer id sound m =
      let none = told_nothing l m.why m.told in
      says (reader_of ps writer) (flow k.world writer id) (flow new.world writer id) [] [] false false [] (pulled_in (other writer) id (event.PullFields side i) (answer.Listed l)) false
      (ended_in (other writer) id (event.PullFields side i) (answer.Listed l)) refl refl (none_if (is_on (other writer) id side i) (contents_of (answer.Listed l)) none.0)
      (not_both (is_on (other writer) id side i) (is_end_of (answer.Listed l)) none.1) (given_up_on k new side i (pull_of l) writer id sound m)
  pulls_on k new e a writer id sound m = absurd m

  -- what a side does not read itself
  unread_advances : (w : World) (e : Event) (a : Answer) (writer : Side) (id : ℕ) (lacks : Type 0) (why : Option Malformation) → IsRefusedUnread lacks why a → AdvancesBy ps w e writer id a w
  unread_advances w e (answer.Refused r) writer id lacks why h = refusal_advances ps w e r writer id
  unread_advances w e a writer id lacks (Some why) h = absurd h
  unread_advances w e a writer id lacks None h = absurd h

  step_advances : (k new : KeepingWorld) (e : Event) (a : Answer) (writer : Side) (id : ℕ) → IsSoundKeeping ps k → HappensAnywhere setup k e a new → AdvancesBy ps k.world e writer id a new.world
  step_advances k new e a writer id sound (AsPlainly told h) = memory_advances k new e a writer id sound h.step
  step_advances k new e a writer id sound (LacksMemory told h) = memory_advances k new e a writer id sound h.step
  step_advances k new e a writer id sound (RefusesMalformed strict told is) = subst (λ v. AdvancesBy ps k.world e writer id a v.world) (sym is) (refused_advances ps k.world e a writer id told)
  step_advances k new e a writer id sound (RefusesOwn own is) = subst (λ v. AdvancesBy ps k.world e writer id a v.world) (sym is) (unread_advances k.world e a writer id (MayLack e) (unread setup e) own)
  step_advances k new e a writer id sound (GivesMessageUp pulls) = pulls_on k new e a writer id sound pulls

  run_told : (k new : KeepingWorld) (events : List Event) (answers : List Answer) (writer : Side) (id : ℕ) → AllByRecursion (IsSendableBy true) events → IsSoundKeeping ps k → Run (HappensAnywhere setup) k events answers new → Told setup k new events answers writer id
  run_told k new [] [] writer id sendable sound run = subst (λ v. Told setup k v [] [] writer id) (sym run) (record { sound = sound; advances = keeps (reader_of ps writer) (flow k.world writer id) })
  run_told k new (e ∷ es) (a ∷ later) writer id sendable sound run =
      let mid = run.0 in
      let rest = run_told mid new es later writer id sendable.1 (sound_step laws.sound setup k mid sound e a sendable.0 run.1) run.2 in
      record {
        sound = rest.sound;
        advances = advances_then (reader_of ps writer) (flow k.world writer id) (flow mid.world writer id) (flow new.world writer id) (sent_in writer id e a) (sent writer id es later) (finished_in writer id e a) (has_finished writer id es later)
            (pulled_in (other writer) id e a) (pulled (other writer) id es later) (ended_in (other writer) id e a) (has_pulled_end (other writer) id es later) (step_advances k mid e a writer id sound run.1) rest.advances;
      }
  run_told k new [] (a ∷ later) writer id sendable sound run = absurd run
  run_told k new (e ∷ es) [] writer id sendable sound run = absurd run

  module _ (events : List Event) (answers : List Answer) (k : KeepingWorld) (sendable : AllByRecursion (IsSendableBy true) events) (run : RunsSo setup events answers k) where
    told_at : (writer : Side) (id : ℕ) → Told setup (nothing_kept (empty_world ps)) k events answers writer id
    told_at writer id = run_told (nothing_kept (empty_world ps)) k events answers writer id sendable (laws.begins ps) run

    pub accounts_of : (writer : Side) (id : ℕ) → Accounts (reader_of ps writer) (flow k.world writer id) (sent writer id events answers) (has_finished writer id events answers) (pulled (other writer) id events answers)
        (has_pulled_end (other writer) id events answers)
    accounts_of writer id = (told_at writer id).advances [] false [] false (subst (λ f. Accounts (reader_of ps writer) f [] false [] false) (sym (nothing_yet ps writer id)) (unused_accounts (reader_of ps writer)))

    pub accounts : (side : Side) (id : ℕ) → AccountsAt setup k events answers side id
    accounts Client id = accounts_of Server id
    accounts Server id = accounts_of Client id

    pub sound_keeping_after : IsSoundKeeping ps k
    sound_keeping_after = (told_at Client 0).sound

    -- the world after such a run is sound
    pub sound_after : IsSoundWorld ps k.world
    sound_after = (told_at Client 0).sound.sound

-- what is out is the beginning of what was sent
pub out_is_front : (r : Reader) (f : Flow) (handing : List MessageContent) → IsFrontOf (IsExactly r) handing (out f) → IsFrontOf (IsExactly r) handing (contents f.sent)
out_is_front r f handing h =
    let begins = out_front f.parts_out f.body_out f.sent in
    subst (IsFrontOf (IsExactly r) handing) (sym begins.is) (front_more r handing (out f) begins.rest h)

-- with the end it is all of it
carried_with_end : (r : Reader) (f : Flow) (sending : List MessageContent) (finishing : Bool) (handing : List MessageContent) (ending : Bool) → Accounts r f sending finishing handing ending → ending ≡ true
    → Carries r f sending finishing handing ending
carried_with_end r f sending finishing handing ending a ended =
    let over = a.over_is ended in
    record { sent_is = a.sent_is; end_is = a.end_is; handed_is = over.1; over_is = λ e. over.0 }

module _ (setup : Setup) (events : List Event) (answers : List Answer) (k : KeepingWorld) (sound : IsSoundWorld (plain_setup setup) k.world) (a : (side : Side) (id : ℕ) → AccountsAt setup k events answers side id) where
  begins_so : (side : Side) (id : ℕ) → IsFrontOf (IsExactly (reader_at setup side)) (pulled side id events answers) (sent (other side) id events answers)
  begins_so side id =
      front_as_sent (reader_at setup side) (pulled side id events answers) (sent (other side) id events answers)
      (subst (IsFrontOf (IsExactly (reader_at setup side)) (pulled side id events answers)) (a side id).sent_is (out_is_front (reader_at setup side) (flow k.world (other side) id) (pulled side id events answers) (a side id).front))

  ends_so : (side : Side) (id : ℕ) → has_pulled_end side id events answers ≡ true
      → IsAllOf (IsExactly (reader_at setup side)) (pulled side id events answers) (sent (other side) id events answers) × (has_finished (other side) id events answers ≡ true)
  ends_so Client id ended =
      let c = carried_with_end (reader_at setup Client) (flow k.world Server id) _ _ _ _ (a Client id) ended in
      let all = is_complete (plain_setup setup) k.world events answers Server id (record { carried = c; sound = sound }) ended in
      (all.all, all.has_finished)
  ends_so Server id ended =
      let c = carried_with_end (reader_at setup Server) (flow k.world Client id) _ _ _ _ (a Server id) ended in
      let all = is_complete (plain_setup setup) k.world events answers Client id (record { carried = c; sound = sound }) ended in
      (all.all, all.has_finished)

-- Each side is handed of each stream what the other side sent on it, and with the end all of it.
pub record HandsOut (setup : Setup) (events : List Event) (answers : List Answer) : Type 0 where
  pub begins : (side : Side) (id : ℕ) → IsFrontOf (IsExactly (reader_at setup side)) (pulled side id events answers) (sent (other side) id events answers)
  pub ends : (side : Side) (id : ℕ) → has_pulled_end side id events answers ≡ true
      → IsAllOf (IsExactly (reader_at setup side)) (pulled side id events answers) (sent (other side) id events answers) × (has_finished (other side) id events answers ≡ true)

pub hands_out : MemoryMoves → (setup : Setup) (events : List Event) (answers : List Answer) (k : KeepingWorld) → AllByRecursion (IsSendableBy true) events → RunsSo setup events answers k → HandsOut setup events answers
hands_out laws setup events answers k sendable run =
    let a = accounts laws setup events answers k sendable run in
    let sound = sound_after laws setup events answers k sendable run in
    record { begins = begins_so setup events answers k sound a; ends = ends_so setup events answers k sound a }
