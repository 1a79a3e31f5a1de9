-- Over a whole run, also where memory is refused: each world is sound, and what is handed out of a flow is a front of what is sent on it.
use Rattle.std.proofs.Common.{◌≡◌, ℕ, Bool, true, false, List, [], ◌∷◌, length, refl, sym, ap, subst, None}
use Rattle.std.specs.Prelude.{suc, ◌||◌}
use Rattle.std.specs.List.{AllByRecursion, list_any}
use Rattle.h3_proto.specs.StreamIds.{is_request_stream}
use Rattle.h3_proto.specs.declared.stream.Side.{Side}
use Rattle.h3_proto.specs.declared.stream.Side.TheVariants.{Client, Server}
use Rattle.h3_connection.specs.OwnIds.{other}
use Rattle.h3_world.specs.Setup.{Setup}
use Rattle.h3_world.specs.declared.event.Event.{Event}
use Rattle.h3_world.specs.declared.event.Answer.{Answer}
use Rattle.h3_world.specs.Flow.{Flow, unused}
use Rattle.h3_world.specs.Headline.{is_connection_fault}
use Rattle.h3_world.specs.Order.{next_part}
use Rattle.h3_world.specs.Sendable.{IsSendable}
use Rattle.h3_world.specs.Streams.{flow}
use Rattle.h3_world.specs.World.{empty_world, no_exchange}
use Rattle.h3_headline.specs.Cited.{WorldLaws}
use Rattle.h3_headline.specs.ContentLaws.{moves_then, stays}
use Rattle.h3_headline.specs.Contents.{Moves, reader_of, Carried, Carries, IsAll, RunMoves}
use Rattle.h3_headline.specs.FlowLaws.{other-other, same_both}
use Rattle.h3_headline.specs.Exactly.{IsAllOf, IsExactly, Reader, reader_at}
use Rattle.h3_headline.specs.Messages.{MessageContent, IsFrontOf, sent, has_finished, pulled, has_pulled_end, sent_in, finished_in, pulled_in, ended_in}
use Rattle.h3_headline.specs.PulledAndSentLaws.{is_all, is_complete, is_front}
use Rattle.h3_memory.specs.Kept.{KeepingWorld, nothing_kept}
use Rattle.h3_memory.specs.MemoryStep.{HappensWithMemory}
use Rattle.h3_world.specs.Run.{Run}
use Rattle.h3_memory.specs.SoundKeeping.{IsSoundKeeping}
use Rattle.h3_memory.proofs.KeptLaws.{KeptLaws}
use Rattle.h3_memory.proofs.MemoryMoves.{step_moves}
use Rattle.h3_memory.proofs.StepsKept.{step_keeps}

nothing : (r : Reader) (f : Flow) → Moves r f f [] false [] false
nothing r f = stays r f f false (record { sent = refl; parts_out = refl; body_out = refl }) (λ e. absurd (cc))

-- before anything, each flow is unused
nothing_yet : (setup : Setup) (writer : Side) (id : ℕ) → flow (empty_world setup) writer id ≡ unused
nothing_yet setup Client id = ap (λ e. e.request) (same_both (is_request_stream id) no_exchange no_exchange (λ e. refl))
nothing_yet setup Server id = ap (λ e. e.response) (same_both (is_request_stream id) no_exchange no_exchange (λ e. refl))

carries : (r : Reader) (f g : Flow) (sending : List MessageContent) (finishing : Bool) (handing : List MessageContent) (ending : Bool) → f ≡ unused → Moves r f g sending finishing handing ending
    → Carries r g sending finishing handing ending
carries r f g sending finishing handing ending none m =
    let n = subst (λ x. Moves r x g sending finishing handing ending) none m in
    record { sent_is = n.sent_is; end_is = n.end_is; handed_is = subst (IsAllOf (IsExactly r) handing) (sym n.hands.more) n.hands.is; over_is = n.over_is }

-- What a run changes of a flow; and it keeps a world sound.
pub record Ran (setup : Setup) (k new : KeepingWorld) (events : List Event) (answers : List Answer) (writer : Side) (id : ℕ) : Type 0 where
  pub moves : RunMoves setup k.world new.world events answers writer id
  pub sound : IsSoundKeeping setup new

pub run_moves : (q : KeptLaws) (laws : WorldLaws) (setup : Setup) (k new : KeepingWorld) (events : List Event) (answers : List Answer) (writer : Side) (id : ℕ) → AllByRecursion (IsSendable setup) events → IsSoundKeeping setup k
    → Run (HappensWithMemory setup) k events answers new → Ran setup k new events answers writer id
run_moves q laws setup k new [] [] writer id sendable h run =
    subst (λ v. Ran setup k v [] [] writer id) (sym run) (record { moves = nothing (reader_of setup writer) (flow k.world writer id); sound = h })
run_moves q laws setup k new (e ∷ es) (a ∷ later) writer id sendable h run =
    let mid = run.0 in
    let first = step_moves q setup k mid e a writer id h run.1.step in
    let sound = step_keeps q laws setup k mid e a sendable.0 h run.1.step run.1.exact in
    let rest = run_moves q laws setup mid new es later writer id sendable.1 sound run.2 in
    record {
      moves = moves_then (reader_of setup writer) (flow k.world writer id) (flow mid.world writer id) (flow new.world writer id) (sent_in writer id e a) (sent writer id es later) (finished_in writer id e a) (has_finished writer id es later)
          (pulled_in (other writer) id e a) (pulled (other writer) id es later) (ended_in (other writer) id e a) (has_pulled_end (other writer) id es later) first rest.moves;
      sound = rest.sound;
    }
run_moves q laws setup k new [] (a ∷ later) writer id sendable h run = absurd run
run_moves q laws setup k new (e ∷ es) [] writer id sendable h run = absurd run

-- before anything
pub begins_sound : (laws : WorldLaws) (setup : Setup) → IsSoundKeeping setup (nothing_kept (empty_world setup))
begins_sound laws setup = record { sound = laws.begins setup; client = tt; server = tt }

abbrev pub FromNothing : Setup → List Event → List Answer → KeepingWorld → Type 0
FromNothing setup events answers k = Run (HappensWithMemory setup) (nothing_kept (empty_world setup)) events answers k

pub run_carries : (q : KeptLaws) (laws : WorldLaws) (setup : Setup) (events : List Event) (answers : List Answer) (k : KeepingWorld) (writer : Side) (id : ℕ) → AllByRecursion (IsSendable setup) events → FromNothing setup events answers k
    → Carried setup k.world events answers writer id
run_carries q laws setup events answers k writer id sendable run =
    let r = run_moves q laws setup (nothing_kept (empty_world setup)) k events answers writer id sendable (begins_sound laws setup) run in
    record {
      carried = carries (reader_of setup writer) (flow (empty_world setup) writer id) (flow k.world writer id) (sent writer id events answers) (has_finished writer id events answers)
          (pulled (other writer) id events answers) (has_pulled_end (other writer) id events answers) (nothing_yet setup writer id) r.moves;
      sound = r.sound.sound;
    }

-- who writes to the other side is read by this one
reads_it : (setup : Setup) (side : Side) → reader_of setup (other side) ≡ reader_at setup side
reads_it setup Client = refl
reads_it setup Server = refl

-- **A front of what was sent; with the end all of it; and where no part is left.**
pub front_at : (q : KeptLaws) (laws : WorldLaws) (setup : Setup) (events : List Event) (answers : List Answer) (k : KeepingWorld) (side : Side) (id : ℕ) → AllByRecursion (IsSendable setup) events → FromNothing setup events answers k
    → IsFrontOf (IsExactly (reader_at setup side)) (pulled side id events answers) (sent (other side) id events answers)
front_at q laws setup events answers k side id sendable run =
    let c = run_carries q laws setup events answers k (other side) id sendable run in
    subst (λ r. IsFrontOf (IsExactly r) (pulled side id events answers) (sent (other side) id events answers)) (reads_it setup side)
    (subst (λ s. IsFrontOf (IsExactly (reader_of setup (other side))) (pulled s id events answers) (sent (other side) id events answers)) (other-other side)
    (is_front (reader_of setup (other side)) (flow k.world (other side) id) (sent (other side) id events answers) (has_finished (other side) id events answers)
    (pulled (other (other side)) id events answers) (has_pulled_end (other (other side)) id events answers) c.carried))

pub all_at : (q : KeptLaws) (laws : WorldLaws) (setup : Setup) (events : List Event) (answers : List Answer) (k : KeepingWorld) (side : Side) (id : ℕ) → AllByRecursion (IsSendable setup) events → FromNothing setup events answers k
    → has_pulled_end side id events answers ≡ true
    → IsAll (reader_at setup side) (sent (other side) id events answers) (has_finished (other side) id events answers) (pulled side id events answers)
all_at q laws setup events answers k side id sendable run ended =
    let c = run_carries q laws setup events answers k (other side) id sendable run in
    subst (λ r. IsAll r (sent (other side) id events answers) (has_finished (other side) id events answers) (pulled side id events answers)) (reads_it setup side)
    (subst (λ s. has_pulled_end s id events answers ≡ true → IsAll (reader_of setup (other side)) (sent (other side) id events answers) (has_finished (other side) id events answers) (pulled s id events answers)) (other-other side)
    (is_complete setup k.world events answers (other side) id c) ended)

pub left_none_at : (q : KeptLaws) (laws : WorldLaws) (setup : Setup) (events : List Event) (answers : List Answer) (k : KeepingWorld) (side : Side) (id : ℕ) → AllByRecursion (IsSendable setup) events → FromNothing setup events answers k
    → next_part (flow k.world (other side) id) ≡ None → IsAllOf (IsExactly (reader_at setup side)) (pulled side id events answers) (sent (other side) id events answers)
left_none_at q laws setup events answers k side id sendable run none =
    let c = run_carries q laws setup events answers k (other side) id sendable run in
    subst (λ r. IsAllOf (IsExactly r) (pulled side id events answers) (sent (other side) id events answers)) (reads_it setup side)
    (subst (λ s. IsAllOf (IsExactly (reader_of setup (other side))) (pulled s id events answers) (sent (other side) id events answers)) (other-other side)
    (is_all (reader_of setup (other side)) (flow k.world (other side) id) (sent (other side) id events answers) (has_finished (other side) id events answers)
    (pulled (other (other side)) id events answers) (has_pulled_end (other (other side)) id events answers) c.carried none))

-- No answer tells of a connection fault, and each event has one.
or_false : (a b : Bool) → a ≡ false → b ≡ false → (a || b) ≡ false
or_false true b e f = e
or_false false b e f = f

pub no_fault_at : (setup : Setup) (k new : KeepingWorld) (events : List Event) (answers : List Answer) → Run (HappensWithMemory setup) k events answers new → list_any is_connection_fault answers ≡ false
no_fault_at setup k new [] [] run = refl
no_fault_at setup k new (e ∷ es) (a ∷ later) run = or_false (is_connection_fault a) (list_any is_connection_fault later) run.1.no_connection_fault (no_fault_at setup run.0 new es later run.2)
no_fault_at setup k new [] (a ∷ later) run = absurd run
no_fault_at setup k new (e ∷ es) [] run = absurd run

pub as_many : (setup : Setup) (k new : KeepingWorld) (events : List Event) (answers : List Answer) → Run (HappensWithMemory setup) k events answers new → length answers ≡ length events
as_many setup k new [] [] run = refl
as_many setup k new (e ∷ es) (a ∷ later) run = ap (λ n. suc n) (as_many setup run.0 new es later run.2)
as_many setup k new [] (a ∷ later) run = absurd run
as_many setup k new (e ∷ es) [] run = absurd run
