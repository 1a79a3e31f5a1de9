-- A stream is reset whose end the other side does not keep: what it keeps stays readable.
use Rattle.std.proofs.Common.{◌≡◌, ℕ, ◌≤◌, Bool, true, false, not, ◌&&◌, ◌||◌, List, [], ◌∷◌, length, refl, sym, ap, ◌∙◌, arith, if◌then◌else◌}
use Rattle.std.specs.Prelude.{◌==◌}
use Rattle.std.proofs.lemmas.Grind.{common_steps}
use Rattle.h3_proto.specs.declared.stream.Side.{Side}
use Rattle.h3_connection.specs.OwnIds.{is_own, control_id, encoder_id, decoder_id}
use Rattle.h3_world.specs.Setup.{Setup}
use Rattle.h3_world.specs.Delivering.{is_closed}
use Rattle.h3_world.specs.Flow.{Flow}
use Rattle.h3_world.specs.Order.{is_finished}
use Rattle.h3_world.specs.Pulling.{own_delivered}
use Rattle.h3_world.specs.Sending.{cut_off}
use Rattle.h3_world.specs.Streams.{flow, is_open}
use Rattle.h3_world.specs.World.{World, Party, party}
use Rattle.h3_headline.specs.FlowLaws.{same_number, flow-with_flow, party-with_flow, is_open-own}
use Rattle.h3_headline.specs.Steps.{IsThere}
use Rattle.h3_memory.specs.Kept.{Delivery, Bytes, End, Reset}
use Rattle.h3_memory.specs.Keeping.{MayAllBeRead, came_of, text_of, with_count, with_closed}
use Rattle.h3_memory.specs.SoundKeeping.{CanBeRead}
use Rattle.h3_memory.proofs.Growing.{may_grow}
use Rattle.h3_memory.proofs.Offered.{came_before}
use Rattle.h3_memory.proofs.ReadAll.{came_behind}
use Rattle.h3_memory.proofs.SameSent.{same_itself, same_writes}
use Rattle.h3_memory.proofs.Written.{text_by}
use Rattle.h3_memory.proofs.WorldsWritten.{each_flow}

-- the end of the stream is among what is kept
abbrev pub has_end : ℕ → List Delivery → Bool
has_end id [] = false
has_end id (Bytes i count ∷ ds) = has_end id ds
has_end id (End i ∷ ds) = i == id || has_end id ds
has_end id (Reset i ∷ ds) = has_end id ds

-- Then it is finished, and all of it will have come.
pub record EndsWhole (setup : Setup) (w : World) (writer : Side) (id came : ℕ) : Type 0 where
  pub finished : is_finished (flow w writer id) ≡ true
  pub whole : length (text_of setup w writer id) ≤ came

pub ended_whole : (setup : Setup) (w : World) (writer : Side) (came : ℕ → ℕ) (closed : ℕ → Bool) (ds : List Delivery) (id : ℕ) → MayAllBeRead setup w writer came closed ds → has_end id ds ≡ true
    → EndsWhole setup w writer id (came_behind came ds id)
ended_whole setup w writer came closed [] id may ends = absurd (cc)
ended_whole setup w writer came closed (Bytes i count ∷ ds) id may ends = ended_whole setup w writer (with_count came i count) closed ds id may.3 ends
ended_whole setup w writer came closed (End i ∷ ds) id may ends = by_test (i == id) refl ends (λ k. ended_whole setup w writer came (with_closed closed i) ds id may.4 k)
  where
    by_test : (b : Bool) → (i == id) ≡ b → (b || has_end id ds) ≡ true → (has_end id ds ≡ true → EndsWhole setup w writer id (came_behind came ds id)) → EndsWhole setup w writer id (came_behind came ds id)
    by_test true e k rest =
        let same = same_number i id e in
        record {
          finished = ap (λ n. is_finished (flow w writer n)) (sym same) ∙ may.2;
          whole = omega (arith, ap (λ n. length (text_of setup w writer n)) same, ap came same, may.3, came_before came ds id);
        }
    by_test false e k rest = rest k
ended_whole setup w writer came closed (Reset i ∷ ds) id may ends = ended_whole setup w writer came (with_closed closed i) ds id may.3 ends

abbrev pub cut : Flow → Flow
cut f = record f { is_reset = true }

pub cut_text : (setup : Setup) (w : World) (writer : Side) (id i : ℕ) → IsThere w id → text_of setup (cut_off w writer id) writer i ≡ text_of setup w writer i
cut_text setup w writer id i there =
    ap (λ (p : Party). text_by setup writer i p.own (flow (cut_off w writer id) writer i)) (party-with_flow w writer writer id (cut (flow w writer id)))
    ∙ each_flow (λ f g. text_by setup writer i (party w writer).own g ≡ text_by setup writer i (party w writer).own f) (λ f. refl) w writer id (cut (flow w writer id)) there refl i

either : (a b c : Bool) → c ≡ b → (a || b) ≡ true → (a || c) ≡ true
either true b c same h = refl
either false b c same h = same ∙ h

pub may_cut : (setup : Setup) (w : World) (writer : Side) (id : ℕ) (came : ℕ → ℕ) (closed : ℕ → Bool) (ds : List Delivery) → IsThere w id → has_end id ds ≡ false → MayAllBeRead setup w writer came closed ds
    → MayAllBeRead setup (cut_off w writer id) writer came closed ds
may_cut setup w writer id came closed [] there goes may = tt
may_cut setup w writer id came closed (Bytes i count ∷ ds) there goes may = (
  either (is_own writer i) (is_open w writer i) (is_open (cut_off w writer id) writer i) (is_open-own w writer id i (cut (flow w writer id)) there) may.0,
  may.1,
  omega (arith, ap length (cut_text setup w writer id i there), may.2),
  may_cut setup w writer id (with_count came i count) closed ds there goes may.3,
)
may_cut setup w writer id came closed (End i ∷ ds) there goes may = by_test (i == id) refl goes (λ k. may_cut setup w writer id came (with_closed closed i) ds there k may.4)
  where
    by_test : (b : Bool) → (i == id) ≡ b → (b || has_end id ds) ≡ false → (has_end id ds ≡ false → MayAllBeRead setup (cut_off w writer id) writer came (with_closed closed i) ds)
        → MayAllBeRead setup (cut_off w writer id) writer came closed (End i ∷ ds)
    by_test true e k rest = absurd (cc)
    by_test false e k rest =
        let off : (id == i) ≡ false = grind (arith, common_steps, e) in (
          is_open-own w writer id i (cut (flow w writer id)) there ∙ may.0,
          may.1,
          ap is_finished (flow-with_flow w writer id i (cut (flow w writer id)) there) ∙ ap (λ b. is_finished (if b then cut (flow w writer id) else flow w writer i)) off ∙ may.2,
          may.3 ∙ sym (ap length (cut_text setup w writer id i there)),
          rest k,
        )
may_cut setup w writer id came closed (Reset i ∷ ds) there goes may = (
  is_open-own w writer id i (cut (flow w writer id)) there ∙ may.0,
  may.1,
  each_flow (λ f g. f.is_reset ≡ true → g.is_reset ≡ true) (λ f e. e) w writer id (cut (flow w writer id)) there (λ e. refl) i may.2,
  may_cut setup w writer id came (with_closed closed i) ds there goes may.3,
)

pub cut_came : (w : World) (writer : Side) (id i : ℕ) → IsThere w id → came_of (cut_off w writer id) writer i ≡ came_of w writer i
cut_came w writer id i there =
    ap (λ (p : Party). if is_own writer i then (if i == control_id writer then p.own.control_taken else (if i == encoder_id writer then p.own.encoder_taken else (if i == decoder_id writer then p.own.decoder_taken else 0))) else (flow (cut_off w writer id) writer i).delivered)
    (party-with_flow w writer writer id (cut (flow w writer id)))
    ∙ each_flow (λ f g. (if is_own writer i then own_delivered w writer i else g.delivered) ≡ (if is_own writer i then own_delivered w writer i else f.delivered)) (λ f. refl) w writer id (cut (flow w writer id)) there refl i

cut_closed : (w : World) (writer : Side) (id i : ℕ) → IsThere w id → is_closed (cut_off w writer id) writer i ≡ is_closed w writer i
cut_closed w writer id i there = each_flow (λ f g. (not (is_own writer i) && (g.ended || g.reset_came)) ≡ (not (is_own writer i) && (f.ended || f.reset_came))) (λ f. refl) w writer id (cut (flow w writer id)) there refl i

-- by other counts
pub may_as : (setup : Setup) (w : World) (writer : Side) (came come : ℕ → ℕ) (shut close : ℕ → Bool) (ds : List Delivery) → ((i : ℕ) → come i ≡ came i) → ((i : ℕ) → close i ≡ shut i) → MayAllBeRead setup w writer came shut ds
    → MayAllBeRead setup w writer come close ds
may_as setup w writer came come shut close ds same alike may =
    may_grow setup w w writer came come shut close ds (same_writes setup w w writer (same_itself w writer)) same alike may

pub cut_readable : (setup : Setup) (w : World) (writer : Side) (id : ℕ) (ds : List Delivery) → IsThere w id → has_end id ds ≡ false → CanBeRead setup w writer ds → CanBeRead setup (cut_off w writer id) writer ds
cut_readable setup w writer id ds there goes may =
    may_as setup (cut_off w writer id) writer (came_of w writer) (came_of (cut_off w writer id) writer) (is_closed w writer) (is_closed (cut_off w writer id) writer) ds
    (λ i. cut_came w writer id i there) (λ i. cut_closed w writer id i there) (may_cut setup w writer id (came_of w writer) (is_closed w writer) ds there goes may)
