-- Deliveries of bytes, of the end and of the reset of a stream, with anything kept at either side, where no memory is refused: each is answered as the
-- world says, and both endpoints stand in the world that it leads to.
use Rattle.std.proofs.Common.{◌≡◌, ℕ, Bool, true, false, not, ◌&&◌, take, refl, sym, ap, ◌∙◌, subst, nat_lt, if◌then◌else◌, Option, Some, None}
use Rattle.std.specs.Prelude.{◌==◌}
use Rattle.h3_proto.specs.declared.stream.Side.{Side}
use Rattle.h3_proto.specs.declared.stream.Side.TheVariants.{Client, Server}
use Rattle.h3_connection.specs.declared.arrival.Arrival.TheVariants.{BytesCame, EndCame, ResetCame}
use Rattle.h3_connection.specs.declared.event.Refusal.{Refusal}
use Rattle.h3_connection.specs.Endpoint.{EndpointHistory, bytes_waiting}
use Rattle.h3_connection.specs.Keeping.{arrives}
use Rattle.h3_connection.specs.OwnIds.{other}
use Rattle.h3_connection.specs.Sending.{advance}
use Rattle.h3_connection.specs.Shown as shown
use Rattle.h3_world.specs.declared.event.Answer.{Answer}
use Rattle.h3_world.specs.declared.event.Answer.TheVariants as answer
use Rattle.h3_world.specs.declared.event.Event.TheVariants as event
use Rattle.h3_world.specs.Delivering.{reset_code}
use Rattle.h3_world.specs.Ends.{Ends, answered, done, was_offered}
use Rattle.h3_world.specs.Headline.{is_out_of_memory}
use Rattle.h3_world.specs.Setup.{IsMadeSetup, Setup}
use Rattle.h3_world.specs.World.{World}
use Rattle.h3_headline.specs.Cited.{Laws}
use Rattle.h3_memory.specs.Kept.{Bytes, End, Reset, KeepingWorld}
use Rattle.h3_memory.specs.Keeping.{StandsKeeping}
use Rattle.h3_memory.specs.MemoryStep.{StepOf, UnlessMemory, offered, read_behind}
use Rattle.h3_memory.specs.Theorem.{StandsOn}
use Rattle.h3_memory.proofs.CatchesUp.{reading_of}
use Rattle.h3_memory.proofs.Giving.{Agrees, agrees_by, bytes_given, offered_to, read_so}
use Rattle.h3_memory.proofs.GivingEnds.{end_given, reset_given}
use Rattle.h3_memory.proofs.KeptLaws.{KeptLaws}

-- the world, by the side that reads
behind_client : (k : KeepingWorld) (y : Answer × World) → read_behind k Client y ≡ read_so Client k.world k.at_server k.at_client y
behind_client k (answer.Opened id, v) = refl
behind_client k (answer.Done, v) = refl
behind_client k (answer.Refused r, v) = refl
behind_client k (answer.Delivered count, v) = refl
behind_client k (answer.Short count, v) = refl
behind_client k (answer.NoStream, v) = refl
behind_client k (answer.Early, v) = refl
behind_client k (answer.Pulled p, v) = refl
behind_client k (answer.Listed l, v) = refl
behind_client k (answer.Shown limits sizes waits, v) = refl

behind_server : (k : KeepingWorld) (y : Answer × World) → read_behind k Server y ≡ read_so Server k.world k.at_client k.at_server y
behind_server k (answer.Opened id, v) = refl
behind_server k (answer.Done, v) = refl
behind_server k (answer.Refused r, v) = refl
behind_server k (answer.Delivered count, v) = refl
behind_server k (answer.Short count, v) = refl
behind_server k (answer.NoStream, v) = refl
behind_server k (answer.Early, v) = refl
behind_server k (answer.Pulled p, v) = refl
behind_server k (answer.Listed l, v) = refl
behind_server k (answer.Shown limits sizes waits, v) = refl

-- the ends
offered_server : (ends : Ends) (id count : ℕ) (x : Option Refusal × EndpointHistory) → was_offered ends Client id count x ≡ offered_to Server (answer.Delivered count) (advance ends.client id count) ends.client x
offered_server ends id count (None, e) = refl
offered_server ends id count (Some r, e) = refl

offered_client : (ends : Ends) (id count : ℕ) (x : Option Refusal × EndpointHistory) → was_offered ends Server id count x ≡ offered_to Client (answer.Delivered count) (advance ends.server id count) ends.server x
offered_client ends id count (None, e) = refl
offered_client ends id count (Some r, e) = refl

done_server : (ends : Ends) (x : Option Refusal × EndpointHistory) → done ends Server answer.Done x ≡ offered_to Server answer.Done ends.client ends.client x
done_server ends (None, e) = refl
done_server ends (Some r, e) = refl

done_client : (ends : Ends) (x : Option Refusal × EndpointHistory) → done ends Client answer.Done x ≡ offered_to Client answer.Done ends.server ends.server x
done_client ends (None, e) = refl
done_client ends (Some r, e) = refl

abbrev no_stream : Ends → Answer × Ends
no_stream ends = (answer.NoStream, ends)

abbrev early_end : Ends → Answer × Ends
early_end ends = (answer.Early, ends)

abbrev short_of : Ends → ℕ → Answer × Ends
short_of ends n = (answer.Short n, ends)

module _ (qpack : KeptLaws) (laws : Laws) (setup : Setup) (made : IsMadeSetup setup) (k : KeepingWorld) (ends : Ends) (h : StandsKeeping setup k ends) where
  -- **What both answer.**
  pub bytes_agree : (writer : Side) (id count : ℕ) → Agrees setup (answered ends (event.Deliver writer id count)) (read_behind k (other writer) (offered setup k writer (Bytes id count)))
  bytes_agree Client id count =
      agrees_by setup _ _ _ _
      (ap (λ x. if not (shown.has_outgoing ends.client id) then no_stream ends else (if nat_lt (shown.waiting ends.client id) count then short_of ends (shown.waiting ends.client id) else x))
      (offered_server ends id count (arrives ends.server (BytesCame id (take count (bytes_waiting ends.client id))))))
      (behind_server k (offered setup k Client (Bytes id count)))
      (bytes_given qpack laws setup k.world Server k.at_client k.at_server ends.server ends.client made (reading_of setup k ends Server h) id count)
  bytes_agree Server id count =
      agrees_by setup _ _ _ _
      (ap (λ x. if not (shown.has_outgoing ends.server id) then no_stream ends else (if nat_lt (shown.waiting ends.server id) count then short_of ends (shown.waiting ends.server id) else x))
      (offered_client ends id count (arrives ends.client (BytesCame id (take count (bytes_waiting ends.server id))))))
      (behind_client k (offered setup k Server (Bytes id count)))
      (bytes_given qpack laws setup k.world Client k.at_server k.at_client ends.client ends.server made (reading_of setup k ends Client h) id count)

  pub end_agrees : (writer : Side) (id : ℕ) → Agrees setup (answered ends (event.DeliverEnd writer id)) (read_behind k (other writer) (offered setup k writer (End id)))
  end_agrees Client id =
      agrees_by setup _ _ _ _
      (ap (λ x. if not (shown.has_outgoing ends.client id) then no_stream ends else (if not (shown.is_finished ends.client id && (shown.waiting ends.client id == 0)) then early_end ends else x))
      (done_server ends (arrives ends.server (EndCame id))))
      (behind_server k (offered setup k Client (End id)))
      (end_given qpack laws setup k.world Server k.at_client k.at_server ends.server ends.client made (reading_of setup k ends Server h) id)
  end_agrees Server id =
      agrees_by setup _ _ _ _
      (ap (λ x. if not (shown.has_outgoing ends.server id) then no_stream ends else (if not (shown.is_finished ends.server id && (shown.waiting ends.server id == 0)) then early_end ends else x))
      (done_client ends (arrives ends.client (EndCame id))))
      (behind_client k (offered setup k Server (End id)))
      (end_given qpack laws setup k.world Client k.at_server k.at_client ends.client ends.server made (reading_of setup k ends Client h) id)

  pub reset_agrees : (writer : Side) (id : ℕ) → Agrees setup (answered ends (event.DeliverReset writer id)) (read_behind k (other writer) (offered setup k writer (Reset id)))
  reset_agrees Client id =
      agrees_by setup _ _ _ _
      (ap (λ x. if not (shown.has_outgoing ends.client id) then no_stream ends else (if not (shown.is_reset ends.client id) then early_end ends else x)) (done_server ends (arrives ends.server (ResetCame id reset_code))))
      (behind_server k (offered setup k Client (Reset id)))
      (reset_given qpack laws setup k.world Server k.at_client k.at_server ends.server ends.client made (reading_of setup k ends Server h) id)
  reset_agrees Server id =
      agrees_by setup _ _ _ _
      (ap (λ x. if not (shown.has_outgoing ends.server id) then no_stream ends else (if not (shown.is_reset ends.server id) then early_end ends else x)) (done_client ends (arrives ends.client (ResetCame id reset_code))))
      (behind_client k (offered setup k Server (Reset id)))
      (reset_given qpack laws setup k.world Client k.at_server k.at_client ends.client ends.server made (reading_of setup k ends Client h) id)

-- The step of an event that no memory was refused in.
nothing_exact : (b : Bool) → UnlessMemory b (Unit {0})
nothing_exact true = tt
nothing_exact false = tt

pub plain_bytes : (setup : Setup) (k : KeepingWorld) (ends new : Ends) (writer : Side) (id count : ℕ) (a : Answer) → Agrees setup (answered ends (event.Deliver writer id count)) (read_behind k (other writer) (offered setup k writer (Bytes id count)))
    → is_out_of_memory a ≡ false → (a ≡ (answered ends (event.Deliver writer id count)).0) × (new ≡ (answered ends (event.Deliver writer id count)).1) → StandsOn setup k (event.Deliver writer id count) a new
plain_bytes setup k ends new writer id count a h plain is =
    let y = read_behind k (other writer) (offered setup k writer (Bytes id count)) in
    record {
      new = y.1;
      step = subst (λ b. StepOf b setup k (event.Deliver writer id count) a y.1) (sym plain) (ap (λ x. behind_as x y.1) (is.0 ∙ h.answer));
      exact = nothing_exact (is_out_of_memory a);
      stands = subst (StandsKeeping setup y.1) (sym is.1) h.stands;
    }
  where
    behind_as : Answer → KeepingWorld → Answer × KeepingWorld
    behind_as x v = (x, v)

pub plain_end : (setup : Setup) (k : KeepingWorld) (ends new : Ends) (writer : Side) (id : ℕ) (a : Answer) → Agrees setup (answered ends (event.DeliverEnd writer id)) (read_behind k (other writer) (offered setup k writer (End id)))
    → is_out_of_memory a ≡ false → (a ≡ (answered ends (event.DeliverEnd writer id)).0) × (new ≡ (answered ends (event.DeliverEnd writer id)).1) → StandsOn setup k (event.DeliverEnd writer id) a new
plain_end setup k ends new writer id a h plain is =
    let y = read_behind k (other writer) (offered setup k writer (End id)) in
    record {
      new = y.1;
      step = subst (λ b. StepOf b setup k (event.DeliverEnd writer id) a y.1) (sym plain) (ap (λ x. behind_as x y.1) (is.0 ∙ h.answer));
      exact = nothing_exact (is_out_of_memory a);
      stands = subst (StandsKeeping setup y.1) (sym is.1) h.stands;
    }
  where
    behind_as : Answer → KeepingWorld → Answer × KeepingWorld
    behind_as x v = (x, v)

pub plain_reset : (setup : Setup) (k : KeepingWorld) (ends new : Ends) (writer : Side) (id : ℕ) (a : Answer) → Agrees setup (answered ends (event.DeliverReset writer id)) (read_behind k (other writer) (offered setup k writer (Reset id)))
    → is_out_of_memory a ≡ false → (a ≡ (answered ends (event.DeliverReset writer id)).0) × (new ≡ (answered ends (event.DeliverReset writer id)).1) → StandsOn setup k (event.DeliverReset writer id) a new
plain_reset setup k ends new writer id a h plain is =
    let y = read_behind k (other writer) (offered setup k writer (Reset id)) in
    record {
      new = y.1;
      step = subst (λ b. StepOf b setup k (event.DeliverReset writer id) a y.1) (sym plain) (ap (λ x. behind_as x y.1) (is.0 ∙ h.answer));
      exact = nothing_exact (is_out_of_memory a);
      stands = subst (StandsKeeping setup y.1) (sym is.1) h.stands;
    }
  where
    behind_as : Answer → KeepingWorld → Answer × KeepingWorld
    behind_as x v = (x, v)
