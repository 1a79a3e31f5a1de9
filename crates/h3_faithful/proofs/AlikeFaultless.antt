-- An event finds no fault of the connection between sides that judge alike, whatever both keep.
use Rattle.std.proofs.Common.{◌≡◌, ℕ, ◌≤◌, Bool, true, false, if◌then◌else◌, List, [], drop, take, length, refl, sym, ap, ◌∙◌, subst, arith, Option, Some, None}
use Rattle.std.specs.Prelude.{◌||◌, ◌&&◌, not, nat_lt, ◌==◌}
use Rattle.std.proofs.lemmas.Grind.{common_steps}
use Rattle.h3_field.specs.Field.{Field}
use Rattle.h3_proto.specs.declared.stream.Side.{Side}
use Rattle.h3_proto.specs.declared.stream.Side.TheVariants.{Client, Server}
use Rattle.h3_connection.specs.Arrivals.{stream_of}
use Rattle.h3_connection.specs.Bounds.{IsBounded}
use Rattle.h3_connection.specs.Coming.{fields_behind}
use Rattle.h3_connection.specs.Control.{Found}
use Rattle.h3_connection.specs.Delivering.{with_incoming}
use Rattle.h3_connection.specs.Endpoint.{EndpointHistory, bytes_waiting}
use Rattle.h3_connection.specs.Incoming.{Incoming}
use Rattle.h3_connection.specs.Keeping.{arrival_refusal, arrives, pulls, read_arrival, settles, unkept}
use Rattle.h3_connection.specs.OwnIds.{other}
use Rattle.h3_connection.specs.PartReading.{ReadsPart, Resumes}
use Rattle.h3_connection.specs.Sending.{advance}
use Rattle.h3_connection.specs.Shown as shown
use Rattle.h3_connection.specs.StreamSets.{stream_at}
use Rattle.h3_connection.specs.StrictConnection.{is_strict}
use Rattle.h3_connection.specs.declared.arrival.Arrival.{Arrival}
use Rattle.h3_connection.specs.declared.arrival.Arrival.TheVariants.{BytesCame, EndCame, ResetCame}
use Rattle.h3_connection.specs.declared.event.Fault.TheVariants as fault
use Rattle.h3_connection.specs.declared.event.Pull.{Pull}
use Rattle.h3_connection.specs.declared.event.Pull.TheVariants as pull
use Rattle.h3_connection.specs.declared.event.Refusal.{Refusal}
use Rattle.h3_connection.specs.Lists.{listed_pull, pull_of}
use Rattle.h3_world.specs.Delivering.{reset_code}
use Rattle.h3_world.specs.Ends.{Ends, answered, done, end_at, new_ends, was_offered, with_end}
use Rattle.h3_world.specs.Headline.{is_connection_fault, is_out_of_memory}
use Rattle.h3_world.specs.Sendable.{IsSendableBy}
use Rattle.h3_world.specs.Setup.{IsMadeSetup, Setup, announced_at}
use Rattle.h3_world.specs.Streams.{has_outgoing}
use Rattle.h3_world.specs.World.{World}
use Rattle.h3_world.specs.declared.event.Answer.{Answer}
use Rattle.h3_world.specs.declared.event.Answer.TheVariants as answer
use Rattle.h3_world.specs.declared.event.Event.{Event}
use Rattle.h3_world.specs.declared.event.Event.TheVariants as event
use Rattle.h3_headline.specs.Contents.{KeepsParts}
use Rattle.h3_memory.specs.Kept.{KeepingWorld, caught_up}
use Rattle.h3_memory.specs.Keeping.{StandsKeeping, came_of, text_of}
use Rattle.h3_memory.specs.MemoryStep.{StepWithMemory}
use Rattle.h3_memory.specs.QuietEvents.{is_quiet}
use Rattle.h3_memory.specs.Refused.{AnswerOf, EndsStep}
use Rattle.h3_memory.specs.SoundKeeping.{IsSoundKeeping}
use Rattle.h3_strict.specs.HoldsBehind.{HoldsBehind}
use Rattle.h3_strict.specs.PlainEnds.{Alike, AreBounded, FewWaitAt, Judges, RefusesMalformed as RefusedSo, StepsPlainly, asks_strictly, finds_fault, judges, plain_ends, plain_setup}
use Rattle.h3_strict.specs.Plainly.{is_judged, plainly, tells_malformed}
use Rattle.h3_strict.specs.ReadsBehind.{ReadsBehind}
use Rattle.h3_strict.specs.StandsBehind.{StandsBehind}
use Rattle.h3_faithful.proofs.AnyPull.{end_set, listed_is, plain_step, pulled_is, sound_of}
use Rattle.h3_faithful.proofs.ArrivesNext.{arrives_calm, calm_arrives, connects}
use Rattle.h3_faithful.proofs.BehindBoth.{offered_behind, stands_behind}
use Rattle.h3_faithful.proofs.CaughtUpEnds.{CaughtUp, KeptLaws, catches_up}
use Rattle.h3_faithful.proofs.PlainMemory.{at_end}
use Rattle.h3_faithful.proofs.PullsNext.{judged_next, pulls_next, pulls_settled}
use Rattle.h3_faithful.proofs.PlainMemory.{QuietSides}
use Rattle.h3_faithful.proofs.Runs.{RunLaws, malformed_faultless, memory_faultless}

-- `ends_stay_bounded` of `h3_strict`, and `tries_and_waiting_streams_are_bounded` of `h3_connection`
pub record BoundLaws : Type 0 where
  pub made : (setup : Setup) → AreBounded (new_ends setup)
  pub kept : (ends : Ends) (e : Event) → AreBounded ends → AreBounded (answered ends e).1
  pub few : (ends : Ends) → AreBounded ends → FewWaitAt ends
  pub part : (e after : EndpointHistory) (arrivals : List Arrival) → IsBounded e → ReadsPart e arrivals after → IsBounded after
  pub advances : (e : EndpointHistory) (id count : ℕ) → IsBounded e → IsBounded (advance e id count)
  pub asked : (e : EndpointHistory) (id : ℕ) (old new : Incoming) → stream_at e.incoming id ≡ Some old → Resumes e.side e.announced id old new → IsBounded e → IsBounded (with_incoming e id new)

-- `quiet_events_move_no_part` of `h3_memory`
pub record PartLaws : Type 0 where
  pub lacks : (setup : Setup) (k new : KeepingWorld) (e : Event) (a : Answer) → IsSoundKeeping setup k → is_out_of_memory a ≡ true → StepWithMemory setup k e a new → KeepsParts k.world new.world
  pub quiet : (setup : Setup) (k new : KeepingWorld) (e : Event) (a : Answer) → IsSoundKeeping setup k → is_quiet e ≡ true → StepWithMemory setup k e a new → KeepsParts k.world new.world

pub record AlikeLaws : Type 0 where
  pub runs : RunLaws
  pub kept : KeptLaws
  pub bounds : BoundLaws
  pub parts : PartLaws

-- Both ends between two events: they stand in their world with what they keep, and what stays so holds of them.
pub record Standing (setup : Setup) (P : World → Ends → Type 0) (k : KeepingWorld) (ends : Ends) : Type 0 where
  pub stands : StandsKeeping (plain_setup setup) k (plain_ends ends)
  pub stays : P k.world ends
  pub bounded : AreBounded ends
  pub quiet : QuietSides setup ends

pub bounded_at : (ends : Ends) (side : Side) → AreBounded ends → IsBounded (end_at ends side)
bounded_at ends Client h = h.client
bounded_at ends Server h = h.server

asks_same : (setup : Setup) (x y : Ends) → ((s : Side) → (end_at x s).announced ≡ announced_at setup s) → ((s : Side) → (end_at y s).announced ≡ announced_at setup s) → asks_strictly x ≡ asks_strictly y
asks_same setup x y h g =
    ap (λ a. is_strict a || is_strict x.server.announced) (h Client ∙ sym (g Client)) ∙ ap (λ a. is_strict y.client.announced || is_strict a) (h Server ∙ sym (g Server))

-- an answer with lists finds what the answer finds
lists_find : (strict : Bool) (fields : Option (List Field)) (p : Pull) → tells_malformed strict (pull_of (listed_pull fields p)) ≡ tells_malformed strict p
lists_find strict fields (pull.Item i) = refl
lists_find strict fields pull.Pending = refl
lists_find strict fields (pull.Waiting count) = refl
lists_find strict fields (pull.Fault f) = refl
lists_find strict fields pull.NoMessages = refl

lists_tell : (fields : Option (List Field)) (p : Pull) → is_connection_fault (answer.Listed (listed_pull fields p)) ≡ is_connection_fault (answer.Pulled p)
lists_tell fields (pull.Item i) = refl
lists_tell fields pull.Pending = refl
lists_tell fields (pull.Waiting count) = refl
lists_tell fields (pull.Fault (fault.Stream f)) = refl
lists_tell fields (pull.Fault (fault.Connection code)) = refl
lists_tell fields (pull.Fault fault.Memory) = refl
lists_tell fields pull.NoMessages = refl

offered_tells : (x : Ends) (writer : Side) (id count : ℕ) (y : Option Refusal × EndpointHistory) → is_connection_fault (was_offered x writer id count y).0 ≡ connects y.0
offered_tells x writer id count (None, e) = refl
offered_tells x writer id count (Some r, e) = refl

done_tells : (x : Ends) (side : Side) (y : Option Refusal × EndpointHistory) → is_connection_fault (done x side answer.Done y).0 ≡ connects y.0
done_tells x side (None, e) = refl
done_tells x side (Some r, e) = refl

-- the writer is as it was once its reader has read
writer_is : (ends : Ends) (writer : Side) (x : EndpointHistory) → end_at (plain_ends (with_end ends (other writer) x)) (other (other writer)) ≡ plainly (end_at ends writer)
writer_is ends Client x = refl
writer_is ends Server x = refl

enough : (n count : ℕ) → nat_lt n count ≡ false → count ≤ n
enough n count e = grind (arith, common_steps, e)

abbrev bytes_of : Arrival → List ℕ
bytes_of (BytesCame id bytes) = bytes
bytes_of (EndCame id) = []
bytes_of (ResetCame id code) = []

-- the answer to a delivery, by what its writer has
abbrev bytes_given : Side → ℕ → ℕ → Bool → List ℕ → Bool → Ends → EndpointHistory → Answer × Ends
bytes_given writer id count has bytes short x reader = if not has then (answer.NoStream, x) else (if short then (answer.Short (length bytes), x) else was_offered x writer id count (arrives reader (BytesCame id (take count bytes))))

abbrev end_given : Side → ℕ → Bool → Bool → List ℕ → Ends → EndpointHistory → Answer × Ends
end_given writer id has over bytes x reader = if not has then (answer.NoStream, x) else (if not (over && (length bytes == 0)) then (answer.Early, x) else done x (other writer) answer.Done (arrives reader (EndCame id)))

abbrev reset_given : Side → ℕ → Bool → Bool → Ends → EndpointHistory → Answer × Ends
reset_given writer id has gone x reader = if not has then (answer.NoStream, x) else (if not gone then (answer.Early, x) else done x (other writer) answer.Done (arrives reader (ResetCame id reset_code)))

module _ (laws : AlikeLaws) (setup : Setup) (made : IsMadeSetup setup) (P : World → Ends → Type 0) (holds : HoldsBehind setup P) (k : KeepingWorld) (ends : Ends) (s : Standing setup P k ends) where
  abbrev ps : Setup
  ps = plain_setup setup

  abbrev pe : Ends
  pe = plain_ends ends

  pub before : StandsBehind setup k.world ends
  before = stands_behind setup k ends s.stands

  pub sound_so : IsSoundKeeping (plain_setup setup) k
  sound_so = sound_of ps k pe s.stands

  -- A side that has read all that it keeps.
  module _ (side : Side) where
    pub caught : CaughtUp setup P side k.world k ends (end_at ends side).kept
    caught = catches_up laws.kept setup made (laws.runs.steps.made setup made) P holds side (end_at ends side).kept k.world k ends refl s.stands s.stays

    pub behind_then : StandsBehind setup (caught_up (plain_setup setup) k side) (with_end ends side caught.next)
    behind_then = subst (λ w. StandsBehind setup w (with_end ends side caught.next)) caught.world (stands_behind setup caught.after (with_end ends side caught.next) caught.stands)

    pub stays_then : P (caught_up (plain_setup setup) k side) (with_end ends side caught.next)
    stays_then = holds.stays k.world (caught_up ps k side) (with_end ends side caught.next) (laws.runs.moves.caught ps k side sound_so).0 caught.keeps

    pub open_then : caught.next.closed ≡ None
    open_then = ap (λ (e : EndpointHistory). e.closed) (sym (end_set ends side caught.next)) ∙ behind_then.closed side

    pub keeps_none : (end_at (with_end ends side caught.next) side).kept ≡ []
    keeps_none = ap (λ (e : EndpointHistory). e.kept) (end_set ends side caught.next) ∙ caught.none

    -- A pull that judges a message.
    pull_calm : (id : ℕ) → is_judged (end_at ends side) id ≡ true → tells_malformed (asks_strictly ends) (pulls (end_at ends side) id).0 ≡ true → is_connection_fault (answer.Pulled (pulls (end_at ends side) id).0) ≡ false
    pull_calm id judged finds = by_settled (settles (end_at ends side) id) refl
      where
        by_settled : (b : Bool) → settles (end_at ends side) id ≡ b → is_connection_fault (answer.Pulled (pulls (end_at ends side) id).0) ≡ false
        by_settled true settled =
            ap (λ (x : Pull × EndpointHistory). is_connection_fault (answer.Pulled x.0)) (pulls_settled (end_at ends side) id (before.closed side) settled) ∙ holds.calm (end_at ends side) id (bounded_at ends side s.bounded) settled
        by_settled false unsettled =
            let e = end_at ends side in
            let x = with_end ends side caught.next in
            let same : pulls (end_at x side) id ≡ pulls e id =
            ap (λ z. pulls z id) (end_set ends side caught.next) ∙ sym (pulls_next e caught.next id (before.closed side) open_then caught.none caught.reads unsettled) in
            ap (λ (z : Pull × EndpointHistory). is_connection_fault (answer.Pulled z.0)) (sym same)
            ∙ holds.judged (caught_up ps k side) x side id stays_then behind_then keeps_none
            (ap (λ z. is_judged z id) (end_set ends side caught.next) ∙ sym (judged_next e caught.next id (before.closed side) open_then caught.none caught.reads unsettled) ∙ judged)
            (ap (λ (z : Pull × EndpointHistory). tells_malformed (asks_strictly x) z.0) same
            ∙ ap (λ b. tells_malformed b (pulls e id).0) (asks_same setup x ends (holds.announced (caught_up ps k side) x stays_then) (holds.announced k.world ends s.stays)) ∙ finds)

    -- What comes.
    comes_calm : (a : Arrival) → ((id : ℕ) (bytes : List ℕ) → a ≡ BytesCame id bytes
        → (has_outgoing caught.after.world (other side) id ≡ true) × ((count : ℕ) × (bytes ≡ take count (drop (came_of caught.after.world (other side) id) (text_of (plain_setup setup) caught.after.world (other side) id)))))
        → connects (arrives (plainly (end_at ends side)) a).0 ≡ false → connects (arrives (end_at ends side) a).0 ≡ false
    comes_calm a offered calm = arrives_calm e caught.next a (before.closed side) caught.reads read_so
      where
        e : EndpointHistory
        e = end_at ends side

        x : Ends
        x = with_end ends side caught.next

        follows : ReadsBehind setup caught.after.world side caught.next a
        follows =
            subst (λ z. ReadsBehind setup caught.after.world side z a) (ap unkept (end_set ends side caught.next) ∙ ap (λ l. record caught.next { kept = l }) (sym caught.none))
            (offered_behind setup caught.after x caught.stands (holds.announced k.world x caught.keeps) side a keeps_none offered)

        read_so : arrival_refusal (end_at ends side) (stream_of a) ≡ None → (read_arrival caught.next a).1 ≡ None
        read_so accepted =
            let plain_next = calm_arrives (plainly e) (plainly caught.next) a (before.closed side) caught.reads_plainly ((laws.runs.steps.does e).accepts (stream_of a) ∙ accepted) calm in
            (laws.kept.reads setup caught.after.world side caught.next (read_arrival (plainly caught.next) a).0 a made follows (ap (λ c. let y : Found = ((read_arrival (plainly caught.next) a).0, c) in y) plain_next)).0

  -- the same ends that judge plainly
  plain_calm : (e : Event) → IsSendableBy true e → is_connection_fault (answered (plain_ends ends) e).0 ≡ false
  plain_calm e sendable = by_memory (is_out_of_memory (answered pe e).0) refl
    where
      by_memory : (b : Bool) → is_out_of_memory (answered (plain_ends ends) e).0 ≡ b → is_connection_fault (answered (plain_ends ends) e).0 ≡ false
      by_memory true told = memory_faultless (answered pe e).0 told
      by_memory false told =
          let step : EndsStep pe e (answered pe e).0 (answered pe e).1 = subst (λ b. AnswerOf b pe e (answered pe e).0 (answered pe e).1) (sym told) (refl, refl) in
          (plain_step laws.runs.steps laws.runs.moves setup made k ends s.stands e (answered pe e).0 (answered pe e).1 sendable step).happens.no_connection_fault

  bytes_calm : (writer : Side) (id count : ℕ) → is_connection_fault (answered ends (event.Deliver writer id count)).0 ≡ false
  bytes_calm writer id count = by_tests (shown.has_outgoing w id) refl (nat_lt (length (bytes_waiting w id)) count) refl plain_so
    where
      w : EndpointHistory
      w = end_at ends writer

      r : EndpointHistory
      r = end_at ends (other writer)

      plain_so : is_connection_fault (bytes_given writer id count (shown.has_outgoing w id) (bytes_waiting w id) (nat_lt (length (bytes_waiting w id)) count) pe (plainly r)).0 ≡ false
      plain_so =
          ap (λ h. is_connection_fault (bytes_given writer id count h (bytes_waiting w id) (nat_lt (length (bytes_waiting w id)) count) pe (plainly r)).0) (sym (ap (λ z. shown.has_outgoing z id) (at_end ends writer) ∙ (laws.runs.steps.does w).has_one id))
          ∙ ap (λ l. is_connection_fault (bytes_given writer id count (shown.has_outgoing (end_at pe writer) id) l (nat_lt (length l) count) pe (plainly r)).0) (sym (ap (λ z. bytes_waiting z id) (at_end ends writer) ∙ (laws.runs.steps.does w).waits id))
          ∙ ap (λ z. is_connection_fault (bytes_given writer id count (shown.has_outgoing (end_at pe writer) id) (bytes_waiting (end_at pe writer) id) (nat_lt (length (bytes_waiting (end_at pe writer) id)) count) pe z).0) (sym (at_end ends (other writer)))
          ∙ plain_calm (event.Deliver writer id count) tt

      by_tests : (h : Bool) → shown.has_outgoing w id ≡ h → (t : Bool) → nat_lt (length (bytes_waiting w id)) count ≡ t → is_connection_fault (bytes_given writer id count h (bytes_waiting w id) t pe (plainly r)).0 ≡ false → is_connection_fault (bytes_given writer id count h (bytes_waiting w id) t ends r).0 ≡ false
      by_tests false has t short plain = refl
      by_tests true has true short plain = refl
      by_tests true has false short plain =
          offered_tells ends writer id count (arrives r (BytesCame id (take count (bytes_waiting w id))))
          ∙ comes_calm (other writer) (BytesCame id (take count (bytes_waiting w id))) offered (sym (offered_tells pe writer id count (arrives (plainly r) (BytesCame id (take count (bytes_waiting w id))))) ∙ plain)
        where
          c : CaughtUp setup P (other writer) k.world k ends (end_at ends (other writer)).kept
          c = caught (other writer)

          there : end_at (plain_ends (with_end ends (other writer) c.next)) (other (other writer)) ≡ plainly (end_at ends writer)
          there = writer_is ends writer c.next

          waits_there : bytes_waiting (end_at (plain_ends (with_end ends (other writer) c.next)) (other (other writer))) id ≡ bytes_waiting (end_at ends writer) id
          waits_there = ap (λ z. bytes_waiting z id) there ∙ (laws.runs.steps.does w).waits id

          waits_so : (has_outgoing c.after.world (other (other writer)) id ≡ true) × (take count (bytes_waiting (end_at (plain_ends (with_end ends (other writer) c.next)) (other (other writer))) id)
              ≡ take count (drop (came_of c.after.world (other (other writer)) id) (text_of (plain_setup setup) c.after.world (other (other writer)) id)))
          waits_so =
              laws.kept.waits ps c.after (plain_ends (with_end ends (other writer) c.next)) (other writer) id count c.stands (ap (λ (z : EndpointHistory). z.kept) (at_end (with_end ends (other writer) c.next) (other writer)) ∙ keeps_none (other writer))
              (ap (λ z. shown.has_outgoing z id) there ∙ (laws.runs.steps.does w).has_one id ∙ has)
              (subst (λ (l : List ℕ). count ≤ length l) (sym waits_there) (enough (length (bytes_waiting w id)) count short))

          offered : (i : ℕ) (bytes : List ℕ) → BytesCame id (take count (bytes_waiting (end_at ends writer) id)) ≡ BytesCame i bytes
              → (has_outgoing c.after.world (other (other writer)) i ≡ true) × ((n : ℕ) × (bytes ≡ take n (drop (came_of c.after.world (other (other writer)) i) (text_of (plain_setup setup) c.after.world (other (other writer)) i))))
          offered i bytes is =
              subst (λ j. (has_outgoing c.after.world (other (other writer)) j ≡ true) × ((n : ℕ) × (bytes ≡ take n (drop (came_of c.after.world (other (other writer)) j) (text_of (plain_setup setup) c.after.world (other (other writer)) j))))) (ap stream_of is)
              (waits_so.0, (count, sym (ap bytes_of is) ∙ ap (take count) (sym waits_there) ∙ waits_so.1))

  end_calm : (writer : Side) (id : ℕ) → is_connection_fault (answered ends (event.DeliverEnd writer id)).0 ≡ false
  end_calm writer id = by_tests (shown.has_outgoing w id) (shown.is_finished w id) (bytes_waiting w id) plain_so
    where
      w : EndpointHistory
      w = end_at ends writer

      r : EndpointHistory
      r = end_at ends (other writer)

      plain_so : is_connection_fault (end_given writer id (shown.has_outgoing w id) (shown.is_finished w id) (bytes_waiting w id) pe (plainly r)).0 ≡ false
      plain_so =
          ap (λ h. is_connection_fault (end_given writer id h (shown.is_finished w id) (bytes_waiting w id) pe (plainly r)).0) (sym (ap (λ z. shown.has_outgoing z id) (at_end ends writer) ∙ (laws.runs.steps.does w).has_one id))
          ∙ ap (λ h. is_connection_fault (end_given writer id (shown.has_outgoing (end_at pe writer) id) h (bytes_waiting w id) pe (plainly r)).0) (sym (ap (λ z. shown.is_finished z id) (at_end ends writer) ∙ (laws.runs.steps.does w).finished id))
          ∙ ap (λ l. is_connection_fault (end_given writer id (shown.has_outgoing (end_at pe writer) id) (shown.is_finished (end_at pe writer) id) l pe (plainly r)).0) (sym (ap (λ z. bytes_waiting z id) (at_end ends writer) ∙ (laws.runs.steps.does w).waits id))
          ∙ ap (λ z. is_connection_fault (end_given writer id (shown.has_outgoing (end_at pe writer) id) (shown.is_finished (end_at pe writer) id) (bytes_waiting (end_at pe writer) id) pe z).0) (sym (at_end ends (other writer)))
          ∙ plain_calm (event.DeliverEnd writer id) tt

      by_last : (h t : Bool) → is_connection_fault (if not h then (answer.NoStream, pe) else (if not t then (answer.Early, pe) else done pe (other writer) answer.Done (arrives (plainly r) (EndCame id)))).0 ≡ false
          → is_connection_fault (if not h then (answer.NoStream, ends) else (if not t then (answer.Early, ends) else done ends (other writer) answer.Done (arrives r (EndCame id)))).0 ≡ false
      by_last false t plain = refl
      by_last true false plain = refl
      by_last true true plain =
          done_tells ends (other writer) (arrives r (EndCame id)) ∙ comes_calm (other writer) (EndCame id) (λ i bytes is. absurd (cc)) (sym (done_tells pe (other writer) (arrives (plainly r) (EndCame id))) ∙ plain)

      by_tests : (h o : Bool) (l : List ℕ) → is_connection_fault (end_given writer id h o l pe (plainly r)).0 ≡ false → is_connection_fault (end_given writer id h o l ends r).0 ≡ false
      by_tests h o l plain = by_last h (o && (length l == 0)) plain

  reset_calm : (writer : Side) (id : ℕ) → is_connection_fault (answered ends (event.DeliverReset writer id)).0 ≡ false
  reset_calm writer id = by_tests (shown.has_outgoing w id) (shown.is_reset w id) plain_so
    where
      w : EndpointHistory
      w = end_at ends writer

      r : EndpointHistory
      r = end_at ends (other writer)

      plain_so : is_connection_fault (reset_given writer id (shown.has_outgoing w id) (shown.is_reset w id) pe (plainly r)).0 ≡ false
      plain_so =
          ap (λ h. is_connection_fault (reset_given writer id h (shown.is_reset w id) pe (plainly r)).0) (sym (ap (λ z. shown.has_outgoing z id) (at_end ends writer) ∙ (laws.runs.steps.does w).has_one id))
          ∙ ap (λ h. is_connection_fault (reset_given writer id (shown.has_outgoing (end_at pe writer) id) h pe (plainly r)).0) (sym (ap (λ z. shown.is_reset z id) (at_end ends writer) ∙ (laws.runs.steps.does w).was_reset id))
          ∙ ap (λ z. is_connection_fault (reset_given writer id (shown.has_outgoing (end_at pe writer) id) (shown.is_reset (end_at pe writer) id) pe z).0) (sym (at_end ends (other writer)))
          ∙ plain_calm (event.DeliverReset writer id) tt

      by_tests : (h t : Bool) → is_connection_fault (reset_given writer id h t pe (plainly r)).0 ≡ false → is_connection_fault (reset_given writer id h t ends r).0 ≡ false
      by_tests false t plain = refl
      by_tests true false plain = refl
      by_tests true true plain =
          done_tells ends (other writer) (arrives r (ResetCame id reset_code))
          ∙ comes_calm (other writer) (ResetCame id reset_code) (λ i bytes is. absurd (cc)) (sym (done_tells pe (other writer) (arrives (plainly r) (ResetCame id reset_code))) ∙ plain)

  judged_calm : (e : Event) → judges ends e ≡ true → finds_fault (asks_strictly ends) (answered ends e).0 ≡ true → is_connection_fault (answered ends e).0 ≡ false
  judged_calm (event.Pull side id) judged finds =
      let is = pulled_is ends side (pulls (end_at ends side) id) in
      ap (λ (z : Answer × Ends). is_connection_fault z.0) is ∙ pull_calm side id judged (ap (λ (z : Answer × Ends). finds_fault (asks_strictly ends) z.0) (sym is) ∙ finds)
  judged_calm (event.PullFields side id) judged finds =
      let e = end_at ends side in
      let fields = fields_behind e.kept e id in
      let is = listed_is ends side id (pulls e id) in
      ap (λ (z : Answer × Ends). is_connection_fault z.0) is ∙ lists_tell fields (pulls e id).0
      ∙ pull_calm side id judged (sym (lists_find (asks_strictly ends) fields (pulls e id).0) ∙ ap (λ (z : Answer × Ends). finds_fault (asks_strictly ends) z.0) (sym is) ∙ finds)
  judged_calm (event.Deliver writer id count) judged finds = bytes_calm writer id count
  judged_calm (event.DeliverEnd writer id) judged finds = end_calm writer id
  judged_calm (event.DeliverReset writer id) judged finds = reset_calm writer id
  judged_calm e judged finds = absurd (cc)

  -- **Any event.**
  pub faultless : (e : Event) → IsSendableBy true e → is_connection_fault (answered ends e).0 ≡ false
  faultless e sendable = by_step (laws.runs.steps.plainly ends e)
    where
      by_step : StepsPlainly ends e → is_connection_fault (answered ends e).0 ≡ false
      by_step (RefusedSo malformed same) = malformed_faultless (answered ends e).0 malformed
      by_step (Judges judged few) = judged_calm e judged (few (laws.bounds.few ends s.bounded))
      by_step (Alike unrefused same) = ap (λ (z : Answer × Ends). is_connection_fault z.0) (sym same) ∙ plain_calm e sendable
