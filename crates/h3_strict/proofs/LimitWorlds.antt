-- Two ends whose limits take what is sent: without limits they run in worlds whose sections these limits take.
use Rattle.std.proofs.Common.{◌≡◌, ℕ, Bool, true, false, List, [], ◌∷◌, ◌++◌, ap, ◌∙◌, subst, if◌then◌else◌}
use Rattle.std.specs.Prelude.{option_map}
use Rattle.std.specs.List.{AllByRecursion}
use Rattle.h3_proto.specs.declared.stream.Side.{Side}
use Rattle.h3_proto.specs.declared.stream.Side.TheVariants.{Client, Server}
use Rattle.h3_world.specs.Ends.{Ends, answered, answers_of_ends, end_at, ends_after, new_ends}
use Rattle.h3_world.specs.Headline.{Happens}
use Rattle.h3_world.specs.Run.{Run}
use Rattle.h3_world.specs.Sendable.{IsSendable}
use Rattle.h3_world.specs.Setup.{IsMadeSetup, Setup}
use Rattle.h3_world.specs.World.{World, empty_world}
use Rattle.h3_world.specs.declared.event.Answer.{Answer}
use Rattle.h3_world.specs.declared.event.Event.{Event}
use Rattle.h3_headline.specs.Standing.{Stands}
use Rattle.h3_strict.proofs.LimitRuns.{EndWithin, FindNone, looks_within, runs_unlimited}
use Rattle.h3_strict.proofs.LimitSetups.{setup_unlimited, unlimited_plainly, unlimited_strictly}
use Rattle.h3_strict.proofs.PlainHeadlines.{RunInWorlds}
use Rattle.h3_strict.proofs.PlainStreams.{at_each}
use Rattle.h3_strict.proofs.SentTallies.{stands_at}
use Rattle.h3_strict.proofs.TakenWorlds.{IsTakenWorld, SectionsAreShort, run_from_nothing}
use Rattle.h3_strict.specs.Limits.{AreTaken, AsksForNone, AsksForStrict, RunsUnlimited, limit_at, unlimited_ends, unlimited_setup}
use Rattle.h3_strict.specs.PlainEnds.{answers_without_malformed, is_malformed_refusal, plain_ends, plain_setup, without_malformed}
use Rattle.h3_strict.specs.Plainly.{plain_incoming, plainly}
use Rattle.h3_strict.specs.ServerKnows.{ServerKnows, ServerKnowsFrom, knows_behind}
use Rattle.h3_strict.specs.Tallies.{JudgesStrictly}

-- what holds of a schedule holds of each front
pub taken_front : (setup : Setup) (ends : Ends) (past rest : List Event) → AreTaken setup (past ++ rest) (answers_of_ends ends (past ++ rest)) → AreTaken setup past (answers_of_ends ends past)
taken_front setup ends [] rest h = tt
taken_front setup ends (e ∷ past) rest h = (h.0, taken_front setup (answered ends e).1 past rest h.1)

pub knows_front : (known : ℕ → Bool) (ends : Ends) (past rest : List Event) → ServerKnowsFrom known (past ++ rest) (answers_of_ends ends (past ++ rest)) → ServerKnowsFrom known past (answers_of_ends ends past)
knows_front known ends [] rest h = tt
knows_front known ends (e ∷ past) rest h = (h.0, knows_front (λ id. knows_behind id (known id) e (answered ends e).0) (answered ends e).1 past rest h.1)

pub sendable_front : (setup : Setup) (past rest : List Event) → AllByRecursion (IsSendable setup) (past ++ rest) → AllByRecursion (IsSendable setup) past
sendable_front setup [] rest h = tt
sendable_front setup (e ∷ past) rest h = (h.0, sendable_front setup past rest h.1)

-- and without the sends that were refused as malformed
taken_left : (setup : Setup) (events : List Event) (answers : List Answer) → AreTaken setup events answers → AreTaken setup (without_malformed events answers) (answers_without_malformed answers)
taken_left setup [] answers h = tt
taken_left setup (e ∷ events) [] h = tt
taken_left setup (e ∷ events) (a ∷ answers) h = by_refusal (is_malformed_refusal a) (taken_left setup events answers h.1)
  where
    by_refusal : (b : Bool) → AreTaken setup (without_malformed events answers) (answers_without_malformed answers)
        → AreTaken setup (if b then without_malformed events answers else e ∷ without_malformed events answers) (if b then answers_without_malformed answers else a ∷ answers_without_malformed answers)
    by_refusal true later = later
    by_refusal false later = (h.0, later)

-- An end of which a plain one stands in a world.
plain_within : (setup : Setup) (w : World) (ends : Ends) (side : Side) → Stands (plain_setup (unlimited_setup setup)) w (plain_ends ends) → IsTakenWorld setup w → EndWithin (limit_at setup side) (end_at ends side)
plain_within setup w ends side h taken =
    let at = stands_at (unlimited_setup setup) w ends side h in
    record {
      nothing_kept = at.nothing_kept;
      looks = λ id i is. looks_within setup (plain_setup (unlimited_setup setup)) w side (plainly (end_at ends side)) id (plain_incoming i) at h.sound taken
          (at_each plain_incoming (end_at ends side).incoming id ∙ ap (option_map plain_incoming) is);
    }

loose_within : (setup : Setup) (w : World) (ends : Ends) (side : Side) → Stands (unlimited_setup setup) w ends → IsTakenWorld setup w → EndWithin (limit_at setup side) (end_at ends side)
loose_within setup w ends Client h taken = record { nothing_kept = h.at_client.nothing_kept; looks = λ id i is. looks_within setup (unlimited_setup setup) w Client ends.client id i h.at_client h.sound taken is }
loose_within setup w ends Server h taken = record { nothing_kept = h.at_server.nothing_kept; looks = λ id i is. looks_within setup (unlimited_setup setup) w Server ends.server id i h.at_server h.sound taken is }

-- The law on two strict ends.
abbrev pub RunStrictly : Type 0
RunStrictly = (setup : Setup) (events : List Event) → IsMadeSetup setup → JudgesStrictly setup → AllByRecursion (IsSendable setup) events → ServerKnows events (answers_of_ends (new_ends setup) events)
    → (w : World) × Run (Happens (plain_setup setup)) (empty_world (plain_setup setup)) (without_malformed events (answers_of_ends (new_ends setup) events)) (answers_without_malformed (answers_of_ends (new_ends setup) events)) w
    × Stands (plain_setup setup) w (plain_ends (ends_after (new_ends setup) events))

module _ (short : SectionsAreShort) (setup : Setup) (events : List Event) (made : IsMadeSetup setup) (sendable : AllByRecursion (IsSendable setup) events) (taken : AreTaken setup events (answers_of_ends (new_ends setup) events)) where
  taken_at : (past rest : List Event) → events ≡ past ++ rest → answers_of_ends (new_ends setup) past ≡ answers_of_ends (unlimited_ends (new_ends setup)) past → AreTaken setup past (answers_of_ends (unlimited_ends (new_ends setup)) past)
  taken_at past rest is same = subst (AreTaken setup past) same (taken_front setup (new_ends setup) past rest (subst (λ l. AreTaken setup l (answers_of_ends (new_ends setup) l)) is taken))

  -- neither asks for strict messages
  loose_find_none : RunInWorlds → AsksForNone setup → FindNone setup events
  loose_find_none headline none past rest is same side =
      let ran = headline (unlimited_setup setup) past (setup_unlimited setup made) (unlimited_plainly setup none) (sendable_front setup past rest (subst (AllByRecursion (IsSendable setup)) is sendable)) in
      loose_within setup ran.0 (ends_after (unlimited_ends (new_ends setup)) past) side ran.2
      (run_from_nothing setup short (unlimited_setup setup) ran.0 past (answers_of_ends (unlimited_ends (new_ends setup)) past) ran.1 (taken_at past rest is same))

  pub loose_unlimited : RunInWorlds → AsksForNone setup → RunsUnlimited (new_ends setup) events
  loose_unlimited headline none = runs_unlimited setup events (loose_find_none headline none) taken

  -- both do
  strict_find_none : RunStrictly → AsksForStrict setup → ServerKnows events (answers_of_ends (new_ends setup) events) → FindNone setup events
  strict_find_none headline strict knows past rest is same side =
      let answers = answers_of_ends (unlimited_ends (new_ends setup)) past in
      let known = subst (ServerKnows past) same (knows_front (λ id. false) (new_ends setup) past rest (subst (λ l. ServerKnows l (answers_of_ends (new_ends setup) l)) is knows)) in
      let ran = headline (unlimited_setup setup) past (setup_unlimited setup made) (unlimited_strictly setup strict) (sendable_front setup past rest (subst (AllByRecursion (IsSendable setup)) is sendable)) known in
      plain_within setup ran.0 (ends_after (unlimited_ends (new_ends setup)) past) side ran.2
      (run_from_nothing setup short (plain_setup (unlimited_setup setup)) ran.0 (without_malformed past answers) (answers_without_malformed answers) ran.1 (taken_left setup past answers (taken_at past rest is same)))

  pub strict_unlimited : RunStrictly → AsksForStrict setup → ServerKnows events (answers_of_ends (new_ends setup) events) → RunsUnlimited (new_ends setup) events
  strict_unlimited headline strict knows = runs_unlimited setup events (strict_find_none headline strict knows) taken
