-- Where each limit takes what its side announces, what a side sends is taken once it knows the other side's settings.
use Rattle.std.proofs.Common.{◌≡◌, ℕ, ◌≤◌, inl, inr, Bool, true, false, List, [], ◌∷◌, ◌++◌, Option, Some, None, refl, sym, ap, ◌∙◌, subst, arith, append_assoc, if◌then◌else◌}
use Rattle.std.specs.Prelude.{is_none, nat_lt}
use Rattle.std.specs.List.{AllByRecursion, list_any}
use Rattle.std.proofs.lemmas.Bool.{cases_lt, lt-ltb, or_parts}
use Rattle.h3_field.specs.Field.{Field, section_size}
use Rattle.h3_header.specs.Head.{Head, head_fields}
use Rattle.h3_proto.specs.declared.stream.Side.{Side}
use Rattle.h3_proto.specs.declared.stream.Side.TheVariants.{Client, Server}
use Rattle.h3_connection.specs.Remembering.{settings_known, settings_or}
use Rattle.h3_connection.specs.declared.setup.Announced.{Announced}
use Rattle.h3_connection.specs.Announcing.{section_of}
use Rattle.h3_connection.specs.Endpoint.{EndpointHistory}
use Rattle.h3_connection.specs.OwnIds.{other}
use Rattle.h3_connection.specs.Refusals.{is_too_large}
use Rattle.h3_connection.specs.StrictConnection.{is_strict}
use Rattle.h3_connection.specs.StrictSending.{broken_protocol}
use Rattle.h3_connection.specs.declared.event.Malformation.{Malformation}
use Rattle.h3_header.specs.Reads.{head_of_fields}
use Rattle.h3_world.specs.EndLists.{after_fields, after_trailer_fields}
use Rattle.h3_world.specs.Lists.{unreadable}
use Rattle.h3_connection.specs.Sending.{does}
use Rattle.h3_connection.specs.declared.event.Refusal.{Refusal}
use Rattle.h3_world.specs.Ends.{Ends, answered, answers_of_ends, done, end_at, ends_after, new_ends}
use Rattle.h3_world.specs.Headline.{Happens, is_connection_fault}
use Rattle.h3_world.specs.Run.{Run}
use Rattle.h3_world.specs.Sendable.{IsSendable}
use Rattle.h3_world.specs.Setup.{IsMadeSetup, Setup, announced_at, takes_any}
use Rattle.h3_world.specs.World.{World, empty_world, party}
use Rattle.h3_world.specs.declared.event.Answer.{Answer}
use Rattle.h3_world.specs.declared.event.Answer.TheVariants as answer
use Rattle.h3_world.specs.declared.event.Event.{Event}
use Rattle.h3_world.specs.declared.event.Event.TheVariants as event
use Rattle.h3_headline.specs.Cited.{StreamLaws}
use Rattle.h3_headline.specs.Messages.{is_done}
use Rattle.h3_headline.specs.SettingsLaws.{too_large_with_meaning}
use Rattle.h3_headline.specs.Standing.{Stands, are_settings_there, with_meaning}
use Rattle.h3_strict.proofs.DeliveriesFit.{delivery_fits, end_delivery_fits, reset_delivery_fits}
use Rattle.h3_strict.proofs.LimitCarries.{CarriesAt, loose_carries, strict_carries}
use Rattle.h3_strict.proofs.MadeLimits.{limits_made}
use Rattle.h3_strict.proofs.LimitHeadlines.{loose_world}
use Rattle.h3_strict.proofs.LimitRuns.{limits_kept}
use Rattle.h3_strict.proofs.LimitSetups.{setup_unlimited, unlimited_plainly, unlimited_strictly}
use Rattle.h3_strict.proofs.LimitWorlds.{RunStrictly, knows_front, loose_unlimited, sendable_front, strict_unlimited}
use Rattle.h3_strict.proofs.PlainHeadlines.{RunInWorlds}
use Rattle.h3_strict.proofs.SameWorlds.{answers_more, ends_more, run_last}
use Rattle.h3_strict.proofs.SentLaws.{head_judged, head_rules, trailer_judged, trailer_rules}
use Rattle.h3_strict.proofs.TakenWorlds.{SectionsAreShort}
use Rattle.h3_strict.specs.Limits.{AreTaken, AsksForNone, AsksForStrict, EarlyAreTaken, IsTaken, TakesSection, is_early, limit_at, unlimited_ends, unlimited_setup}
use Rattle.h3_strict.specs.PlainEnds.{plain_ends, plain_setup}
use Rattle.h3_strict.specs.ServerKnows.{AnswersKnowing, ServerKnows, ServerKnowsFrom, knows_behind}
use Rattle.h3_strict.specs.Tallies.{JudgesStrictly}

-- Of the other side's settings a side knows those that were announced, or none. It remembers none.
abbrev KnownAs : Setup → Side → Option (List (ℕ × ℕ)) → Type 0
KnownAs setup side settings = (there : Bool) × (settings ≡ (if there then Some (with_meaning (announced_at setup side).settings) else None))

abbrev KnowsSettings : Setup → Ends → Type 0
KnowsSettings setup ends = (side : Side) → KnownAs setup (other side) (end_at ends side).peer.settings × ((end_at ends side).announced.remembered ≡ None)

-- bytes, an end or a reset that is delivered
abbrev is_delivery : Event → Bool
is_delivery (event.Deliver side id count) = true
is_delivery (event.DeliverEnd side id) = true
is_delivery (event.DeliverReset side id) = true
is_delivery _ = false

-- Each sends on its own streams what the other takes. Without limits no delivery that comes next finds a fault.
record Sends (setup : Setup) (ends : Ends) (e : Event) : Type 0 where
  knows : KnowsSettings setup ends
  carries : (writer : Side) → CarriesAt setup ends writer
  quiet : is_delivery e ≡ true → is_connection_fault (answered (unlimited_ends ends) e).0 ≡ false

-- a list that is not too large for them is within what was announced
known_within : (setup : Setup) (side : Side) (settings : Option (List (ℕ × ℕ))) (fields : List Field) → KnownAs setup side settings → is_none settings ≡ false → is_too_large settings fields ≡ false
    → section_size fields ≤ section_of (announced_at setup side)
known_within setup side settings fields (false, is) known small = absurd (let never : true ≡ false = sym (ap is_none is) ∙ known in cc)
known_within setup side settings fields (true, is) known small =
    let pairs = (announced_at setup side).settings in
    let within : nat_lt (section_of (announced_at setup side)) (section_size fields) ≡ false = sym (too_large_with_meaning pairs fields) ∙ sym (ap (λ o. is_too_large o fields) is) ∙ small in
    elim (cases_lt (section_of (announced_at setup side)) (section_size fields)) [
      | inl more ↦ absurd (let never : true ≡ false = sym (lt-ltb (section_of (announced_at setup side)) (section_size fields) more) ∙ within in cc)
      | inr less ↦ less
    ]

-- where none are remembered those that came tell it
came_small : (e : EndpointHistory) (fields : List Field) → e.announced.remembered ≡ None → is_too_large (settings_known e.announced e.peer.settings) fields ≡ false → is_too_large e.peer.settings fields ≡ false
came_small e fields none small = sym (ap (λ r. is_too_large (settings_or r e.peer.settings) fields) none) ∙ small

-- a call that was accepted was not refused
was_accepted : (ends : Ends) (side : Side) (r : Option Refusal) (e f : EndpointHistory) → is_done (done ends side answer.Done (does r e f)).0 ≡ true → r ≡ None
was_accepted ends side None e f h = refl
was_accepted ends side (Some r) e f h = absurd (let never : false ≡ true = h in cc)

module _ (setup : Setup) (made : IsMadeSetup setup) where
  taken_by : (side : Side) (fields : List Field) → section_size fields ≤ section_of (announced_at setup side) → TakesSection setup side fields
  taken_by side fields within limited = omega (arith, within, (limits_made setup made side).0, (limits_made setup made side).1 limited)

  -- a head, or a trailer, that goes out as these fields
  abbrev Taken : Ends → Side → Option Refusal → EndpointHistory → List Field → Type 0
  Taken ends side rule after fields = is_done (done ends side answer.Done (does rule (end_at ends side) after)).0 ≡ true → TakesSection setup (other side) fields

  head_taken : (ends : Ends) (side : Side) (id : ℕ) (told : Option Malformation) (head : Head) (fields : List Field) (after : EndpointHistory) → KnowsSettings setup ends → (b : Bool) → is_none (end_at ends side).peer.settings ≡ b
      → (b ≡ true → Taken ends side (head_judged (end_at ends side) id told head fields) after fields) → Taken ends side (head_judged (end_at ends side) id told head fields) after fields
  head_taken ends side id told head fields after knows true is early accepted = early refl accepted
  head_taken ends side id told head fields after knows false is early accepted =
      let e = end_at ends side in
      let rules = head_rules e id told head fields (was_accepted ends side (head_judged e id told head fields) e after accepted) in
      taken_by (other side) fields (known_within setup (other side) e.peer.settings fields (knows side).0 is (came_small e fields (knows side).1 rules.small))

  trailer_taken : (ends : Ends) (side : Side) (id : ℕ) (told : Option Malformation) (trailer : Head) (fields : List Field) (after : EndpointHistory) → KnowsSettings setup ends → (b : Bool) → is_none (end_at ends side).peer.settings ≡ b
      → (b ≡ true → Taken ends side (trailer_judged (end_at ends side) id told trailer fields) after fields) → Taken ends side (trailer_judged (end_at ends side) id told trailer fields) after fields
  trailer_taken ends side id told trailer fields after knows true is early accepted = early refl accepted
  trailer_taken ends side id told trailer fields after knows false is early accepted =
      let e = end_at ends side in
      let rules = trailer_rules e id told trailer fields (was_accepted ends side (trailer_judged e id told trailer fields) e after accepted) in
      taken_by (other side) fields (known_within setup (other side) e.peer.settings fields (knows side).0 is (came_small e fields (knows side).1 rules.small))

  event_taken : (ends : Ends) (e : Event) → Sends setup ends e → (is_early ends e ≡ true → IsTaken setup e (answered ends e).0) → IsTaken setup e (answered ends e).0
  event_taken ends (event.Head side id head) sends early =
      head_taken ends side id (broken_protocol (end_at ends side).announced head) head (head_fields head) _ sends.knows (is_none (end_at ends side).peer.settings) refl early
  event_taken ends (event.Fields side id fields) sends early =
      head_taken ends side id (unreadable (takes_any (end_at ends side).announced) fields) (head_of_fields fields) fields (after_fields (end_at ends side) id fields) sends.knows (is_none (end_at ends side).peer.settings) refl early
  event_taken ends (event.Trailer side id trailer) sends early =
      trailer_taken ends side id (broken_protocol (end_at ends side).announced trailer) trailer (head_fields trailer) _ sends.knows (is_none (end_at ends side).peer.settings) refl early
  event_taken ends (event.TrailerFields side id fields) sends early =
      trailer_taken ends side id (unreadable (takes_any (end_at ends side).announced) fields) (head_of_fields fields) fields (after_trailer_fields (end_at ends side) id fields) sends.knows (is_none (end_at ends side).peer.settings) refl early
  event_taken ends (event.OpenRequest side) sends early = tt
  event_taken ends (event.Body side id bytes) sends early = tt
  event_taken ends (event.Finish side id) sends early = tt
  event_taken ends (event.Reset side id) sends early = tt
  event_taken ends (event.Cancel side id) sends early = tt
  event_taken ends (event.Goaway side id) sends early = tt
  event_taken ends (event.Deliver side id count) sends early = let c = sends.carries side in delivery_fits ends side (announced_at setup side) (limit_at setup (other side)) c.0 c.1 (is_strict (announced_at setup (other side))) id count (sends.quiet refl)
  event_taken ends (event.DeliverEnd side id) sends early = let c = sends.carries side in end_delivery_fits ends side (announced_at setup side) (limit_at setup (other side)) c.0 c.1 (is_strict (announced_at setup (other side))) id (sends.quiet refl)
  event_taken ends (event.DeliverReset side id) sends early = let c = sends.carries side in reset_delivery_fits ends side (announced_at setup side) (limit_at setup (other side)) c.0 c.1 (is_strict (announced_at setup (other side))) id (sends.quiet refl)
  event_taken ends (event.Pull side id) sends early = tt
  event_taken ends (event.PullFields side id) sends early = tt
  event_taken ends (event.Show side) sends early = tt

  taken_more : (ends : Ends) (past : List Event) (e : Event) → AreTaken setup past (answers_of_ends ends past) → IsTaken setup e (answered (ends_after ends past) e).0 → AreTaken setup (past ++ e ∷ []) (answers_of_ends ends (past ++ e ∷ []))
  taken_more ends [] e h last = (last, tt)
  taken_more ends (d ∷ past) e h last = (h.0, taken_more (answered ends d).1 past e h.1 last)

  -- behind each front of which all is taken the settings are known as they were announced, and the own streams carry what is taken
  abbrev KnownBehind : List Event → Type 0
  KnownBehind all = (past : List Event) (e : Event) (rest : List Event) → all ≡ past ++ e ∷ rest → AreTaken setup past (answers_of_ends (new_ends setup) past) → Sends setup (ends_after (new_ends setup) past) e

  taken_from : (all past rest : List Event) → KnownBehind all → all ≡ past ++ rest → AreTaken setup past (answers_of_ends (new_ends setup) past) → EarlyAreTaken setup (ends_after (new_ends setup) past) rest
      → AreTaken setup rest (answers_of_ends (ends_after (new_ends setup) past) rest)
  taken_from all past [] known is taken early = tt
  taken_from all past (e ∷ rest) known is taken early =
      let ends = ends_after (new_ends setup) past in
      let here = event_taken ends e (known past e rest is taken) early.0 in
      let leads : ends_after (new_ends setup) (past ++ e ∷ []) ≡ (answered ends e).1 = ends_more (new_ends setup) past e in
      let more = taken_from all (past ++ e ∷ []) rest known (is ∙ sym (append_assoc past (e ∷ []) rest)) (taken_more (new_ends setup) past e taken here) (subst (λ x. EarlyAreTaken setup x rest) (sym leads) early.1) in
      (here, subst (λ x. AreTaken setup rest (answers_of_ends x rest)) leads more)

-- The last event of a run finds no fault.
last_quiet : (X : Setup) (past : List Event) (e : Event) (w : World) → Run (Happens X) (empty_world X) (past ++ e ∷ []) (answers_of_ends (new_ends X) (past ++ e ∷ [])) w → is_connection_fault (answered (ends_after (new_ends X) past) e).0 ≡ false
last_quiet X past e w ran =
    (run_last X (empty_world X) past (answers_of_ends (new_ends X) past) e (answered (ends_after (new_ends X) past) e).0 w
    (subst (λ l. Run (Happens X) (empty_world X) (past ++ e ∷ []) l w) (answers_more (new_ends X) past e) ran)).last.no_connection_fault

-- nor the last of some answers
last_faultless : (answers : List Answer) (a : Answer) → list_any is_connection_fault (answers ++ a ∷ []) ≡ false → is_connection_fault a ≡ false
last_faultless [] a h = (or_parts (is_connection_fault a) false h).0
last_faultless (b ∷ answers) a h = last_faultless answers a (or_parts (is_connection_fault b) (list_any is_connection_fault (answers ++ a ∷ [])) h).1

-- what a server knows says nothing of a delivery
delivered_knowing : (e : Event) → is_delivery e ≡ true → (known : ℕ → Bool) (a : Answer) → AnswersKnowing known e a
delivered_knowing (event.Head side id head) is known a = absurd (cc)
delivered_knowing (event.Fields side id fields) is known a = absurd (cc)
delivered_knowing e is known a = tt

knows_more : (known : ℕ → Bool) (ends : Ends) (past : List Event) (e : Event) → is_delivery e ≡ true → ServerKnowsFrom known past (answers_of_ends ends past) → ServerKnowsFrom known (past ++ e ∷ []) (answers_of_ends ends (past ++ e ∷ []))
knows_more known ends [] e is h = (delivered_knowing e is known (answered ends e).0, tt)
knows_more known ends (d ∷ past) e is h = (h.0, knows_more (λ id. knows_behind id (known id) d (answered ends d).0) (answered ends d).1 past e is h.1)

-- ends that stand in a world
loose_knows : (setup : Setup) (w : World) (ends : Ends) → Stands (unlimited_setup setup) w (unlimited_ends ends) → KnowsSettings setup ends
loose_knows setup w ends h Client = ((are_settings_there (unlimited_setup setup) Server (party w Server).own.control_taken, h.at_client.control.settings), ap (λ (a : Announced). a.remembered) h.at_client.announced ∙ h.at_client.remembered)
loose_knows setup w ends h Server = ((are_settings_there (unlimited_setup setup) Client (party w Client).own.control_taken, h.at_server.control.settings), ap (λ (a : Announced). a.remembered) h.at_server.announced ∙ h.at_server.remembered)

strict_knows : (setup : Setup) (w : World) (ends : Ends) → Stands (plain_setup (unlimited_setup setup)) w (plain_ends (unlimited_ends ends)) → KnowsSettings setup ends
strict_knows setup w ends h Client = ((are_settings_there (plain_setup (unlimited_setup setup)) Server (party w Server).own.control_taken, h.at_client.control.settings), ap (λ (a : Announced). a.remembered) h.at_client.announced ∙ h.at_client.remembered)
strict_knows setup w ends h Server = ((are_settings_there (plain_setup (unlimited_setup setup)) Client (party w Client).own.control_taken, h.at_server.control.settings), ap (λ (a : Announced). a.remembered) h.at_server.announced ∙ h.at_server.remembered)

-- The law that two strict ends find no fault.
abbrev pub FindNoFaultStrictly : Type 0
FindNoFaultStrictly = (setup : Setup) (events : List Event) → IsMadeSetup setup → JudgesStrictly setup → AllByRecursion (IsSendable setup) events → ServerKnows events (answers_of_ends (new_ends setup) events)
    → list_any is_connection_fault (answers_of_ends (new_ends setup) events) ≡ false

module _ (short : SectionsAreShort) (streams : StreamLaws) (setup : Setup) (events : List Event) (made : IsMadeSetup setup) (sendable : AllByRecursion (IsSendable setup) events) (early : EarlyAreTaken setup (new_ends setup) events) where
  -- **Neither asks for strict messages.**
  pub loose_taken : RunInWorlds → AsksForNone setup → AreTaken setup events (answers_of_ends (new_ends setup) events)
  loose_taken headline none = taken_from setup made events [] events known refl tt early
    where
      known : KnownBehind setup made events
      known past e rest is taken =
          let X = unlimited_setup setup in
          let sent = sendable_front setup past (e ∷ rest) (subst (AllByRecursion (IsSendable setup)) is sendable) in
          let more = sendable_front setup (past ++ e ∷ []) rest (subst (AllByRecursion (IsSendable setup)) (is ∙ sym (append_assoc past (e ∷ []) rest)) sendable) in
          let runs = loose_unlimited short setup past made sent taken headline none in
          let ran = loose_world setup past made none sent runs headline in
          let next = headline X (past ++ e ∷ []) (setup_unlimited setup made) (unlimited_plainly setup none) more in
          record {
            knows = loose_knows setup ran.0 (ends_after (new_ends setup) past) ran.2;
            carries = loose_carries streams setup made ran.0 (ends_after (new_ends setup) past) (limits_kept setup past) ran.2;
            quiet = λ delivers. ap (λ x. is_connection_fault (answered x e).0) runs.leads ∙ last_quiet X past e next.0 next.1;
          }

  -- **Both do.**
  pub strict_taken : RunStrictly → FindNoFaultStrictly → AsksForStrict setup → ServerKnows events (answers_of_ends (new_ends setup) events) → AreTaken setup events (answers_of_ends (new_ends setup) events)
  strict_taken headline faultless strict knows = taken_from setup made events [] events known refl tt early
    where
      known : KnownBehind setup made events
      known past e rest is taken =
          let X = unlimited_setup setup in
          let sent = sendable_front setup past (e ∷ rest) (subst (AllByRecursion (IsSendable setup)) is sendable) in
          let more = sendable_front setup (past ++ e ∷ []) rest (subst (AllByRecursion (IsSendable setup)) (is ∙ sym (append_assoc past (e ∷ []) rest)) sendable) in
          let asked : ServerKnows past (answers_of_ends (new_ends setup) past) = knows_front (λ id. false) (new_ends setup) past (e ∷ rest) (subst (λ l. ServerKnows l (answers_of_ends (new_ends setup) l)) is knows) in
          let runs = strict_unlimited short setup past made sent taken headline strict asked in
          let there : ServerKnows past (answers_of_ends (new_ends X) past) = subst (ServerKnows past) runs.answers asked in
          let ran = headline X past (setup_unlimited setup made) (unlimited_strictly setup strict) sent there in
          let stands : Stands (plain_setup (unlimited_setup setup)) ran.0 (plain_ends (unlimited_ends (ends_after (new_ends setup) past))) =
          subst (λ x. Stands (plain_setup (unlimited_setup setup)) ran.0 (plain_ends x)) (sym runs.leads) ran.2 in
          record {
            knows = strict_knows setup ran.0 (ends_after (new_ends setup) past) stands;
            carries = strict_carries streams setup made ran.0 (ends_after (new_ends setup) past) (limits_kept setup past) stands;
            quiet = λ delivers. ap (λ x. is_connection_fault (answered x e).0) runs.leads
                ∙ last_faultless (answers_of_ends (new_ends X) past) (answered (ends_after (new_ends X) past) e).0
                (sym (ap (list_any is_connection_fault) (answers_more (new_ends X) past e))
                ∙ faultless X (past ++ e ∷ []) (setup_unlimited setup made) (unlimited_strictly setup strict) more (knows_more (λ id. false) (new_ends X) past e delivers there));
          }
