-- A pull at any two ends, with lists or without, is a step of the world of both; no memory is refused.
use Rattle.std.proofs.Common.{◌≡◌, ℕ, Bool, true, false, if◌then◌else◌, List, [], ◌∷◌, map, refl, ap, ap₂, sym, ◌∙◌, subst, Option, Some, None}
use Rattle.std.specs.Prelude.{IfSome, MatchOption, ◌&&◌, ◌||◌, is_some, option_map, unwrap_or}
use Rattle.h3_field.specs.Field.{Field, flagged, unflagged}
use Rattle.h3_field.specs.Secret.{guarded, is_secret}
use Rattle.h3_header.specs.FlagLaws.{texts_read_alike}
use Rattle.h3_header.specs.HeadRead.{head_by}
use Rattle.h3_proto.specs.declared.stream.Side.{Side}
use Rattle.h3_proto.specs.declared.stream.Side.TheVariants.{Client, Server}
use Rattle.h3_connection.specs.Coming.{fields_behind}
use Rattle.h3_connection.specs.Control.{Found}
use Rattle.h3_connection.specs.Endpoint.{EndpointHistory}
use Rattle.h3_connection.specs.Incoming.{Incoming}
use Rattle.h3_connection.specs.Keeping.{pulls, read_all, unkept}
use Rattle.h3_connection.specs.OwnIds.{other}
use Rattle.h3_connection.specs.StreamSets.{stream_at}
use Rattle.h3_connection.specs.declared.arrival.Arrival.{Arrival}
use Rattle.h3_connection.specs.declared.event.Fault.TheVariants.{Connection, Stream}
use Rattle.h3_connection.specs.declared.event.Item.TheVariants as item
use Rattle.h3_connection.specs.declared.event.Malformation.{Malformation}
use Rattle.h3_connection.specs.declared.event.Pull.{Pull}
use Rattle.h3_connection.specs.declared.event.Pull.TheVariants as pull
use Rattle.h3_connection.specs.declared.event.StreamFault.{StreamFault}
use Rattle.h3_connection.specs.declared.event.StreamFault.TheVariants.{Malformed}
use Rattle.h3_connection.specs.declared.setup.Announced.{Announced}
use Rattle.h3_connection.specs.Lists.{list_of, listed_pull, pull_of}
use Rattle.h3_connection.specs.declared.lists.ListItem.TheVariants as listed
use Rattle.h3_connection.specs.declared.lists.ListPull.{ListPull}
use Rattle.h3_connection.specs.declared.lists.ListPull.TheVariants as list
use Rattle.h3_world.specs.Ends.{Ends, answered, end_at, was_listed, was_pulled, with_end}
use Rattle.h3_world.specs.Flow.{Section}
use Rattle.h3_world.specs.Headline.{is_connection_fault, is_out_of_memory}
use Rattle.h3_world.specs.Items.{handed_out}
use Rattle.h3_world.specs.Lists.{as_flagged, unread_by, unreadable}
use Rattle.h3_world.specs.Order.{is_over, next_part, section_of_part}
use Rattle.h3_world.specs.Pulling.{PausesExactly, PullsNext, list_next, settled}
use Rattle.h3_world.specs.Sendable.{IsSendable, IsSendableBy}
use Rattle.h3_world.specs.Sending.{given_up}
use Rattle.h3_world.specs.Setup.{IsMadeSetup, JudgesPlainly, Setup, announced_at, flags_secrets, takes_any}
use Rattle.h3_world.specs.Step.{IsExact}
use Rattle.h3_world.specs.Streams.{flow}
use Rattle.h3_world.specs.World.{World}
use Rattle.h3_world.specs.declared.event.Answer.{Answer}
use Rattle.h3_world.specs.declared.event.Answer.TheVariants as answer
use Rattle.h3_world.specs.declared.event.Event.{Event}
use Rattle.h3_world.specs.declared.event.Event.TheVariants as event
use Rattle.h3_headline.specs.GivenUp.{IsGone, giving_up}
use Rattle.h3_headline.specs.SettledLaws.{settled_alive, settled_none}
use Rattle.h3_memory.specs.Kept.{Delivery, KeepingWorld, caught_up, is_settled, kept_at, read_deliveries, with_kept}
use Rattle.h3_memory.specs.Keeping.{AreKept, StandsKeeping}
use Rattle.h3_memory.specs.MemoryStep as memory
use Rattle.h3_memory.specs.MemoryStep.{HappensWithMemory, StepWithMemory, UnlessMemory, reader_world}
use Rattle.h3_memory.specs.Refused.{AnswerOf, EndsStep}
use Rattle.h3_memory.specs.SoundKeeping.{IsSoundKeeping}
use Rattle.h3_memory.specs.Theorem.{StandsOn, StepsOn}
use Rattle.h3_strict.specs.GivesUp.{AtOnce, BehindPart, GivesUp}
use Rattle.h3_strict.specs.GivingUpLaws.{alive_before}
use Rattle.h3_strict.specs.PlainAlike.{DoesPlainly}
use Rattle.h3_strict.specs.PlainEnds.{StepsPlainly, plain_ends, plain_setup}
use Rattle.h3_strict.specs.Plainly.{plainly}
use Rattle.h3_strict.specs.PullPlainly.{GivesStreamUp, IsUnread, LeavesGone, LeftAtOnce, LeftBehind, OtherFaults, PullAlike, PullFaults, PullGone, PullPlainly, shows_header, tells_fault}
use Rattle.h3_faithful.specs.Steps.{AsPlainly, GivesMessageUp, HappensAnywhere, IsUnreadNext, PullsMalformed}
use Rattle.h3_faithful.proofs.Accounts.{MemoryMoves}
use Rattle.h3_faithful.proofs.PlainMemory.{QuietSides, at_end, sets_end}

-- The laws of ends and their worlds that are cited: of `h3_strict` and of `h3_memory`.
pub record StepLaws : Type 0 where
  pub plainly : (ends : Ends) (e : Event) → StepsPlainly ends e
  pub does : (e : EndpointHistory) → DoesPlainly e
  pub pulls : (e : EndpointHistory) (id : ℕ) → PullPlainly e id
  pub made : (setup : Setup) → IsMadeSetup setup → IsMadeSetup (plain_setup setup)
  pub judges : (setup : Setup) → JudgesPlainly (plain_setup setup)
  pub steps_on : (setup : Setup) (e : Event) → IsMadeSetup setup → JudgesPlainly setup → StepsOn setup e
  pub happens : (setup : Setup) (k new : KeepingWorld) (e : Event) (a : Answer) → IsSendable setup e → IsSoundKeeping setup k → StepWithMemory setup k e a new → UnlessMemory (is_out_of_memory a) (IsExact (reader_world setup k e) e a) → HappensWithMemory setup k e a new
  pub gives_up : (setup : Setup) (k : KeepingWorld) (ends : Ends) (side : Side) (id : ℕ) (fault : StreamFault) → IsMadeSetup setup → StandsKeeping setup k ends
      → (next : EndpointHistory) (i x : Incoming) → read_all (end_at ends side).kept (unkept (end_at ends side)) ≡ (next, None) → stream_at next.incoming id ≡ Some i → i.fault ≡ None → i.is_over ≡ false → IsGone i x fault
      → (settled (caught_up setup k side) side id ≡ None) × StandsKeeping setup (with_kept k side (given_up (caught_up setup k side) side id fault) []) (with_end ends side (giving_up next id x))

-- A step, and where the ends stand after it.
pub record StepsTo (setup : Setup) (k : KeepingWorld) (e : Event) (a : Answer) (new : Ends) : Type 0 where
  pub after : KeepingWorld
  pub happens : HappensAnywhere setup k e a after
  pub stands : StandsKeeping (plain_setup setup) after (plain_ends new)

-- the same of sides that judge plainly
pub record StepsSo (setup : Setup) (k : KeepingWorld) (e : Event) (a : Answer) (new : Ends) : Type 0 where
  pub after : KeepingWorld
  pub happens : HappensWithMemory setup k e a after
  pub stands : StandsKeeping setup after new

pub sound_of : (setup : Setup) (k : KeepingWorld) (ends : Ends) → StandsKeeping setup k ends → IsSoundKeeping setup k
sound_of setup k ends h = record { sound = h.stands.sound; client = h.client.may; server = h.server.may }

pub pulled_is : (ends : Ends) (side : Side) (x : Pull × EndpointHistory) → was_pulled ends side x ≡ (answer.Pulled x.0, with_end ends side x.1)
pulled_is ends side (a, e) = refl

pub listed_is : (ends : Ends) (side : Side) (id : ℕ) (x : Pull × EndpointHistory) → was_listed ends side id x ≡ (answer.Listed (listed_pull (fields_behind (end_at ends side).kept (end_at ends side) id) x.0), with_end ends side x.1)
listed_is ends side id (a, e) = refl

pub end_set : (ends : Ends) (side : Side) (e : EndpointHistory) → end_at (with_end ends side e) side ≡ e
end_set ends Client e = refl
end_set ends Server e = refl

pub set_twice : (ends : Ends) (side : Side) (e f : EndpointHistory) → with_end (with_end ends side e) side f ≡ with_end ends side f
set_twice ends Client e f = refl
set_twice ends Server e f = refl

kept_none : (k : KeepingWorld) (side : Side) (v : World) → kept_at (with_kept k side v []) side ≡ []
kept_none k Client v = refl
kept_none k Server v = refl

kept_world : (k : KeepingWorld) (side : Side) (v : World) → (with_kept k side v []).world ≡ v
kept_world k Client v = refl
kept_world k Server v = refl

kept_twice : (k : KeepingWorld) (side : Side) (v w : World) → with_kept (with_kept k side v []) side w [] ≡ with_kept k side w []
kept_twice k Client v w = refl
kept_twice k Server v w = refl

listed_faults : (fields : Option (List Field)) (p : Pull) → is_connection_fault (answer.Pulled p) ≡ true → is_connection_fault (answer.Listed (listed_pull fields p)) ≡ true
listed_faults fields (pull.Fault (Connection code)) t = refl
listed_faults fields p t = absurd (cc)

-- an end of which nothing is kept in the world keeps nothing
none_came : (text : ℕ → List ℕ) (came : ℕ → ℕ) (held : ℕ → List ℕ) (ds : List Delivery) (arrivals : List Arrival) → ds ≡ [] → AreKept text came held ds arrivals → arrivals ≡ []
none_came text came held ds [] none h = refl
none_came text came held [] (a ∷ arrivals) none h = absurd h
none_came text came held (d ∷ ds) (a ∷ arrivals) none h = absurd (cc)

end_keeps : (setup : Setup) (k : KeepingWorld) (ends : Ends) (side : Side) → StandsKeeping setup k ends → kept_at k side ≡ [] → (end_at ends side).kept ≡ []
end_keeps setup k ends Client h none = ap (λ (e : EndpointHistory). e.kept) h.client.is ∙ none_came _ _ _ k.at_client h.client.arrivals none h.client.kept
end_keeps setup k ends Server h none = ap (λ (e : EndpointHistory). e.kept) h.server.is ∙ none_came _ _ _ k.at_server h.server.arrivals none h.server.kept

pub reads_none : (e : EndpointHistory) → e.kept ≡ [] → read_all e.kept (unkept e) ≡ (e, None)
reads_none e none = ap (λ l. read_all l (unkept e)) none ∙ ap (λ l. let x : Found = (record e { kept = l }, None) in x) (sym none)

neither : (x y : Bool) → x ≡ false → y ≡ false → (x || y) ≡ false
neither true y h k = cc
neither false y h k = k

-- flags are not read
flag_unread : (guards : Bool) (f : Field) → unflagged (guarded guards f) ≡ unflagged f
flag_unread guards f = by_test (guards && is_secret f)
  where
    by_test : (b : Bool) → unflagged (if b then flagged f true else f) ≡ unflagged f
    by_test true = refl
    by_test false = refl

flags_unread : (any guards : Bool) (fields : List Field) → head_by any (as_flagged guards fields) ≡ head_by any fields
flags_unread any guards fields = texts_read_alike any (as_flagged guards fields) fields (same fields)
  where
    same : (l : List Field) → map unflagged (map (guarded guards) l) ≡ map unflagged l
    same [] = refl
    same (f ∷ l) = ap₂ (λ g gs. g ∷ gs) (flag_unread guards f) (same l)

module _ (laws : StepLaws) (moves : MemoryMoves) (setup : Setup) (made : IsMadeSetup setup) (k : KeepingWorld) (ends : Ends) (h : StandsKeeping (plain_setup setup) k (plain_ends ends)) where
  abbrev ps : Setup
  ps = plain_setup setup

  abbrev pe : Ends
  pe = plain_ends ends

  sound : IsSoundKeeping ps k
  sound = sound_of ps k pe h

  -- A step of the same ends that judge plainly.
  pub plain_step : (e : Event) (a : Answer) (new : Ends) → IsSendableBy true e → EndsStep pe e a new → StepsSo ps k e a new
  plain_step e a new sendable step =
      let on = laws.steps_on ps e (laws.made setup made) (laws.judges setup) k pe new a sendable h step in
      record { after = on.new; happens = laws.happens ps k on.new e a sendable sound on.step on.exact; stands = on.stands }

  module _ (side : Side) (id : ℕ) where
    abbrev e : EndpointHistory
    e = end_at ends side

    abbrev u : World
    u = caught_up ps k side

    -- a message that is given up
    record GivesUpSo (p : Pull) (after : Ends) : Type 0 where
      new : KeepingWorld
      pulls : PullsMalformed setup k side id p new
      stands : StandsKeeping (plain_setup setup) new after

    other_pull : answered pe (event.Pull side id) ≡ (answer.Pulled (pulls (plainly e) id).0, with_end pe side (pulls (plainly e) id).1)
    other_pull = pulled_is pe side (pulls (end_at pe side) id) ∙ ap (λ z. let x : Answer × Ends = (answer.Pulled (pulls z id).0, with_end pe side (pulls z id).1) in x) (at_end ends side)

    pub unsettled_before : settled u side id ≡ None → is_settled k.world side id ≡ false
    unsettled_before unsettled =
        let c = moves.caught ps k side sound in
        let f = flow k.world (other side) id in
        let g = flow u (other side) id in
        let same = c.0 (other side) id in
        let over : is_over g ≡ is_over f = ap (λ s. is_over (record g { sent = s })) same.sent ∙ ap (λ n. is_over (record g { sent = f.sent; parts_out = n })) same.parts_out in
        neither (is_some f.fault) (is_over f) (alive_before (is_some f.fault) (is_some g.fault) (c.1 (other side) id) (settled_alive u side id unsettled)) (sym over ∙ (settled_none u side id unsettled).not_over)

    other_list : answered pe (event.PullFields side id) ≡ (answer.Listed (listed_pull (fields_behind e.kept (plainly e) id) (pulls (plainly e) id).0), with_end pe side (pulls (plainly e) id).1)
    other_list =
        listed_is pe side id (pulls (end_at pe side) id)
        ∙ ap (λ z. let x : Answer × Ends = (answer.Listed (listed_pull (fields_behind z.kept z id) (pulls z id).0), with_end pe side (pulls z id).1) in x) (at_end ends side)

    -- the pull of the ends that judge plainly is one of what is next
    plain_next : settled u side id ≡ None → (p : Pull) → is_out_of_memory (answer.Pulled p) ≡ false → (pulls (plainly e) id).0 ≡ p → (v : World) × PullsNext ps u side id p v
    plain_next unsettled p told given =
        let new = with_end pe side (pulls (plainly e) id).1 in
        let is = other_pull ∙ ap (λ z. let x : Answer × Ends = (answer.Pulled z, new) in x) given in
        let step : EndsStep pe (event.Pull side id) (answer.Pulled p) new = subst (λ b. AnswerOf b pe (event.Pull side id) (answer.Pulled p) new) (sym told) (sym (ap (λ z. z.0) is), sym (ap (λ z. z.1) is)) in
        let on = laws.steps_on ps (event.Pull side id) (laws.made setup made) (laws.judges setup) k pe new (answer.Pulled p) tt h step in
        let all = subst (λ b. memory.StepOf b ps k (event.Pull side id) (answer.Pulled p) on.new) told on.step in
        let reads = subst (λ b. memory.Pulls ps k side (event.Pull side id) b (answer.Pulled p) on.new) (unsettled_before unsettled) all in
        (on.new.world, subst (λ o. MatchOption o (PullsNext ps u side id p on.new.world) (λ a. (p ≡ a) × (on.new.world ≡ u))) unsettled reads.0)

    -- so it finds no fault
    no_fault : settled u side id ≡ None → (p : Pull) → tells_fault p ≡ true → (pulls (plainly e) id).0 ≡ p → ⊥
    no_fault unsettled (pull.Fault (Connection code)) t is = (plain_next unsettled (pull.Fault (Connection code)) refl is).1
    no_fault unsettled (pull.Fault (Stream why)) t is = (plain_next unsettled (pull.Fault (Stream why)) refl is).1
    no_fault unsettled p t is = cc

    -- and its list is the one that is next
    plain_list : settled u side id ≡ None → (l : ListPull) → is_out_of_memory (answer.Listed l) ≡ false → listed_pull (fields_behind e.kept (plainly e) id) (pulls (plainly e) id).0 ≡ l → IfSome (list_of l) (λ fields. list_next ps u side id ≡ Some fields)
    plain_list unsettled l told given =
        let new = with_end pe side (pulls (plainly e) id).1 in
        let is = other_list ∙ ap (λ z. let x : Answer × Ends = (answer.Listed z, new) in x) given in
        let step : EndsStep pe (event.PullFields side id) (answer.Listed l) new = subst (λ b. AnswerOf b pe (event.PullFields side id) (answer.Listed l) new) (sym told) (sym (ap (λ z. z.0) is), sym (ap (λ z. z.1) is)) in
        let on = laws.steps_on ps (event.PullFields side id) (laws.made setup made) (laws.judges setup) k pe new (answer.Listed l) tt h step in
        let all = subst (λ b. memory.StepOf b ps k (event.PullFields side id) (answer.Listed l) on.new) told on.step in
        (subst (λ b. memory.Pulls ps k side (event.PullFields side id) b (answer.Listed l) on.new) (unsettled_before unsettled) all).0.1

    listed_next : settled u side id ≡ None → (fields : List Field) → fields_behind e.kept (plainly e) id ≡ Some fields → (p : Pull) → shows_header p ≡ true → (pulls (plainly e) id).0 ≡ p → list_next ps u side id ≡ Some fields
    listed_next unsettled fields there (pull.Item (item.Interim head)) shown is =
        plain_list unsettled (list.Item (listed.Interim fields)) refl (ap (λ o. listed_pull o (pulls (plainly e) id).0) there ∙ ap (listed_pull (Some fields)) is)
    listed_next unsettled fields there (pull.Item (item.Head head)) shown is =
        plain_list unsettled (list.Item (listed.Head fields)) refl (ap (λ o. listed_pull o (pulls (plainly e) id).0) there ∙ ap (listed_pull (Some fields)) is)
    listed_next unsettled fields there (pull.Item (item.Trailer head)) shown is =
        plain_list unsettled (list.Item (listed.Trailer fields)) refl (ap (λ o. listed_pull o (pulls (plainly e) id).0) there ∙ ap (listed_pull (Some fields)) is)
    listed_next unsettled fields there (pull.Fault (Connection code)) shown is = absurd (no_fault unsettled (pull.Fault (Connection code)) refl is)
    listed_next unsettled fields there (pull.Fault (Stream why)) shown is = absurd (no_fault unsettled (pull.Fault (Stream why)) refl is)
    listed_next unsettled fields there p shown is = absurd (cc)

    -- what the side does not read is the section that is next
    unread_next : settled u side id ≡ None → (own : Announced) (why : Malformation) → IsUnread own (fields_behind e.kept (plainly e) id) why → shows_header (pulls (plainly e) id).0 ≡ true → IsUnreadNext own (flow u (other side) id) why
    unread_next unsettled own why (fields, there, unread) shown = by_section (section_of_part (next_part (flow u (other side) id))) refl (listed_next unsettled fields there (pulls (plainly e) id).0 shown refl)
      where
        guards : Bool
        guards = flags_secrets (announced_at ps (other side))

        by_section : (o : Option Section) → section_of_part (next_part (flow u (other side) id)) ≡ o → option_map (λ (s : Section). as_flagged guards s.fields) o ≡ Some fields → IsUnreadNext own (flow u (other side) id) why
        by_section (Some s) is same =
            (s, is, ap unread_by (sym (flags_unread (takes_any own) guards s.fields)) ∙ ap (unreadable (takes_any own)) (ap (λ o. unwrap_or o fields) same) ∙ unread)
        by_section None is same = absurd (cc)

    gives_stream_up : QuietSides setup ends → GivesStreamUp e id → GivesUpSo (pulls e id).0 (with_end pe side (plainly (pulls e id).1))
    gives_stream_up counts g = by_way g.gives.leaves
      where
        fault : StreamFault
        fault = Malformed g.why

        reads : read_all (end_at pe side).kept (unkept (end_at pe side)) ≡ (plainly g.next, None)
        reads = ap (λ z. read_all z.kept (unkept z)) (at_end ends side) ∙ g.reads

        gone_there : (settled u side id ≡ None) × StandsKeeping ps (with_kept k side (given_up u side id (Malformed g.why)) []) (with_end pe side (giving_up (plainly g.next) id g.gives.left))
        gone_there = laws.gives_up ps k pe side id (Malformed g.why) (laws.made setup made) h (plainly g.next) g.gives.old g.gives.left reads g.gives.here g.gives.alive g.gives.goes g.gives.gone

        of : (v : World) → GivesUp ps u side id g.why v → StandsKeeping ps (with_kept k side v []) (with_end pe side (plainly (pulls e id).1)) → GivesUpSo (pulls e id).0 (with_end pe side (plainly (pulls e id).1))
        of v gives stands =
            record {
              new = with_kept k side v [];
              pulls = record {
                why = g.why;
                judges = λ plain. let found = g.judges (announced_at setup side) ((counts side).1 plain.0) plain.1 in unread_next gone_there.0 (announced_at setup side) g.why found.0 found.1;
                told = g.gives.told;
                unsettled = gone_there.0;
                given_up = subst (GivesUp ps u side id g.why) (sym (kept_world k side v)) gives;
                kept = ap (λ w. with_kept k side w []) (sym (kept_world k side v));
              };
              stands = stands;
            }

        by_way : LeavesGone (pulls e id) (pulls (plainly e) id) (plainly g.next) id g.why g.gives.left → GivesUpSo (pulls e id).0 (with_end pe side (plainly (pulls e id).1))
        by_way (LeftAtOnce same) =
            of (given_up u side id (Malformed g.why)) (AtOnce refl) (subst (λ z. StandsKeeping ps (with_kept k side (given_up u side id (Malformed g.why)) []) (with_end pe side z)) (sym same) gone_there.1)
        by_way (OtherFaults faults) = absurd (no_fault gone_there.0 (pulls (plainly e) id).0 faults refl)
        by_way (LeftBehind it j given at alive goes gone same) =
            of v (BehindPart it next.0 exact refl) (subst (λ z. StandsKeeping ps (with_kept k side v []) z) ends_is (subst (λ m. StandsKeeping ps m (with_end first side (giving_up f id g.gives.left))) kept_is then_gone.1))
          where
            f : EndpointHistory
            f = (pulls (plainly e) id).1

            first : Ends
            first = with_end pe side (pulls (plainly e) id).1

            v : World
            v = given_up (handed_out u side id it) side id (Malformed g.why)

            pull_is : answered pe (event.Pull side id) ≡ (answer.Pulled (pull.Item it), with_end pe side (pulls (plainly e) id).1)
            pull_is = other_pull ∙ ap (λ z. let x : Answer × Ends = (answer.Pulled z, with_end pe side (pulls (plainly e) id).1) in x) given

            on : StandsOn ps k (event.Pull side id) (answer.Pulled (pull.Item it)) (with_end pe side (pulls (plainly e) id).1)
            on =
                laws.steps_on ps (event.Pull side id) (laws.made setup made) (laws.judges setup) k pe (with_end pe side (pulls (plainly e) id).1) (answer.Pulled (pull.Item it)) tt h
                (sym (ap (λ z. z.0) pull_is), sym (ap (λ z. z.1) pull_is))

            reads_then : memory.Pulls ps k side (event.Pull side id) false (answer.Pulled (pull.Item it)) on.new
            reads_then = subst (λ b. memory.Pulls ps k side (event.Pull side id) b (answer.Pulled (pull.Item it)) on.new) (unsettled_before gone_there.0) on.step

            next : PullsNext ps u side id (pull.Item it) on.new.world
            next = subst (λ o. MatchOption o (PullsNext ps u side id (pull.Item it) on.new.world) (λ a. (pull.Item it ≡ a) × (on.new.world ≡ u))) gone_there.0 reads_then.0

            exact : PausesExactly u side id (pull.Item it)
            exact = on.exact

            world_is : on.new.world ≡ handed_out u side id it
            world_is = next.1

            new_is : on.new ≡ with_kept k side (handed_out u side id it) []
            new_is = reads_then.1 ∙ ap (λ w. with_kept k side w []) world_is

            none_kept : kept_at on.new side ≡ []
            none_kept = ap (λ m. kept_at m side) new_is ∙ kept_none k side (handed_out u side id it)

            f_keeps : f.kept ≡ []
            f_keeps = sym (ap (λ z. z.kept) (end_set pe side f)) ∙ end_keeps ps on.new first side on.stands none_kept

            then_gone : (settled (caught_up ps on.new side) side id ≡ None) × StandsKeeping ps (with_kept on.new side (given_up (caught_up ps on.new side) side id (Malformed g.why)) []) (with_end first side (giving_up f id g.gives.left))
            then_gone =
                laws.gives_up ps on.new first side id (Malformed g.why) (laws.made setup made) on.stands f j g.gives.left (ap (λ z. read_all z.kept (unkept z)) (end_set pe side f) ∙ reads_none f f_keeps) at alive goes gone

            caught_is : caught_up ps on.new side ≡ handed_out u side id it
            caught_is = ap (λ l. read_deliveries ps on.new.world (other side) l) none_kept ∙ world_is

            kept_is : with_kept on.new side (given_up (caught_up ps on.new side) side id (Malformed g.why)) [] ≡ with_kept k side v []
            kept_is =
                ap (λ w. with_kept on.new side (given_up w side id (Malformed g.why)) []) caught_is ∙ ap (λ m. with_kept m side v []) new_is ∙ kept_twice k side (handed_out u side id it) v

            ends_is : with_end first side (giving_up f id g.gives.left) ≡ with_end pe side (plainly (pulls e id).1)
            ends_is = set_twice pe side f (giving_up f id g.gives.left) ∙ ap (with_end pe side) (sym same)

    real_pull : answered ends (event.Pull side id) ≡ (answer.Pulled (pulls e id).0, with_end ends side (pulls e id).1)
    real_pull = pulled_is ends side (pulls e id)

    real_list : answered ends (event.PullFields side id) ≡ (answer.Listed (listed_pull (fields_behind e.kept e id) (pulls e id).0), with_end ends side (pulls e id).1)
    real_list = listed_is ends side id (pulls e id)

    -- what is answered alike is so of the ends that judge plainly
    plain_pull : (x : Event) (a : Answer) → answered ends x ≡ (a, with_end ends side (pulls e id).1) → answered pe x ≡ (a, with_end pe side (plainly (pulls e id).1)) → IsSendableBy true x → is_out_of_memory (answered ends x).0 ≡ false
        → StepsTo setup k x (answered ends x).0 (answered ends x).1
    plain_pull x a real plain sendable told =
        let same : (answered ends x).0 ≡ (answered pe x).0 = ap (λ z. z.0) real ∙ sym (ap (λ z. z.0) plain) in
        let left : plain_ends (answered ends x).1 ≡ (answered pe x).1 = ap (λ z. plain_ends z.1) real ∙ sets_end ends side (pulls e id).1 ∙ sym (ap (λ z. z.1) plain) in
        let on = plain_step x (answered ends x).0 (plain_ends (answered ends x).1) sendable (subst (λ b. AnswerOf b pe x (answered ends x).0 (plain_ends (answered ends x).1)) (sym told) (same, left)) in
        record { after = on.after; happens = AsPlainly told on.happens; stands = on.stands }

    -- **A pull.**
    pub any_pull : QuietSides setup ends → is_out_of_memory (answered ends (event.Pull side id)).0 ≡ false → is_connection_fault (answered ends (event.Pull side id)).0 ≡ false → StepsTo setup k (event.Pull side id) (answered ends (event.Pull side id)).0 (answered ends (event.Pull side id)).1
    any_pull counts told none = by_pull (laws.pulls e id)
      where
        by_pull : PullPlainly e id → StepsTo setup k (event.Pull side id) (answered ends (event.Pull side id)).0 (answered ends (event.Pull side id)).1
        by_pull (PullAlike same) =
            plain_pull (event.Pull side id) (answer.Pulled (pulls e id).0) real_pull (other_pull ∙ ap (λ z. let x : Answer × Ends = (answer.Pulled z.0, with_end pe side z.1) in x) same) tt told
        by_pull (PullFaults faults) = absurd (let never : true ≡ false = sym faults ∙ sym (ap (λ z. is_connection_fault z.0) real_pull) ∙ none in cc)
        by_pull (PullGone g) =
            let up = gives_stream_up counts g in
            record {
              after = up.new;
              happens = subst (λ z. HappensAnywhere setup k (event.Pull side id) z.0 up.new) (sym real_pull) (GivesMessageUp up.pulls);
              stands = subst (StandsKeeping ps up.new) (sym (ap (λ z. plain_ends z.1) real_pull ∙ sets_end ends side (pulls e id).1)) up.stands;
            }

    -- **And one with lists.**
    pub any_list : QuietSides setup ends → is_out_of_memory (answered ends (event.PullFields side id)).0 ≡ false → is_connection_fault (answered ends (event.PullFields side id)).0 ≡ false
        → StepsTo setup k (event.PullFields side id) (answered ends (event.PullFields side id)).0 (answered ends (event.PullFields side id)).1
    any_list counts told none = by_pull (laws.pulls e id)
      where
        fields : Option (List Field)
        fields = fields_behind e.kept e id

        by_pull : PullPlainly e id → StepsTo setup k (event.PullFields side id) (answered ends (event.PullFields side id)).0 (answered ends (event.PullFields side id)).1
        by_pull (PullAlike same) =
            plain_pull (event.PullFields side id) (answer.Listed (listed_pull fields (pulls e id).0)) real_list
            (other_list ∙ ap (λ z. let x : Answer × Ends = (answer.Listed (listed_pull (fields_behind e.kept (plainly e) id) z.0), with_end pe side z.1) in x) same
            ∙ ap (λ l. let x : Answer × Ends = (answer.Listed l, with_end pe side (plainly (pulls e id).1)) in x) ((laws.does e).lists id)) tt told
        by_pull (PullFaults faults) = absurd (let never : true ≡ false = sym (listed_faults fields (pulls e id).0 faults) ∙ sym (ap (λ z. is_connection_fault z.0) real_list) ∙ none in cc)
        by_pull (PullGone g) =
            let up = gives_stream_up counts g in
            let m = up.pulls in
            let listed : PullsMalformed setup k side id (pull_of (listed_pull fields (pulls e id).0)) up.new =
            record { why = m.why; judges = m.judges; told = ap (λ q. pull_of (listed_pull fields q)) m.told; unsettled = m.unsettled; given_up = m.given_up; kept = m.kept } in
            record {
              after = up.new;
              happens = subst (λ z. HappensAnywhere setup k (event.PullFields side id) z.0 up.new) (sym real_list) (GivesMessageUp listed);
              stands = subst (StandsKeeping ps up.new) (sym (ap (λ z. plain_ends z.1) real_list ∙ sets_end ends side (pulls e id).1)) up.stands;
            }
