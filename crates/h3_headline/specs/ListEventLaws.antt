-- A pull with lists: both ends answer as the world allows, and both stand in the world after it, as after the pull.
use Rattle.std.proofs.Common.{◌≡◌, ℕ, Bool, true, false, List, refl, sym, ap, ◌∙◌, subst, Option, Some, None, if◌then◌else◌}
use Rattle.std.specs.Prelude.{IfSome, MatchOption, not, option_map, ◌==◌, ◌%◌}
use Rattle.h3_field.specs.Field.{Field}
use Rattle.h3_proto.specs.StreamIds.{is_request_stream}
use Rattle.h3_proto.specs.declared.stream.Side.{Side}
use Rattle.h3_connection.specs.Announcing.{section_of}
use Rattle.h3_connection.specs.Endpoint.{EndpointHistory}
use Rattle.h3_connection.specs.Keeping.{pulls}
use Rattle.h3_connection.specs.OwnIds.{control_id, other}
use Rattle.h3_connection.specs.Pulling.{is_client}
use Rattle.h3_connection.specs.declared.event.Item.{Item}
use Rattle.h3_connection.specs.declared.event.Item.TheVariants as item
use Rattle.h3_connection.specs.declared.event.Pull.{Pull}
use Rattle.h3_connection.specs.declared.event.Pull.TheVariants as pull
use Rattle.h3_connection.specs.declared.event.StreamFault.{StreamFault}
use Rattle.h3_world.specs.declared.event.Answer.{Answer}
use Rattle.h3_world.specs.declared.event.Answer.TheVariants as answer
use Rattle.h3_world.specs.declared.event.Event.TheVariants as event
use Rattle.h3_world.specs.Came.{insertions_came}
use Rattle.h3_connection.specs.Coming.{fields_behind}
use Rattle.h3_world.specs.Ends.{Ends, answered, end_at, was_listed, was_pulled, with_end}
use Rattle.h3_world.specs.Flow.{Flow, Part, Section}
use Rattle.h3_world.specs.Flow.Part.{Interim, Head, Body, Trailer, End}
use Rattle.h3_world.specs.Headline.{Happens}
use Rattle.h3_world.specs.Items.{HasCome}
use Rattle.h3_world.specs.ListLaws.{listed_happens}
use Rattle.h3_world.specs.Lists.{as_flagged}
use Rattle.h3_world.specs.Order.{is_over, next_part, section_of_part}
use Rattle.h3_world.specs.Pauses.{pause_before, pause_of}
use Rattle.h3_world.specs.Pulling.{PausesExactly, Pulls, PullsNext, fault_or, list_next, own_delivered, settled}
use Rattle.h3_connection.specs.Coming.{HasNoHeader}
use Rattle.h3_connection.specs.Lists.{listed_pull}
use Rattle.h3_world.specs.Setup.{IsMadeSetup, JudgesPlainly, Setup, announced_at, flags_secrets}
use Rattle.h3_world.specs.Sound.{IsSoundWorld}
use Rattle.h3_world.specs.Streams.{flow, is_open}
use Rattle.h3_world.specs.World.{World, party}
use Rattle.h3_headline.specs.Cited.{Laws}
use Rattle.h3_headline.specs.ListComesLaws.{list_comes}
use Rattle.h3_headline.specs.PullEventLaws.{pull_on}
use Rattle.h3_headline.specs.Pulls.{IsListOf}
use Rattle.h3_headline.specs.SendingLaws.{both_of}
use Rattle.h3_headline.specs.SettledLaws.{settled_none}
use Rattle.h3_headline.specs.Standing.{Stands, StandsAt}
use Rattle.h3_headline.specs.Steps.{StandsOn}

-- The list does not matter where there is no header.
pub any_list : (some more : Option (List Field)) (p : Pull) → HasNoHeader p → listed_pull some p ≡ listed_pull more p
any_list some more (pull.Item (item.Interim head)) h = absurd h
any_list some more (pull.Item (item.Head head)) h = absurd h
any_list some more (pull.Item (item.Trailer head)) h = absurd h
any_list some more (pull.Item (item.Body bytes)) h = refl
any_list some more (pull.Item (item.TooLarge size)) h = refl
any_list some more (pull.Item (item.Session id)) h = refl
any_list some more (pull.Item (item.Raw bytes)) h = refl
any_list some more (pull.Item item.End) h = refl
any_list some more pull.Pending h = refl
any_list some more (pull.Waiting count) h = refl
any_list some more (pull.Fault fault) h = refl
any_list some more pull.NoMessages h = refl

-- an answer that is settled has none
pub settled_plain : (w : World) (side : Side) (id : ℕ) → IfSome (settled w side id) HasNoHeader
settled_plain w side id = by_tests (id % 4 == control_id (other side)) (not (is_request_stream id)) (is_open w side id) (flow w (other side) id).fault (is_over (flow w (other side) id)) (own_delivered w (other side) id == 0) (is_client side)
  where
    by_tests : (a b c : Bool) (o : Option StreamFault) (d e g : Bool)
        → IfSome (if a then Some (if e then pull.Pending else pull.NoMessages) else (if b then Some pull.NoMessages else (
        if not c then Some (if g then pull.NoMessages else pull.Pending) else fault_or o (if d then Some (pull.Item item.End) else None)))) HasNoHeader
    by_tests true b c o d true g = tt
    by_tests true b c o d false g = tt
    by_tests false true c o d e g = tt
    by_tests false false false o d e true = tt
    by_tests false false false o d e false = tt
    by_tests false false true (Some fault) d e g = tt
    by_tests false false true None true e g = tt
    by_tests false false true None false e g = tt

-- a stream on which nothing is settled was not given up
not_given_up : (w : World) (side : Side) (id : ℕ) → settled w side id ≡ None → (flow w (other side) id).fault ≡ None
not_given_up w side id e = by_tests (id % 4 == control_id (other side)) (not (is_request_stream id)) (is_open w side id) (flow w (other side) id).fault _ _ _ e
  where
    by_tests : (a b c : Bool) (o : Option StreamFault) (x y : Pull) (z : Option Pull)
        → ◌≡◌ {A = Option Pull} (if a then Some x else (if b then Some pull.NoMessages else (if not c then Some y else fault_or o z))) None → o ≡ None
    by_tests true b c o x y z e = cc
    by_tests false true c o x y z e = cc
    by_tests false false false o x y z e = cc
    by_tests false false true None x y z e = refl
    by_tests false false true (Some fault) x y z e = cc

-- **The answer with the list that comes next is that with the list that is next in the world.**
pub same_lists : (laws : Laws) (setup : Setup) (w new : World) (side : Side) (id : ℕ) (e : EndpointHistory) (p : Pull) → IsMadeSetup setup → StandsAt setup w side e → IsSoundWorld setup w → Pulls setup w side id p new
    → PausesExactly w side id p → listed_pull (fields_behind e.kept e id) p ≡ listed_pull (list_next setup w side id) p
same_lists laws setup w new side id e p made h sound pulls exact = by_settled (settled w side id) refl (settled_plain w side id) pulls exact
  where
    f : Flow
    f = flow w (other side) id

    guards : Bool
    guards = flags_secrets (announced_at setup (other side))

    here : Option (List Field)
    here = fields_behind e.kept e id

    there : Option (List Field)
    there = list_next setup w side id

    of_section : (o : Option Section) (s : Section) (p : Pull) → section_of_part (next_part f) ≡ Some s → IsListOf guards here (section_of_part (next_part f)) → listed_pull here p ≡ listed_pull there p
    of_section o s p is comes =
        ap (λ x. listed_pull x p) (subst (IsListOf guards here) is comes ∙ sym (ap (option_map (λ (x : Section). as_flagged guards x.fields)) is))

    by_part : (o : Option Part) (i : Item) → next_part f ≡ o → HasCome (section_of (announced_at setup side)) f o i → IsListOf guards here (section_of_part (next_part f)) → listed_pull here (pull.Item i) ≡ listed_pull there (pull.Item i)
    by_part None i next has comes = absurd has
    by_part (Some (Interim s)) i next has comes = of_section None s (pull.Item i) (ap section_of_part next) comes
    by_part (Some (Head s)) i next has comes = of_section None s (pull.Item i) (ap section_of_part next) comes
    by_part (Some (Trailer s)) i next has comes = of_section None s (pull.Item i) (ap section_of_part next) comes
    by_part (Some (Body bytes own)) i next has comes = subst (λ x. listed_pull here (pull.Item x) ≡ listed_pull there (pull.Item x)) (sym has.3) refl
    by_part (Some End) i next has comes = subst (λ x. listed_pull here (pull.Item x) ≡ listed_pull there (pull.Item x)) (sym has.1) refl

    by_pull : (p : Pull) → settled w side id ≡ None → PullsNext setup w side id p new → pause_of p ≡ pause_before f (insertions_came (party w (other side))) (next_part f) → listed_pull here p ≡ listed_pull there p
    by_pull (pull.Item i) unsettled next exact =
        let looks = settled_none w side id unsettled in
        by_part (next_part f) i refl next.0 (list_comes laws setup w side id e made h sound looks.is_there (not_given_up w side id unsettled) looks.not_over (sym exact))
    by_pull pull.Pending unsettled next exact = refl
    by_pull (pull.Waiting count) unsettled next exact = refl
    by_pull (pull.Fault fault) unsettled next exact = refl
    by_pull pull.NoMessages unsettled next exact = refl

    by_settled : (o : Option Pull) → settled w side id ≡ o → IfSome o HasNoHeader → MatchOption o (PullsNext setup w side id p new) (λ answer. (p ≡ answer) × (new ≡ w))
        → MatchOption o (pause_of p ≡ pause_before f (insertions_came (party w (other side))) (next_part f)) (λ answer. Unit {0}) → listed_pull here p ≡ listed_pull there p
    by_settled None is none next exact = by_pull p is next exact
    by_settled (Some q) is none next exact = any_list here there p (subst HasNoHeader (sym next.0) none)

-- **A pull with lists.**
pub listed_on : (laws : Laws) (setup : Setup) (w : World) (ends : Ends) (side : Side) (id : ℕ) → IsMadeSetup setup → JudgesPlainly setup → Stands setup w ends → StandsOn setup w ends (event.PullFields side id)
listed_on laws setup w ends side id made plain h = by_pulls (pulls (end_at ends side) id) refl (pull_on laws setup w ends side id made plain h)
  where
    e : EndpointHistory
    e = end_at ends side

    by_pulls : (x : Pull × EndpointHistory) → pulls e id ≡ x → StandsOn setup w ends (event.Pull side id) → StandsOn setup w ends (event.PullFields side id)
    by_pulls (p, after) is on =
        let given : answered ends (event.Pull side id) ≡ (answer.Pulled p, with_end ends side after) = ap (was_pulled ends side) is in
        let happens : Happens setup w (event.Pull side id) (answer.Pulled p) on.new = subst (λ (x : Answer × Ends). Happens setup w (event.Pull side id) x.0 on.new) given on.happens in
        let stands : Stands setup on.new (with_end ends side after) = subst (λ (x : Answer × Ends). Stands setup on.new x.1) given on.stands in
        let same = same_lists laws setup w on.new side id e p made (both_of setup w side ends h).here h.sound happens.step happens.exact in
        let told : answered ends (event.PullFields side id) ≡ (answer.Listed (listed_pull (list_next setup w side id) p), with_end ends side after) =
        ap (was_listed ends side id) is ∙ ap (λ l. (answer.Listed l, with_end ends side after)) same in
        record {
          new = on.new;
          happens = subst (λ (x : Answer × Ends). Happens setup w (event.PullFields side id) x.0 on.new) (sym told) (listed_happens setup w on.new side id p happens);
          stands = subst (λ (x : Answer × Ends). Stands setup on.new x.1) (sym told) stands;
        }
