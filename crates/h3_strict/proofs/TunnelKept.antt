-- What stands of tunnels stays so whatever is kept, and whichever allocations fail.
use Rattle.std.proofs.Common.{◌≡◌, inl, inr, ℕ, Bool, true, false, List, refl, sym, ap, ◌∙◌, subst, Option, Some, None, nat_lt, if◌then◌else◌}
use Rattle.std.specs.Prelude.{◌==◌, ◌||◌, is_some, unwrap_or}
use Rattle.h3_field.specs.Field.{Field}
use Rattle.h3_messages.specs.declared.content.Content.{Content}
use Rattle.h3_proto.specs.declared.stream.Side.{Side}
use Rattle.h3_proto.specs.declared.stream.Side.TheVariants.{Client, Server}
use Rattle.h3_connection.specs.declared.arrival.Arrival.{Arrival}
use Rattle.h3_connection.specs.Delivering.{incoming_at, with_incoming}
use Rattle.h3_connection.specs.Endpoint.{EndpointHistory, Kind, heads_waiting, kind_of}
use Rattle.h3_connection.specs.Endpoint.Kind.{OwnUnidirectional, PeerUnidirectional, Request, ServerOpened}
use Rattle.h3_connection.specs.Incoming.{Incoming, nothing_came}
use Rattle.h3_connection.specs.Keeping.{is_settled_request, read_arrival, settles, settles_at, unkept}
use Rattle.h3_connection.specs.PartReading.{CountsOn, ReadsPart}
use Rattle.h3_connection.specs.Pulling.{Pulled, pull_stream}
use Rattle.h3_connection.specs.Sections as section
use Rattle.h3_connection.specs.Sending.{advance, if_too_many, pull_at, pull_peer, pull_request, pulled_unidirectional}
use Rattle.h3_connection.specs.StreamSets.{set_stream, stream_at}
use Rattle.h3_connection.specs.Unidirectional.{Unidirectional, pull_unidirectional}
use Rattle.h3_connection.specs.declared.event.Pull.{Pull}
use Rattle.h3_connection.specs.declared.event.StreamFault.{StreamFault}
use Rattle.h3_world.specs.Ends.{Ends, answered, end_at, new_ends, with_end}
use Rattle.h3_world.specs.Headline.{is_connection_fault}
use Rattle.h3_world.specs.Refused.{with_insertions}
use Rattle.h3_world.specs.Setup.{IsMadeSetup, Setup, announced_at}
use Rattle.h3_world.specs.World.{World, empty_world}
use Rattle.h3_world.specs.declared.event.Event.{Event}
use Rattle.h3_headline.specs.Cited.{Laws}
use Rattle.h3_headline.specs.Contents.{KeepsParts}
use Rattle.h3_headline.specs.KeepsPartsLaws.{keeps_same, keeps_with_party}
use Rattle.h3_strict.proofs.KeepsAny.{any_stream, keeps_any, part_keeps}
use Rattle.h3_strict.proofs.KeepsCounts.{KeepsBut, SameCounts, advance_keeps, arrival_keeps, in_set, lost_by, no_stream, same_counts, same_streams, streams_keep}
use Rattle.h3_strict.proofs.LooseRuns.{IsBare, end_bare, event_bare, new_bare, quiet_bare, safely as loose_safely}
use Rattle.h3_strict.proofs.PlainSetups.{setup_plainly}
use Rattle.h3_strict.proofs.PullEvents.{given_up_again, over_again}
use Rattle.h3_strict.proofs.PulledTallies.{pulled_keeps}
use Rattle.h3_strict.proofs.SettledCalm.{settled_calm}
use Rattle.h3_strict.proofs.TunnelFaultless.{PullsSafely, judged_faultless}
use Rattle.h3_strict.proofs.TunnelPull.{LeftAt, changes_at}
use Rattle.h3_strict.proofs.TunnelPulls.{left_marked}
use Rattle.h3_strict.proofs.TunnelQuiet.{keeps_one, only_at}
use Rattle.h3_strict.proofs.TunnelRuns.{event_tunnels, new_tunnels, safely as strict_safely}
use Rattle.h3_strict.proofs.TunnelSees.{Sees, sees_behind}
use Rattle.h3_strict.proofs.TunnelSends.{itself, quiet_tunnels}
use Rattle.h3_strict.specs.HoldsBehind.{HoldsBehind, having_read}
use Rattle.h3_strict.specs.PlainEnds.{plain_setup}
use Rattle.h3_strict.specs.StandsBehind.{StandsBehind}
use Rattle.h3_strict.specs.Tunnels.{StandsSo, Tunnels, marked}
use Rattle.h3_strict.specs.WorldSteps.{KeepsNone, WorldStep}

-- what comes is read, and others are kept
read_keeps : (e : EndpointHistory) (a : Arrival) (kept : List Arrival) → KeepsBut any_stream e (having_read e a kept)
read_keeps e a kept =
    let k = keeps_any (lost_by a) (unkept e) (read_arrival (unkept e) a).0 (arrival_keeps (unkept e) a) in
    record { out = k.out; same = k.same; kept = k.kept; announced = k.announced }

part_of : (e after : EndpointHistory) (arrivals : List Arrival) → ReadsPart (unkept e) arrivals after → KeepsBut any_stream e after
part_of e after arrivals part = let k = part_keeps part in record { out = k.out; same = k.same; kept = k.kept; announced = k.announced }

many_keeps : (b : Bool) (i : Incoming) (p : Pulled) → p.incoming ≡ i → SameCounts i (if_too_many b p).incoming
many_keeps true i p is = subst (λ j. SameCounts j (record p.incoming { waits_for = 0 })) is (record { fault = refl; content = refl; left = refl; response = refl })
many_keeps false i p is = subst (SameCounts i) (sym is) (same_counts i)

-- A pull of a stream that was given up, or is over, leaves what is counted.
settled_pull : (e : EndpointHistory) (id : ℕ) (k : Kind) → settles_at e id k ≡ true → KeepsBut no_stream e (pull_at e id k).1
settled_pull e id Request h = by_stream (stream_at e.incoming id) refl h
  where
    by_stream : (o : Option Incoming) → stream_at e.incoming id ≡ o → is_settled_request o ≡ true → KeepsBut no_stream e (pull_request e id o).1
    by_stream None is h = absurd (cc)
    by_stream (Some i) is h =
        pulled_keeps e id (if_too_many many given) (subst (λ j. SameCounts j (if_too_many many given).incoming) (sym (ap (λ o. unwrap_or o nothing_came) is)) (many_keeps many i given (left i.fault refl i.is_over refl h)))
      where
        given : Pulled
        given = pull_stream e.side e.announced id e.decoding.decoder i

        many : Bool
        many = nat_lt e.announced.limits.blocked (heads_waiting e.decoding.decoder (set_stream e.incoming id (pull_stream e.side e.announced id e.decoding.decoder i).incoming))

        left : (o : Option StreamFault) → i.fault ≡ o → (b : Bool) → i.is_over ≡ b → (is_some o || b) ≡ true → given.incoming ≡ i
        left (Some why) gone b over h = ap (λ (y : Pulled). y.incoming) (given_up_again e.side e.announced id e i why gone)
        left None alive true over h = ap (λ (y : Pulled). y.incoming) (over_again e.side e.announced id e i alive over)
        left None alive false over h = absurd (cc)
settled_pull e id ServerOpened h = streams_keep no_stream e e (same_streams e)
settled_pull e id OwnUnidirectional h = streams_keep no_stream e e (same_streams e)
settled_pull e id PeerUnidirectional h = by_stream (stream_at e.unidirectional id)
  where
    by_told : (x : Pull × Unidirectional) → KeepsBut no_stream e (pulled_unidirectional e id x).1
    by_told (a, o) = streams_keep no_stream e _ (record { incoming = refl; outgoing = refl; announced = refl })

    by_stream : (o : Option Unidirectional) → KeepsBut no_stream e (pull_peer e id o).1
    by_stream None = streams_keep no_stream e e (same_streams e)
    by_stream (Some o) = by_told (pull_unidirectional o o.role)

inserted_keeps : (e : EndpointHistory) (id : ℕ) (fields : List Field) → KeepsBut no_stream e (section.with_insertions e id fields)
inserted_keeps e id fields = streams_keep no_stream e (section.with_insertions e id fields) (record { incoming = refl; outgoing = refl; announced = refl })

-- One end changes, of which some streams may be given up.
module _ (setup : Setup) (w v : World) (ends : Ends) (side : Side) (f : EndpointHistory) (only : ℕ → Bool) (parts : KeepsParts w v) (keeps : KeepsBut only (end_at ends side) f) where
  one_so : (b : Bool) → StandsSo b setup w ends → StandsSo b setup v (with_end ends side f)
  one_so true t = quiet_tunnels setup w v ends (with_end ends side f) (only_at side only) parts (keeps_one side only ends f keeps) t
  one_so false t = quiet_bare setup ends (with_end ends side f) (only_at side only) (keeps_one side only ends f keeps) t

-- or none does
same_so : (setup : Setup) (w v : World) (ends : Ends) → KeepsParts w v → (b : Bool) → StandsSo b setup w ends → StandsSo b setup v ends
same_so setup w v ends parts true t = quiet_tunnels setup w v ends ends (λ side. no_stream) parts (λ side. streams_keep no_stream (end_at ends side) (end_at ends side) (same_streams (end_at ends side))) t
same_so setup w v ends parts false t = t

-- A receiver counts what a payload leaves behind, or the same.
counts_marked : (side : Side) (before after : Content) → CountsOn before after → marked side after ≡ true → marked side before ≡ true
counts_marked side before after (inl same) mark = ap (marked side) (sym same) ∙ mark
counts_marked side before after (inr (size, is)) mark = sym (left_marked side before size) ∙ ap (marked side) (sym is) ∙ mark

-- What is left of a receiver that counts on.
left_so : (w : World) (ends : Ends) (side : Side) (id : ℕ) (old new : Incoming) → stream_at (end_at ends side).incoming id ≡ Some old → new.fault ≡ old.fault → new.response ≡ old.response → CountsOn old.content new.content → Tunnels w ends → LeftAt side w w id new
left_so w ends Client id old new here fault response counts t =
    let is : incoming_at ends.client id ≡ old = ap (λ o. unwrap_or o nothing_came) here in
    λ alive mark. (t id).client (ap (λ (x : Incoming). x.fault) is ∙ sym fault ∙ alive) (ap (λ (x : Incoming). marked Client x.content) is ∙ counts_marked Client old.content new.content counts mark)
left_so w ends Server id old new here fault response counts t =
    let is : incoming_at ends.server id ≡ old = ap (λ o. unwrap_or o nothing_came) here in (
      λ alive mark. (t id).server (ap (λ (x : Incoming). x.fault) is ∙ sym fault ∙ alive) (ap (λ (x : Incoming). marked Server x.content) is ∙ counts_marked Server old.content new.content counts mark),
      λ c known. (t id).knows c (ap (λ (x : Incoming). x.response) is ∙ sym response ∙ known),
    )

same_announced : (ends : Ends) (s d : Side) (x : EndpointHistory) → x.announced ≡ (end_at ends s).announced → (end_at (with_end ends s x) d).announced ≡ (end_at ends d).announced
same_announced ends Client Client x is = is
same_announced ends Client Server x is = refl
same_announced ends Server Client x is = refl
same_announced ends Server Server x is = is

asked_so : (b : Bool) (setup : Setup) (w : World) (ends : Ends) (side : Side) (id : ℕ) (old new : Incoming) → StandsSo b setup w ends → stream_at (end_at ends side).incoming id ≡ Some old → new.fault ≡ old.fault → new.response ≡ old.response
    → CountsOn old.content new.content → StandsSo b setup w (with_end ends side (with_incoming (end_at ends side) id new))
asked_so true setup w ends side id old new t here fault response counts = record {
  tunnels = changes_at side w w ends (with_incoming (end_at ends side) id new) id new
      (record {
        outs = refl;
        here = in_set (end_at ends side).incoming id new id ∙ ap (λ b. if b then new else incoming_at (end_at ends side) id) (itself id);
        there = λ k off. in_set (end_at ends side).incoming id new k ∙ ap (λ b. if b then new else incoming_at (end_at ends side) k) off;
      }) (λ writer k off. refl) refl (left_so w ends side id old new here fault response counts t.tunnels) t.tunnels;
  announced = λ d. same_announced ends side d (with_incoming (end_at ends side) id new) refl ∙ t.announced d;
}
asked_so false setup w ends side id old new t here fault response counts = end_bare setup ends side (with_incoming (end_at ends side) id new) bare refl t
  where
    is : incoming_at (end_at ends side) id ≡ old
    is = ap (λ o. unwrap_or o nothing_came) here

    by_test : (k : ℕ) (b : Bool) → IsBare side (if b then new else incoming_at (end_at ends side) k)
    by_test k true = λ alive mark. t.bare side id (ap (λ (x : Incoming). x.fault) is ∙ sym fault ∙ alive) (ap (λ (x : Incoming). marked side x.content) is ∙ counts_marked side old.content new.content counts mark)
    by_test k false = t.bare side k

    bare : (k : ℕ) → IsBare side (incoming_at (with_incoming (end_at ends side) id new) k)
    bare k = subst (IsBare side) (sym (in_set (end_at ends side).incoming id new k)) (by_test k (id == k))

told_so : (b : Bool) (setup : Setup) (w : World) (ends : Ends) → StandsSo b setup w ends → (side : Side) → (end_at ends side).announced ≡ announced_at setup side
told_so true setup w ends t = t.announced
told_so false setup w ends t = t.announced

new_so : (b : Bool) (setup : Setup) → StandsSo b setup (empty_world (plain_setup setup)) (new_ends setup)
new_so true setup = new_tunnels setup
new_so false setup = new_bare setup

-- **So it holds of ends that judge alike, whatever they keep.**
module _ (laws : Laws) (setup : Setup) (made : IsMadeSetup setup) where
  seen : (w : World) (ends : Ends) → StandsBehind setup w ends → Sees setup w ends
  seen w ends b = sees_behind laws setup (setup_plainly setup made) w ends b

  goes_so : (b : Bool) → ((side : Side) → (announced_at setup side).choices.strict_messages ≡ b) → (w v : World) (ends : Ends) (e : Event) → StandsSo b setup w ends → StandsBehind setup w ends → StandsBehind setup v (answered ends e).1
      → WorldStep setup w e (answered ends e).0 v → KeepsNone ends e → is_connection_fault (answered ends e).0 ≡ false → StandsSo b setup v (answered ends e).1
  goes_so true choice w v ends e t before behind step none faultless = event_tunnels setup choice w ends (seen w ends before) t e v step none faultless (seen v (answered ends e).1 behind)
  goes_so false choice w v ends e t before behind step none faultless = event_bare setup choice w ends (seen w ends before) t e v step none

  safely_so : (b : Bool) → ((side : Side) → (announced_at setup side).choices.strict_messages ≡ b) → (w : World) (ends : Ends) → StandsSo b setup w ends → StandsBehind setup w ends → PullsSafely ends
  safely_so true choice w ends t before side = strict_safely setup choice w ends (seen w ends before) t side
  safely_so false choice w ends t before side = loose_safely setup choice w ends (seen w ends before) t side

  pub holds_behind : (b : Bool) → ((side : Side) → (announced_at setup side).choices.strict_messages ≡ b) → HoldsBehind setup (StandsSo b setup)
  holds_behind b choice = record {
    first = new_so b setup;
    announced = λ w ends t. told_so b setup w ends t;
    goes = λ w v ends e t before behind step none faultless. goes_so b choice w v ends e t before behind step none faultless;
    judged = λ w ends side id t before none judges finds. judged_faultless setup w ends (seen w ends before) (told_so b setup w ends t) (safely_so b choice w ends t before) side id none judges finds;
    settled = λ w ends side id t settles. one_so setup w w ends side (pull_at (end_at ends side) id (kind_of (end_at ends side).side id)).1 no_stream (keeps_same w) (settled_pull (end_at ends side) id (kind_of (end_at ends side).side id) settles) b t;
    calm = λ e id bounded settles. settled_calm e id (kind_of e.side id) bounded.waiting settles;
    reads = λ w ends side a kept t. one_so setup w w ends side (having_read (end_at ends side) a kept) any_stream (keeps_same w) (read_keeps (end_at ends side) a kept) b t;
    reads_part = λ w ends side arrivals after t part. one_so setup w w ends side after any_stream (keeps_same w) (part_of (end_at ends side) after arrivals part) b t;
    hands = λ w ends side id count t. one_so setup w w ends side (advance (end_at ends side) id count) no_stream (keeps_same w) (advance_keeps (end_at ends side) id count) b t;
    asked = λ w ends side id old asked t here fault response counts. asked_so b setup w ends side id old asked t here fault response counts;
    inserts = λ w ends side id fields t. one_so setup w (with_insertions w side id fields) ends side (section.with_insertions (end_at ends side) id fields) no_stream (keeps_with_party w side _) (inserted_keeps (end_at ends side) id fields) b t;
    stays = λ w v ends parts t. same_so setup w v ends parts b t;
  }
