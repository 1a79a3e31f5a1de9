-- What is seen of two ends beside those that stand in a world: of what each sends, and of each stream that it receives.
use Rattle.std.proofs.Common.{◌≡◌, ◌⊎◌, inl, inr, ℕ, ◌*◌, Bool, true, false, List, [], append-nil, length, refl, sym, ap, ◌∙◌, subst, Option, Some, None, take, nat_lt, if◌then◌else◌, arith}
use Rattle.std.proofs.Math.Nat.{div-add-mod}
use Rattle.std.proofs.lemmas.Bool.{le-ltb}
use Rattle.std.specs.Prelude.{◌/◌, ◌&&◌, flat_map, unwrap_or}
use Rattle.std.specs.List.{AllByRecursion, concat}
use Rattle.h3_proto.specs.StreamIds.{is_request_stream}
use Rattle.h3_proto.specs.declared.stream.Side.{Side}
use Rattle.h3_proto.specs.declared.stream.Side.TheVariants.{Client, Server}
use Rattle.h3_qpack.specs.DecoderState.{DecoderState}
use Rattle.h3_frames.specs.ExcessiveFrames.{begins_section, is_excessive_by}
use Rattle.h3_connection.specs.Remembering.{settings_known, settings_or}
use Rattle.h3_connection.specs.Announcing.{connects, section_of}
use Rattle.h3_connection.specs.Coming.{fields_behind, fields_next, fields_of_kind, fields_there}
use Rattle.h3_connection.specs.Endpoint.{EndpointHistory, kind_of}
use Rattle.h3_connection.specs.Incoming.{Incoming, is_body}
use Rattle.h3_connection.specs.Outgoing.{Outgoing, nothing_sent}
use Rattle.h3_connection.specs.OwnIds.{other}
use Rattle.h3_connection.specs.PartReading.{HasNoSection, Resumes}
use Rattle.h3_connection.specs.Pulling.{Pulled, pull_stream}
use Rattle.h3_connection.specs.Sending.{outgoing_at}
use Rattle.h3_connection.specs.Skipping.{skipped}
use Rattle.h3_connection.specs.StreamSets.{stream_at}
use Rattle.h3_connection.specs.StrictConnection.{kinds_of}
use Rattle.h3_connection.specs.StrictSending.{peer_connects}
use Rattle.h3_connection.specs.declared.event.Pull.{Pull}
use Rattle.h3_connection.specs.declared.event.Pull.TheVariants as pull
use Rattle.h3_connection.specs.declared.setup.Announced.{Announced}
use Rattle.h3_world.specs.Came.{insertions_came}
use Rattle.h3_world.specs.Ends.{Ends, end_at}
use Rattle.h3_world.specs.Flow.{Flow, own_part}
use Rattle.h3_world.specs.Order.{is_over, next_part, outgoing_of, section_of_part}
use Rattle.h3_world.specs.Setup.{IsMadeSetup, Setup, announced_at, flags_secrets}
use Rattle.h3_world.specs.Sound.{IsSoundFlow, IsSoundWorld}
use Rattle.h3_world.specs.Streams.{flow, is_open}
use Rattle.h3_world.specs.World.{World, party}
use Rattle.h3_headline.specs.Cited.{Laws}
use Rattle.h3_headline.specs.ComingLaws.{incoming_none, incoming_there, kind_is, sound_flow}
use Rattle.h3_headline.specs.DecodesLaws.{next_readable}
use Rattle.h3_headline.specs.FlowLaws.{open_there}
use Rattle.h3_headline.specs.ListComesLaws.{list_comes}
use Rattle.h3_headline.specs.PulledStreamLaws.{stream_comes}
use Rattle.h3_headline.specs.Pulling.{ComesTo, HandsOut, Pauses}
use Rattle.h3_headline.specs.Pulls.{IsListOf}
use Rattle.h3_headline.specs.SendingLaws.{both_of}
use Rattle.h3_headline.specs.SessionDecoderLaws.{endpoint_decodes, insertions_read}
use Rattle.h3_headline.specs.Standing.{IsReadableBy, ReceivesFlow, StandsAt, are_settings_there, place_after, with_meaning}
use Rattle.h3_strict.proofs.BehindPulls.{part_pauses, pauses}
use Rattle.h3_strict.proofs.PlainSetups.{any_protocols, judges_plainly}
use Rattle.h3_strict.proofs.SentTallies.{connects_known, plain_settings}
use Rattle.h3_strict.proofs.TunnelLimits.{flow_sections, none_left}
use Rattle.h3_strict.proofs.TunnelStreams.{Along}
use Rattle.h3_strict.specs.PlainEnds.{plain_setup}
use Rattle.h3_strict.specs.Plainly.{plain, plain_incoming}
use Rattle.h3_strict.specs.StandsBehind.{GoesOnAt, StandsBehind}

-- One stream that is received.
pub record SeenStream (setup : Setup) (w : World) (side : Side) (id : ℕ) (r : DecoderState) (i : Incoming) : Type 0 where
  pub opened : is_open w side id ≡ true
  pub lost : i.fault ≡ (flow w (other side) id).fault
  pub over : i.is_over ≡ is_over (flow w (other side) id)
  pub place : (flow w (other side) id).fault ≡ None → i.place ≡ place_after (take (flow w (other side) id).parts_out (flow w (other side) id).sent)
  pub along : (flow w (other side) id).fault ≡ None → is_over (flow w (other side) id) ≡ false → Along side (announced_at setup side) id r (insertions_came (party w (other side))) (flow w (other side) id) i

pub record Sees (setup : Setup) (w : World) (ends : Ends) : Type 0 where
  pub side_is : (side : Side) → (end_at ends side).side ≡ side
  pub closed : (side : Side) → (end_at ends side).closed ≡ None
  pub sound : IsSoundWorld (plain_setup setup) w
  pub readable : (side : Side) (id : ℕ) → AllByRecursion (IsReadableBy true side) (flow w (other side) id).sent
  pub parts : (side : Side) (id : ℕ) → is_open w side id ≡ true → (outgoing_at (end_at ends side) id).parts ≡ flat_map own_part (flow w side id).sent
  pub connect : (side : Side) → peer_connects (settings_known (end_at ends side).announced (end_at ends side).peer.settings) ≡ true → connects (announced_at setup (other side)) ≡ true
  pub streams : (side : Side) (id : ℕ) (i : Incoming) → stream_at (end_at ends side).incoming id ≡ Some i → SeenStream setup w side id (end_at ends side).decoding.decoder i
  pub there : (side : Side) (id : ℕ) → is_open w side id ≡ true → (i : Incoming) × (stream_at (end_at ends side).incoming id ≡ Some i)
  pub unopened : is_open w Client ends.client.next_id ≡ false

plain_at : (setup : Setup) (side : Side) → announced_at (plain_setup setup) side ≡ plain (announced_at setup side)
plain_at setup Client = refl
plain_at setup Server = refl

-- an end that tells its caller to wait decoded no section
waits_without : (x : Pull) → pauses x ≡ true → HasNoSection x
waits_without pull.Pending h = tt
waits_without (pull.Waiting count) h = tt
waits_without x h = absurd (cc)

module _ (laws : Laws) (setup : Setup) (made : IsMadeSetup (plain_setup setup)) (w : World) (ends : Ends) (b : StandsBehind setup w ends) where
  at : (side : Side) → StandsAt (plain_setup setup) w side (end_at b.behind side)
  at Client = b.stands.at_client
  at Server = b.stands.at_server

  -- a stream of the end behind is open, and stands in the world
  behind_there : (side : Side) (id : ℕ) (j : Incoming) → stream_at (end_at b.behind side).incoming id ≡ Some j → (is_open w side id ≡ true) × ReceivesFlow (flow w (other side) id) j
  behind_there side id j here = by_open (is_open w side id) refl
    where
      by_open : (b : Bool) → is_open w side id ≡ b → (is_open w side id ≡ true) × ReceivesFlow (flow w (other side) id) j
      by_open false k = absurd (let never : None ≡ Some j = sym (incoming_none (plain_setup setup) w side id (end_at b.behind side) (at side) k) ∙ here in cc)
      by_open true k =
          let there = incoming_there (plain_setup setup) w side id (end_at b.behind side) (at side) k in
          (k, subst (ReceivesFlow (flow w (other side) id)) (ap (λ o. unwrap_or o j) (sym there.1 ∙ here)) there.2)

  -- One stream, beside that of the end behind.
  module _ (side : Side) (id : ℕ) (j i : Incoming) (opened : is_open w side id ≡ true) (same : ReceivesFlow (flow w (other side) id) j) (here : stream_at (end_at b.behind side).incoming id ≡ Some j)
      (goes : Resumes side (plain (announced_at setup side)) id j (plain_incoming i)) where
    abbrev own : Announced
    own = announced_at setup side

    abbrev f : Flow
    f = flow w (other side) id

    abbrev r : DecoderState
    r = (end_at ends side).decoding.decoder

    abbrev before : EndpointHistory
    before = end_at b.behind side

    lost_is : i.fault ≡ (flow w (other side) id).fault
    lost_is = ap (λ (x : Incoming). x.fault) goes.same ∙ same.fault

    over_is : i.is_over ≡ is_over (flow w (other side) id)
    over_is = ap (λ (x : Incoming). x.is_over) goes.same ∙ same.is_over

    place_same : i.place ≡ j.place
    place_same = ap (λ (x : Incoming). x.place) goes.same

    sound_is : IsSoundFlow (party w (other side)) (flow w (other side) id)
    sound_is = sound_flow (plain_setup setup) w (other side) id b.stands.sound (open_there w side id opened)

    -- what the pull of the end behind comes to
    comes_behind : (flow w (other side) id).fault ≡ None → is_over (flow w (other side) id) ≡ false
        → ComesTo (section_of (announced_at (plain_setup setup) side)) id (flow w (other side) id) (insertions_came (party w (other side))) (next_part (flow w (other side) id)) (pull_stream side (announced_at (plain_setup setup) side) id (end_at b.behind side).decoding.decoder j)
    comes_behind alive more =
        let two = both_of (plain_setup setup) w side b.behind b.stands in
        stream_comes laws.lists side (announced_at (plain_setup setup) side) id (end_at b.behind side).decoding.decoder (insertions_came (party w (other side))) (judges_plainly setup side) (party w (other side)) (flow w (other side) id) j
        sound_is same alive more (insertions_read (plain_setup setup) w side (end_at b.behind side) (at side))
        (endpoint_decodes laws.streams laws.lists (plain_setup setup) w side id (end_at b.behind side) made (at side) b.stands.sound opened alive)
        (next_readable laws.lists side (announced_at (plain_setup setup) side) id (insertions_came (party w (other side))) (end_at b.behind side).decoding.decoder (flow w (other side) id) (two.sends_there id))

    pulled_is : pull_stream side (announced_at (plain_setup setup) side) id (end_at b.behind side).decoding.decoder j ≡ pull_stream side (plain (announced_at setup side)) id (end_at ends side).decoding.decoder (plain_incoming i)
    pulled_is =
        ap (λ a. pull_stream side a id (end_at b.behind side).decoding.decoder j) (plain_at setup side)
        ∙ ap (λ d. pull_stream side (plain (announced_at setup side)) id d j) (sym (b.decoder side))
        ∙ goes.pulls (end_at ends side).decoding.decoder [] false

    comes_here : (flow w (other side) id).fault ≡ None → is_over (flow w (other side) id) ≡ false
        → ComesTo (section_of (announced_at (plain_setup setup) side)) id (flow w (other side) id) (insertions_came (party w (other side))) (next_part (flow w (other side) id))
        (pull_stream side (plain (announced_at setup side)) id (end_at ends side).decoding.decoder (plain_incoming i))
    comes_here alive more =
        subst (ComesTo (section_of (announced_at (plain_setup setup) side)) id (flow w (other side) id) (insertions_came (party w (other side))) (next_part (flow w (other side) id))) pulled_is (comes_behind alive more)

    -- the list that comes next
    abbrev guards_of : Bool
    guards_of = flags_secrets (announced_at (plain_setup setup) (other side))

    list_behind : fields_behind (end_at b.behind side).kept (end_at b.behind side) id ≡ fields_next (plain (announced_at setup side)) (end_at ends side).decoding.decoder j
    list_behind =
        let e = end_at b.behind side in
        ap (λ k. fields_behind k e id) (at side).nothing_kept
        ∙ ap (λ s. fields_of_kind e id (kind_of s id)) (at side).side_is
        ∙ ap (fields_of_kind e id) (kind_is side id (open_there w side id opened).request)
        ∙ ap (fields_there e.announced e.decoding.decoder) here
        ∙ ap (λ a. fields_next a e.decoding.decoder j) ((at side).announced ∙ plain_at setup side)
        ∙ ap (λ d. fields_next (plain (announced_at setup side)) d j) (sym (b.decoder side))

    lists_here : (flow w (other side) id).fault ≡ None → is_over (flow w (other side) id) ≡ false
        → HasNoSection (pull_stream side (plain (announced_at setup side)) id (end_at ends side).decoding.decoder (plain_incoming i)).answer
        ⊎ IsListOf (flags_secrets (announced_at (plain_setup setup) (other side))) (fields_next (plain (announced_at setup side)) (end_at ends side).decoding.decoder (plain_incoming i)) (section_of_part (next_part (flow w (other side) id)))
    lists_here alive more = by_comes (comes_here alive more) (goes.lists (end_at ends side).decoding.decoder [] false)
      where
        x : Pulled
        x = pull_stream side (plain (announced_at setup side)) id (end_at ends side).decoding.decoder (plain_incoming i)

        Lists : Type 0
        Lists = HasNoSection (pull_stream side (plain (announced_at setup side)) id (end_at ends side).decoding.decoder (plain_incoming i)).answer
            ⊎ IsListOf (flags_secrets (announced_at (plain_setup setup) (other side))) (fields_next (plain (announced_at setup side)) (end_at ends side).decoding.decoder (plain_incoming i)) (section_of_part (next_part (flow w (other side) id)))

        by_comes : ComesTo (section_of (announced_at (plain_setup setup) side)) id (flow w (other side) id) (insertions_came (party w (other side))) (next_part (flow w (other side) id))
            (pull_stream side (plain (announced_at setup side)) id (end_at ends side).decoding.decoder (plain_incoming i))
            → HasNoSection (pull_stream side (plain (announced_at setup side)) id (end_at ends side).decoding.decoder j).answer
            ⊎ (fields_next (plain (announced_at setup side)) (end_at ends side).decoding.decoder (plain_incoming i) ≡ fields_next (plain (announced_at setup side)) (end_at ends side).decoding.decoder j) → Lists
        by_comes (Pauses y pause is replies keeps) found = inl (subst HasNoSection (sym is) (waits_without y (part_pauses (flow w (other side) id) (insertions_came (party w (other side))) (next_part (flow w (other side) id)) y pause)))
        by_comes (HandsOut it none come is replies keeps) (inl without) =
            inl (subst (λ (p : Pulled). HasNoSection p.answer) (goes.pulls (end_at ends side).decoding.decoder [] false) without)
        by_comes (HandsOut it none come is replies keeps) (inr alike) =
            inr (subst (λ l. IsListOf (flags_secrets (announced_at (plain_setup setup) (other side))) l (section_of_part (next_part (flow w (other side) id)))) (list_behind ∙ sym alike)
            (list_comes laws (plain_setup setup) w side id (end_at b.behind side) made (at side) b.stands.sound opened alive more none))

    -- what stands next and is too long is a section
    sections_here : (flow w (other side) id).fault ≡ None → i.section ≡ None → nat_lt 0 i.body_left ≡ false
        → is_excessive_by (kinds_of (announced_at setup side)) (announced_at setup side).choices.unfinished_limit (skipped (kinds_of (announced_at setup side)) (is_body i.place) (concat i.unread)) ≡ true
        → begins_section (skipped (kinds_of (announced_at setup side)) (is_body i.place) (concat i.unread)) ≡ true
    sections_here alive none whole long =
        let kinds = kinds_of (announced_at setup side) in
        let next = goes.next (none, none_left i.body_left whole) in
        let bytes_are : skipped kinds (is_body i.place) (concat i.unread) ≡ skipped kinds (is_body j.place) (concat j.unread) =
        ap (λ q. skipped kinds (is_body q) (concat i.unread)) place_same ∙ ap (skipped kinds (is_body j.place)) (sym (append-nil (concat i.unread))) ∙ next.1 [] ∙ ap (skipped kinds (is_body j.place)) (append-nil (concat j.unread)) in
        ap begins_section bytes_are
        ∙ flow_sections (announced_at setup side).choices.unfinished_limit kinds (party w (other side)) (flow w (other side) id) j sound_is same (same.fault ∙ alive) next.0.0 (ap (nat_lt 0) next.0.1)
        (ap (is_excessive_by (kinds_of (announced_at setup side)) (announced_at setup side).choices.unfinished_limit) (sym bytes_are) ∙ long)

    seen_stream : SeenStream setup w side id (end_at ends side).decoding.decoder i
    seen_stream = record {
      opened = opened;
      lost = lost_is;
      over = over_is;
      place = λ alive. place_same ∙ (same.reads alive).place;
      along = λ alive more. record {
        fault = lost_is ∙ alive;
        goes_on = over_is ∙ more;
        place = place_same ∙ (same.reads alive).place;
        most = section_of (announced_at (plain_setup setup) side);
        comes = comes_here alive more;
        guards = flags_secrets (announced_at (plain_setup setup) (other side));
        lists = lists_here alive more;
        sections = sections_here alive;
      };
    }

  stream_seen : (side : Side) (id : ℕ) (i : Incoming) → stream_at (end_at ends side).incoming id ≡ Some i → SeenStream setup w side id (end_at ends side).decoding.decoder i
  stream_seen side id i here = by_behind (stream_at (end_at b.behind side).incoming id) refl (subst (GoesOnAt side (announced_at setup side) id (stream_at (end_at b.behind side).incoming id)) here (b.received side id))
    where
      by_behind : (o : Option Incoming) → stream_at (end_at b.behind side).incoming id ≡ o → GoesOnAt side (announced_at setup side) id o (Some i) → SeenStream setup w side id (end_at ends side).decoding.decoder i
      by_behind None e goes = absurd goes
      by_behind (Some j) e goes = let there = behind_there side id j e in seen_stream side id j i there.0 there.1 e goes

  there_seen : (side : Side) (id : ℕ) → is_open w side id ≡ true → (i : Incoming) × (stream_at (end_at ends side).incoming id ≡ Some i)
  there_seen side id opened =
      let there = incoming_there (plain_setup setup) w side id (end_at b.behind side) (at side) opened in
      by_here there.0 (stream_at (end_at ends side).incoming id) refl (subst (λ o. GoesOnAt side (announced_at setup side) id o (stream_at (end_at ends side).incoming id)) there.1 (b.received side id))
    where
      by_here : (j : Incoming) → (o : Option Incoming) → stream_at (end_at ends side).incoming id ≡ o → GoesOnAt side (announced_at setup side) id (Some j) (stream_at (end_at ends side).incoming id)
          → (i : Incoming) × (stream_at (end_at ends side).incoming id ≡ Some i)
      by_here j None e goes = absurd (subst (GoesOnAt side (announced_at setup side) id (Some j)) e goes)
      by_here j (Some i) e goes = (i, e)

  parts_seen : (side : Side) (id : ℕ) → is_open w side id ≡ true → (outgoing_at (end_at ends side) id).parts ≡ flat_map own_part (flow w side id).sent
  parts_seen side id opened =
      b.sent side id
      ∙ ap (λ (o : Outgoing). o.parts) (ap (λ o. unwrap_or o nothing_sent) ((at side).outgoing id ∙ ap (λ c. if c then Some (outgoing_of (flow w side id)) else None) opened))

  connect_seen : (side : Side) → peer_connects (settings_known (end_at ends side).announced (end_at ends side).peer.settings) ≡ true → connects (announced_at setup (other side)) ≡ true
  connect_seen side known =
      let there = are_settings_there (plain_setup setup) (other side) (party w (other side)).own.control_taken in
      connects_known (announced_at setup (other side)) (settings_known (end_at ends side).announced (end_at ends side).peer.settings) there
      (ap (λ r. settings_or r (end_at ends side).peer.settings) (b.remembered side) ∙ b.settings side ∙ (at side).control.settings ∙ ap (λ (l : List (ℕ × ℕ)). if there then Some (with_meaning l) else None) (plain_settings setup (other side))) known

  unopened_seen : is_open w Client ends.client.next_id ≡ false
  unopened_seen =
      let n = length w.exchanges in
      let place : (4 * n) / 4 ≡ n = omega (arith, div-add-mod (4 * n) 4) in
      ap (is_open w Client) (b.next_id ∙ b.stands.next_id) ∙ ap (λ m. is_request_stream (4 * n) && nat_lt m n) place ∙ ap (λ c. is_request_stream (4 * n) && c) (le-ltb n n (omega arith)) ∙ second (is_request_stream (4 * n))
    where
      second : (c : Bool) → (c && false) ≡ false
      second true = refl
      second false = refl

  readable_seen : (side : Side) (id : ℕ) → AllByRecursion (IsReadableBy true side) (flow w (other side) id).sent
  readable_seen side id = subst (λ any. AllByRecursion (IsReadableBy any side) (flow w (other side) id).sent) (any_protocols setup side) ((both_of (plain_setup setup) w side b.behind b.stands).sends_there id)

  -- **What is seen of both.**
  pub sees_behind : Sees setup w ends
  sees_behind = record {
    side_is = b.side_is;
    closed = b.closed;
    sound = b.stands.sound;
    readable = readable_seen;
    parts = parts_seen;
    connect = connect_seen;
    streams = stream_seen;
    there = there_seen;
    unopened = unopened_seen;
  }
