-- Which list comes next at an endpoint: that of the next part, once a pull hands it out.
use Rattle.std.proofs.Common.{◌≡◌, ℕ, zero, suc, ◌+◌, ◌≤◌, Bool, true, false, List, ◌++◌, length, drop, flat_map, refl, sym, ap, ◌∙◌, subst, arith, nat_lt, if◌then◌else◌, Option, Some, None}
use Rattle.std.specs.List.{concat}
use Rattle.std.specs.Prelude.{nat_le}
use Rattle.std.proofs.lemmas.Grind.{common_steps}
use Rattle.h3_qpack.specs.DecodedSection.{Fields, Missing, decode_section}
use Rattle.h3_qpack.specs.DecoderState.{DecoderState}
use Rattle.h3_frames.specs.Encoded.{frame_encoding}
use Rattle.h3_frames.specs.EncodedLaws.{written_headers}
use Rattle.h3_frames.specs.Frames.{Whole, frame_by}
use Rattle.h3_frames.specs.declared.proto.frame.Frame.TheVariants as frame
use Rattle.h3_proto.specs.declared.stream.Side.{Side}
use Rattle.h3_connection.specs.Endpoint.{EndpointHistory, kind_of}
use Rattle.h3_connection.specs.Incoming.{Incoming, is_body}
use Rattle.h3_connection.specs.OwnIds.{other}
use Rattle.h3_connection.specs.StreamSets.{stream_at}
use Rattle.h3_connection.specs.declared.event.Pull.{Pull}
use Rattle.h3_connection.specs.declared.event.Pull.TheVariants as pull
use Rattle.h3_world.specs.Came.{insertions_came}
use Rattle.h3_connection.specs.Coming.{decoded_fields, fields_behind, fields_in, fields_next, fields_of_kind, fields_there, next_section, section_in}
use Rattle.h3_world.specs.Flow.{Flow, Part, Section, flow_bytes, part_bytes}
use Rattle.h3_world.specs.Flow.Part.{Interim, Head, Body, Trailer, End}
use Rattle.h3_world.specs.Lists.{as_flagged}
use Rattle.h3_world.specs.Order.{is_over, next_part, section_of_part}
use Rattle.h3_world.specs.Pauses.{pause_before, section_pause}
use Rattle.h3_world.specs.Setup.{IsMadeSetup, Setup, announced_at, flags_secrets}
use Rattle.h3_world.specs.Sound.{IsSentSection, IsSoundFlow, IsSoundWorld}
use Rattle.h3_world.specs.Streams.{flow, is_open}
use Rattle.h3_world.specs.World.{Party, World, party}
use Rattle.h3_headline.specs.Cited.{Laws}
use Rattle.h3_headline.specs.ComingLaws.{incoming_there, kind_is, sound_flow}
use Rattle.h3_headline.specs.FlowLaws.{open_there}
use Rattle.h3_headline.specs.FrontLaws.{long_front, skipped_whole}
use Rattle.h3_headline.specs.PartLaws.{part_at}
use Rattle.h3_headline.specs.Parts.{IsPartAt}
use Rattle.h3_headline.specs.PulledFlowLaws.{came_is}
use Rattle.h3_headline.specs.Pulling.{DecodesNextAs, IsBefore, before_bytes, tried_as}
use Rattle.h3_headline.specs.Pulls.{IsListOf}
use Rattle.h3_headline.specs.SessionDecoderLaws.{endpoint_decodes_as}
use Rattle.h3_headline.specs.Standing.{ReadsFlow, ReceivesFlow, StandsAt, StandsBefore, WaitsIn, section_frame}
use Rattle.h3_connection.specs.StrictConnection.{kinds_of}
use Rattle.h3_connection.specs.declared.setup.Announced.{Announced}

-- a section that comes out came whole, and its insertions did
no_pause_own : (f : Flow) (came : ℕ) (s : Section) → section_pause f came s ≡ None → (s.own_length ≤ f.delivered) × (nat_le s.count came ≡ true)
no_pause_own f came s e = by_tests (nat_lt f.delivered s.own_length) refl (nat_lt came s.count) refl e
  where
    at_most : (a b : ℕ) → nat_lt a b ≡ false → b ≤ a
    at_most a b h = grind (arith, common_steps, h)

    within : (a b : ℕ) → nat_lt a b ≡ false → nat_le b a ≡ true
    within a b h = grind (arith, common_steps, h)

    by_tests : (a : Bool) → nat_lt f.delivered s.own_length ≡ a → (b : Bool) → nat_lt came s.count ≡ b
        → ◌≡◌ {A = Option Pull} (if a then Some pull.Pending else (if b then Some (pull.Waiting s.count) else None)) None → (s.own_length ≤ f.delivered) × (nat_le s.count came ≡ true)
    by_tests true t b u e = cc
    by_tests false t true u e = cc
    by_tests false t false u e = (at_most f.delivered s.own_length t, within came s.count u)

-- its frame is the next one
section_frame_next : (a : Announced) (p : Party) (f : Flow) (part : Part) (s : Section) (i : Incoming) → IsBefore p f i → IsPartAt p f.sent f.parts_out part → part_bytes part ≡ frame_encoding 1 s.encoded
    → IsSentSection p s → s.own_length ≡ before_bytes f + length (part_bytes part) → s.own_length ≤ f.delivered → next_section a i i.section ≡ Some s.encoded
section_frame_next a p f part s i h at bytes sent own came =
    let rest = flat_map part_bytes (drop (f.parts_out + 1) f.sent) in
    let left = drop (length (frame_encoding 1 s.encoded)) (concat i.unread) in
    let all = h.unread ∙ at.bytes_behind ∙ ap (λ l. l ++ rest) bytes in
    let there : length (frame_encoding 1 s.encoded) ≤ length (concat i.unread) = omega (arith, came_is p f i h, own, came, ap length bytes) in
    let longer = long_front (concat i.unread) (drop f.delivered (flow_bytes f)) (frame_encoding 1 s.encoded) rest all there in
    let found : frame_by (kinds_of a) (concat i.unread) ≡ Whole (frame.Headers s.encoded) left = ap (frame_by (kinds_of a)) longer.front_is ∙ written_headers (kinds_of a) s.encoded left sent.has_length in
    ap (next_section a i) h.section ∙ ap (λ l. section_in (frame_by (kinds_of a) l)) (skipped_whole (kinds_of a) (is_body i.place) (concat i.unread) (frame.Headers s.encoded) left found refl) ∙ ap section_in found

-- The section that comes next is that of the next part, also if it waited.
section_is_next : (a : Announced) (p : Party) (f : Flow) (part : Part) (s : Section) (i : Incoming) → IsSoundFlow p f → ReceivesFlow f i → f.fault ≡ None → is_over f ≡ false → next_part f ≡ Some part → section_of_part (Some part) ≡ Some s
    → ((n : ℕ) (left : List ℕ) → StandsBefore f (suc n) (Some part) left → ⊥) → part_bytes part ≡ frame_encoding 1 s.encoded → IsSentSection p s
    → s.own_length ≡ before_bytes f + length (part_bytes part) → s.own_length ≤ f.delivered → next_section a i i.section ≡ Some s.encoded
section_is_next a p f part s i sound same alive more next is not_inside bytes sent own came = by_section i.section refl
  where
    reads : ReadsFlow f i
    reads = same.reads alive

    unread_of : Option (List ℕ) → List ℕ
    unread_of o = section_frame o ++ concat i.unread ++ drop f.delivered (flow_bytes f)

    here : section_of_part (next_part f) ≡ Some s
    here = ap section_of_part next ∙ is

    by_left : (n : ℕ) → i.body_left ≡ n → StandsBefore f n (Some part) (unread_of i.section) → i.section ≡ None → f.waits_for ≡ 0 → next_section a i i.section ≡ Some s.encoded
    by_left (suc n) e at none waits = absurd (not_inside n (unread_of i.section) at)
    by_left zero e at none waits =
        section_frame_next a p f part s i (record {
          on = record { alive = alive; fault = same.fault ∙ alive; ended = same.ended; was_reset = same.was_reset; goes_on = same.is_over ∙ more; not_over = more };
          sound = sound;
          section = none;
          body_left = e;
          out = at.0;
          unread = ap unread_of (sym none) ∙ at.1;
          waits = same.waits_for ∙ waits;
          no_wait = waits;
          pieces = reads.pieces;
          place = reads.place;
          content = reads.content;
          same = same;
        }) (part_at p f part sound next) bytes sent own came

    by_section : (o : Option (List ℕ)) → i.section ≡ o → next_section a i i.section ≡ Some s.encoded
    by_section None e =
        by_left i.body_left refl (subst (λ x. StandsBefore f i.body_left x (unread_of i.section)) next reads.unread) e (subst (λ x. WaitsIn f i x (section_of_part (next_part f))) e reads.waits)
    by_section (Some bytes) e =
        let waits = subst (λ x. WaitsIn f i (Some bytes) x) here (subst (λ x. WaitsIn f i x (section_of_part (next_part f))) e reads.waits) in
        ap (next_section a i) e ∙ ap (λ b. Some b) waits.2

-- what the decoder makes of it, where its insertions came
decoded_is : (r : DecoderState) (guards : Bool) (came : ℕ) (s : Section) → nat_le s.count came ≡ true → decode_section r s.encoded ≡ tried_as guards came s → fields_in r (Some s.encoded) ≡ Some (as_flagged guards s.fields)
decoded_is r guards came s enough is =
    ap decoded_fields (is ∙ ap (λ b. if b then Fields (as_flagged guards s.fields) s.count else Missing s.count) enough)

-- **The list that comes next at an end is that of the next part,** where the pull of an open stream hands that out.
pub list_comes : (laws : Laws) (setup : Setup) (w : World) (side : Side) (id : ℕ) (e : EndpointHistory) → IsMadeSetup setup → StandsAt setup w side e → IsSoundWorld setup w → is_open w side id ≡ true
    → (flow w (other side) id).fault ≡ None → is_over (flow w (other side) id) ≡ false
    → pause_before (flow w (other side) id) (insertions_came (party w (other side))) (next_part (flow w (other side) id)) ≡ None
    → IsListOf (flags_secrets (announced_at setup (other side))) (fields_behind e.kept e id) (section_of_part (next_part (flow w (other side) id)))
list_comes laws setup w side id e made h sound there alive more goes =
    by_part (next_part f) refl goes (endpoint_decodes_as laws.streams laws.lists setup w side id e made h sound there alive)
  where
    f : Flow
    f = flow w (other side) id

    p : Party
    p = party w (other side)

    came : ℕ
    came = insertions_came p

    guards : Bool
    guards = flags_secrets (announced_at setup (other side))

    r : DecoderState
    r = e.decoding.decoder

    there_is : IsSoundFlow p f
    there_is = sound_flow setup w (other side) id sound (open_there w side id there)

    at_end : (i : Incoming) → stream_at e.incoming id ≡ Some i → fields_behind e.kept e id ≡ fields_next e.announced r i
    at_end i is =
        ap (λ k. fields_behind k e id) h.nothing_kept
        ∙ ap (λ s. fields_of_kind e id (kind_of s id)) h.side_is
        ∙ ap (fields_of_kind e id) (kind_is side id (open_there w side id there).request)
        ∙ ap (fields_there e.announced r) is

    by_list : (part : Part) (s : Section) → next_part f ≡ Some part → section_of_part (Some part) ≡ Some s → ((n : ℕ) (left : List ℕ) → StandsBefore f (suc n) (Some part) left → ⊥) → part_bytes part ≡ frame_encoding 1 s.encoded
        → IsSentSection p s → s.own_length ≡ before_bytes f + length (part_bytes part) → section_pause f came s ≡ None → decode_section r s.encoded ≡ tried_as guards came s
        → fields_behind e.kept e id ≡ Some (as_flagged guards s.fields)
    by_list part s next is not_inside bytes sent own goes decodes =
        let i = incoming_there setup w side id e h there in
        let whole = no_pause_own f came s goes in
        at_end i.0 i.1 ∙ ap (fields_in r) (section_is_next e.announced p f part s i.0 there_is i.2 alive more next is not_inside bytes sent own whole.0) ∙ decoded_is r guards came s whole.1 decodes

    by_part : (o : Option Part) → next_part f ≡ o → pause_before f came o ≡ None → DecodesNextAs laws.lists side (announced_at setup side) id r came guards o → IsListOf guards (fields_behind e.kept e id) (section_of_part o)
    by_part None next goes decodes = tt
    by_part (Some (Body bytes own)) next goes decodes = tt
    by_part (Some End) next goes decodes = tt
    by_part (Some (Interim s)) next goes decodes = let at = part_at p f (Interim s) there_is next in by_list (Interim s) s next refl (λ n left k. k) refl at.sent.0 at.sent.1 goes decodes
    by_part (Some (Head s)) next goes decodes = let at = part_at p f (Head s) there_is next in by_list (Head s) s next refl (λ n left k. k) refl at.sent.0 at.sent.1 goes decodes
    by_part (Some (Trailer s)) next goes decodes = let at = part_at p f (Trailer s) there_is next in by_list (Trailer s) s next refl (λ n left k. k) refl at.sent.0 at.sent.1 goes decodes
