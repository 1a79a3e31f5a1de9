-- What a pull of a request stream comes to: by where its receiver stands before the next part.
use Rattle.std.proofs.Common.{◌≡◌, ◌+◌, length, take, drop, refl, true, [], arith, ◌<◌, Bool, false, ℕ, subst, Option, Some, List, ◌∷◌, sym, ap, ◌∙◌, if◌then◌else◌, ◌≤◌, ◌++◌}
use Rattle.std.specs.List.{concat, flat_map}
use Rattle.h3_connection.specs.Incoming.{Incoming, is_body}
use Rattle.h3_world.specs.Flow.{Flow, part_bytes, flow_bytes, Part, Section}
use Rattle.h3_world.specs.World.{Party}
use Rattle.std.proofs.lemmas.List.{drop_all}
use Rattle.h3_world.specs.Setup.{TakesAnyLength}
use Rattle.h3_world.specs.Sound.{IsSoundFlow, IsSentSection}
use Rattle.h3_connection.specs.Pulling.{just, left_with, at_end, at_frame, framed, next_frame, between_frames, connection_fault, begun_section, excess}
use Rattle.h3_connection.specs.declared.event.Pull.TheVariants as pull
use Rattle.h3_world.specs.Pauses.{pause_before}
use Rattle.h3_qpack.specs.DecoderState.{DecoderState}
use Rattle.h3_frames.specs.ExcessiveLaws.{none_excessive_by}
use Rattle.h3_frames.specs.Frames.{Whole, Unfinished, frame_by}
use Rattle.h3_frames.specs.Fronts.{IsUnfinishedFront}
use Rattle.h3_frames.specs.declared.proto.frame.PayloadLen.{PayloadLen}
use Rattle.h3_frames.specs.declared.proto.frame.Frame.{Frame}
use Rattle.h3_proto.specs.declared.stream.Side.{Side}
use Rattle.h3_connection.specs.Codes.{frame_error}
use Rattle.h3_connection.specs.Skipping.{is_empty_data, skipped}
use Rattle.h3_connection.specs.declared.setup.Announced.{Announced}
use Rattle.h3_header.specs.Head as header
use Rattle.h3_frames.specs.Encoded.{frame_encoding}
use Rattle.h3_connection.specs.declared.event.Item.{Item}
use Rattle.h3_world.specs.Order.{next_part}
use Rattle.h3_headline.specs.FrontLaws.{came_so_far, left_all, left_behind, long_front, skipped_none, skipped_unfinished, skipped_whole, without_pieces}
use Rattle.h3_headline.specs.PartLaws.{flow_parts}
use Rattle.h3_headline.specs.Parts.{IsPartAt}
use Rattle.h3_headline.specs.Pulling.{ComesTo, IsAtSection, IsBefore, IsSectionPart, Pauses, before_bytes}
use Rattle.h3_headline.specs.Standing.{ReceivesFlow}
use Rattle.h3_connection.specs.StrictConnection.{kinds_of}

-- how much came
pub came_is : (p : Party) (f : Flow) (i : Incoming) → IsBefore p f i → before_bytes f + length (concat i.unread) ≡ f.delivered
came_is p f i h =
    came_so_far (concat i.unread) (drop f.delivered (flow_bytes f)) (flow_bytes f) (flat_map part_bytes (take f.parts_out f.sent)) (flat_map part_bytes (drop f.parts_out f.sent)) f.delivered
    (flow_parts f) h.sound.delivered refl h.unread

-- once the end came all bytes did
pub all_came : (p : Party) (f : Flow) → IsSoundFlow p f → f.ended ≡ true → drop f.delivered (flow_bytes f) ≡ []
all_came p f sound ended = drop_all f.delivered (flow_bytes f) (omega (arith, (sound.ended ended).1))

-- it has not come while bytes are missing
pub not_ended : (p : Party) (f : Flow) → IsSoundFlow p f → f.delivered < length (flow_bytes f) → f.ended ≡ false
not_ended p f sound missing = by_end f.ended refl
  where
    by_end : (b : Bool) → f.ended ≡ b → b ≡ false
    by_end true e = absurd (omega (arith, missing, (sound.ended e).1))
    by_end false e = refl

-- With the flow as it is: the pull waits.
pub waits_on : (most id : ℕ) (p : Party) (f : Flow) (came : ℕ) (part : Option Part) (i : Incoming) → IsBefore p f i → pause_before f came part ≡ Some pull.Pending → ComesTo most id f came part (just pull.Pending i)
waits_on most id p f came part i h pause = Pauses pull.Pending pause refl refl (subst (λ n. ReceivesFlow (record f { waits_for = n }) i) h.no_wait h.same)

module _ (side : Side) (announced : Announced) (any : TakesAnyLength announced) (id : ℕ) (r : DecoderState) where
  -- the bytes are all looked at, and no frame is too long
  pub looks : (i : Incoming) → skipped (kinds_of announced) (is_body i.place) (concat i.unread) ≡ concat i.unread → between_frames side announced id r i ≡ next_frame side announced id r i (concat i.unread)
  looks i all =
      let bytes = skipped (kinds_of announced) (is_body i.place) (concat i.unread) in
      ap (λ b. if b then excess id i bytes else next_frame side announced id r (left_with i bytes) bytes) (none_excessive_by (kinds_of announced) announced.choices.unfinished_limit bytes any)
      ∙ ap (λ l. next_frame side announced id r (left_with i l) l) all ∙ ap (λ x. next_frame side announced id r x (concat i.unread)) (left_all i)

  -- less than a frame is there
  pub unfinished_waits : (i : Incoming) → i.ended ≡ false → IsUnfinishedFront (kinds_of announced) (concat i.unread) → between_frames side announced id r i ≡ just pull.Pending i
  unfinished_waits i ended front = looks i (skipped_unfinished (kinds_of announced) (is_body i.place) (concat i.unread) front.0 front.1) ∙ by_bytes (concat i.unread) front.1
    where
      by_bytes : (bytes : List ℕ) → frame_by (kinds_of announced) bytes ≡ Unfinished front.0 → next_frame side announced id r i bytes ≡ just pull.Pending i
      by_bytes [] at = ap (λ b. if b then at_end side announced id r i i.place else just pull.Pending i) ended
      by_bytes (byte ∷ bytes) at = ap (framed side announced id r i) at ∙ ap (λ b. if b then connection_fault frame_error i else just pull.Pending i) ended

  -- nothing is there
  pub nothing_there : (i : Incoming) → concat i.unread ≡ [] → between_frames side announced id r i ≡ (if i.ended then at_end side announced id r i i.place else just pull.Pending i)
  nothing_there i none =
      looks i (ap (skipped (kinds_of announced) (is_body i.place)) none ∙ skipped_none (kinds_of announced) (is_body i.place) ∙ sym none) ∙ ap (next_frame side announced id r i) none

  -- a whole frame is there
  pub whole_frame : (i : Incoming) (f : Frame PayloadLen) (rest : List ℕ) → frame_by (kinds_of announced) (concat i.unread) ≡ Whole f rest → is_empty_data f ≡ false → 0 < length (concat i.unread)
      → between_frames side announced id r i ≡ at_frame side announced id r side (left_with i rest) i.place f
  whole_frame i f rest at full some = looks i (skipped_whole (kinds_of announced) (is_body i.place) (concat i.unread) f rest at full) ∙ by_bytes (concat i.unread) at some
    where
      by_bytes : (bytes : List ℕ) → frame_by (kinds_of announced) bytes ≡ Whole f rest → 0 < length bytes → next_frame side announced id r i bytes ≡ at_frame side announced id r side (left_with i rest) i.place f
      by_bytes [] at some = absurd (omega (arith, some))
      by_bytes (byte ∷ bytes) at some = ap (framed side announced id r i) at

-- a section's frame was read, and its bytes are the section
pub section_there : (kind : header.Head → Item) (p : Party) (f : Flow) (part : Part) (s : Section) (i : Incoming) → IsBefore p f i → IsPartAt p f.sent f.parts_out part → next_part f ≡ Some part → IsSectionPart kind s part
    → part_bytes part ≡ frame_encoding 1 s.encoded → IsSentSection p s → s.own_length ≡ before_bytes f + length (part_bytes part)
    → length (frame_encoding 1 s.encoded) ≤ length (concat i.unread)
    → IsAtSection kind f part s (begun_section (left_with i (drop (length (frame_encoding 1 s.encoded)) (concat i.unread))) s.encoded)
section_there kind p f part s i h at next is bytes sent own there =
    let rest = flat_map part_bytes (drop (f.parts_out + 1) f.sent) in
    let front : flat_map part_bytes (drop f.parts_out f.sent) ≡ frame_encoding 1 s.encoded ++ rest = at.bytes_behind ∙ ap (λ l. l ++ rest) bytes in
    let longer = long_front (concat i.unread) (drop f.delivered (flow_bytes f)) (frame_encoding 1 s.encoded) rest (h.unread ∙ front) there in
    record {
      on = record { alive = h.on.alive; fault = h.on.fault; ended = h.on.ended; was_reset = h.on.was_reset; goes_on = h.on.goes_on; not_over = h.on.not_over };
      next = next;
      is = is;
      own = omega (arith, own, came_is p f i h, there, ap length bytes);
      small = sent.small;
      body_left = h.body_left;
      out = h.out;
      front = front;
      unread = ap (λ l. l ++ drop f.delivered (flow_bytes f)) (left_behind i (frame_encoding 1 s.encoded) there) ∙ longer.rest_is;
      pieces = without_pieces _ i.unread h.pieces;
      place = h.place;
      content = h.content;
      place_next = at.place_next;
    }
