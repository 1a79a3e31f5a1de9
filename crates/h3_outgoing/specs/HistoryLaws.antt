-- What the calls do to what is kept of a request stream is what they do to its history.
use Rattle.std.proofs.Common.{arith, ◌≡◌, ◌≤◌, ℕ, ◌+◌, Bool, true, false, List, [], ◌∷◌, ◌++◌, length, drop, refl, sym, ap, ◌∙◌, subst, length-append}
use Rattle.std.specs.Prelude.{not, ◌&&◌, ◌||◌, map, flat_map, if◌then◌else◌, ◌==◌}
use Rattle.std.proofs.lemmas.Grind.{flat_map-append}
use Rattle.std.proofs.lemmas.List.{length-drop}
use Rattle.h3_connection.specs.Outgoing as history
use Rattle.h3_connection.specs.Outgoing.{Outgoing, OwnPart, OwnInterim, OwnHead, OwnBody, OwnTrailer, written_part, part_bytes_waiting, is_unsent, last_is_trailer, with_body, with_finish, with_reset, with_said}
use Rattle.h3_messages.specs.Content.{left_behind}
use Rattle.h3_messages.specs.declared.content.Content.{Content}
use Rattle.h3_connection.specs.State.{OutgoingState, IsOfOutgoing, place_of}
use Rattle.h3_connection.specs.WaitingPieces.{piece_of, bytes_of, without_front}
use Rattle.h3_connection.specs.WaitingPieceLaws.{bytes-without, without-append, without-without}
use Rattle.h3_connection.specs.declared.place.SendPlace.{SendPlace}
use Rattle.h3_outgoing.specs.Sent.{is_open, is_before_head, is_in_body, takes_head, takes_body, takes_end, is_sent_off, has_ended, was_cut_off, taken_from, end_waits, is_end_next, is_to_have, has_end_taken, place}

before : (unsent trailer : Bool) → is_before_head (place unsent trailer) ≡ unsent
before true trailer = refl
before false true = refl
before false false = refl

inside : (is unsent trailer : Bool) → (is && is_in_body (place unsent trailer)) ≡ ((is && not unsent) && not trailer)
inside false unsent trailer = refl
inside true true trailer = refl
inside true false true = refl
inside true false false = refl

opened : (o : Outgoing) (w : OutgoingState) → IsOfOutgoing o w → is_open w ≡ history.is_unended o
opened o w h = ap (λ b. not b && not w.is_reset) h.is_finished ∙ ap (λ b. not o.is_finished && not b) h.is_reset

-- Whether a part may be sent is told by what is kept.
pub head_taken : (o : Outgoing) (w : OutgoingState) → IsOfOutgoing o w → takes_head w ≡ history.takes_head o
head_taken o w h =
    ap (λ b. b && is_before_head w.place) (opened o w h)
    ∙ ap (λ p. history.is_unended o && is_before_head p) h.place ∙ ap (λ b. history.is_unended o && b) (before (is_unsent o.parts) (last_is_trailer o.parts))

pub body_taken : (o : Outgoing) (w : OutgoingState) → IsOfOutgoing o w → takes_body w ≡ history.takes_body o
body_taken o w h =
    ap (λ b. b && is_in_body w.place) (opened o w h)
    ∙ ap (λ p. history.is_unended o && is_in_body p) h.place ∙ inside (history.is_unended o) (is_unsent o.parts) (last_is_trailer o.parts)

pub end_taken : (o : Outgoing) (w : OutgoingState) → IsOfOutgoing o w → takes_end w ≡ history.takes_end o
end_taken o w h =
    ap (λ b. b && not (is_before_head w.place)) (opened o w h)
    ∙ ap (λ p. history.is_unended o && not (is_before_head p)) h.place ∙ ap (λ b. history.is_unended o && not b) (before (is_unsent o.parts) (last_is_trailer o.parts))

-- the bytes of parts
pub bytes_of_parts : (parts : List OwnPart) → bytes_of (map piece_of parts) ≡ flat_map written_part parts
bytes_of_parts [] = refl
bytes_of_parts (OwnInterim section ∷ parts) = ap (λ l. written_part (OwnInterim section) ++ l) (bytes_of_parts parts)
bytes_of_parts (OwnHead section ∷ parts) = ap (λ l. written_part (OwnHead section) ++ l) (bytes_of_parts parts)
bytes_of_parts (OwnBody bytes ∷ parts) = ap (λ l. written_part (OwnBody bytes) ++ l) (bytes_of_parts parts)
bytes_of_parts (OwnTrailer section ∷ parts) = ap (λ l. written_part (OwnTrailer section) ++ l) (bytes_of_parts parts)

-- what waits
waits_by : (reset : Bool) (taken : ℕ) (parts : List OwnPart) → bytes_of (if reset then [] else without_front taken (map piece_of parts)) ≡ (if reset then [] else drop taken (flat_map written_part parts))
waits_by true taken parts = refl
waits_by false taken parts = bytes-without taken (map piece_of parts) ∙ ap (drop taken) (bytes_of_parts parts)

pub waits : (o : Outgoing) (w : OutgoingState) → IsOfOutgoing o w → bytes_of w.pieces ≡ part_bytes_waiting o
waits o w h = ap bytes_of h.pieces ∙ waits_by o.is_reset o.taken o.parts

pub sent_off : (o : Outgoing) (w : OutgoingState) → IsOfOutgoing o w → is_sent_off w ≡ history.is_sent_off o
sent_off o w h =
    ap (λ b. b || (w.is_finished && (length (bytes_of w.pieces) == 0))) h.is_reset
    ∙ ap (λ b. o.is_reset || (b && (length (bytes_of w.pieces) == 0))) h.is_finished
    ∙ ap (λ l. o.is_reset || (o.is_finished && (length l == 0))) (waits o w h)

-- Whether its end waits, and is next.
pub end_waiting : (o : Outgoing) (w : OutgoingState) → IsOfOutgoing o w → end_waits w ≡ history.end_waits o
end_waiting o w h = ap (λ b. b && not w.end_taken) h.is_finished ∙ ap (λ b. o.is_finished && not b) h.end_taken

pub end_next : (o : Outgoing) (w : OutgoingState) → IsOfOutgoing o w → is_end_next w ≡ history.is_end_next o
end_next o w h = ap (λ b. b && (length (bytes_of w.pieces) == 0)) (end_waiting o w h) ∙ ap (λ l. history.end_waits o && (length l == 0)) (waits o w h)

-- Its FIN was taken.
pub end_gone : (o : Outgoing) (w : OutgoingState) → IsOfOutgoing o w → IsOfOutgoing (record o { end_taken = true }) (has_end_taken w)
end_gone o w h = record { pieces = h.pieces; place = h.place; content = h.content; is_finished = h.is_finished; is_reset = h.is_reset; end_taken = refl; precedence = h.precedence; taken = h.taken }

-- The message is whole.
pub ended : (o : Outgoing) (w : OutgoingState) → IsOfOutgoing o w → IsOfOutgoing (with_finish o) (has_ended w)
ended o w h = record { pieces = h.pieces; place = h.place; content = refl; is_finished = refl; is_reset = h.is_reset; end_taken = h.end_taken; precedence = h.precedence; taken = h.taken }

-- Sending is cut off.
pub cut_off : (o : Outgoing) (w : OutgoingState) → IsOfOutgoing o w → IsOfOutgoing (with_reset o) (was_cut_off w)
cut_off o w h = record { pieces = refl; place = h.place; content = refl; is_finished = refl; is_reset = refl; end_taken = h.end_taken; precedence = h.precedence; taken = λ never. absurd (cc) }

-- Some bytes are taken.
taken_by : (reset : Bool) (taken count : ℕ) (parts : List OwnPart) → without_front count (if reset then [] else without_front taken (map piece_of parts)) ≡ (if reset then [] else without_front (taken + count) (map piece_of parts))
taken_by true taken count parts = refl
taken_by false taken count parts = without-without count taken (map piece_of parts)

few_by : (reset : Bool) (taken count : ℕ) (parts : List OwnPart) → reset ≡ false → taken ≤ length (flat_map written_part parts)
    → count ≤ length (if reset then [] else drop taken (flat_map written_part parts)) → taken + count ≤ length (flat_map written_part parts)
few_by true taken count parts never few more = absurd (cc)
few_by false taken count parts here few more = omega (arith, few, more, length-drop taken (flat_map written_part parts))

pub advanced : (o : Outgoing) (w : OutgoingState) (count : ℕ) → IsOfOutgoing o w → count ≤ length (part_bytes_waiting o) → IsOfOutgoing (record o { taken = o.taken + count }) (taken_from w count)
advanced o w count h few =
    record {
      pieces = ap (without_front count) h.pieces ∙ taken_by o.is_reset o.taken count o.parts;
      place = h.place;
      content = h.content;
      is_finished = h.is_finished;
      is_reset = h.is_reset;
      end_taken = h.end_taken;
      precedence = h.precedence;
      taken = λ here. few_by o.is_reset o.taken count o.parts here (h.taken here) few;
    }

-- A part more.
map_push : (parts : List OwnPart) (part : OwnPart) → map piece_of (parts ++ part ∷ []) ≡ map piece_of parts ++ piece_of part ∷ []
map_push [] part = refl
map_push (p ∷ parts) part = ap (λ l. piece_of p ∷ l) (map_push parts part)

pushed_by : (reset : Bool) (taken : ℕ) (parts : List OwnPart) (part : OwnPart) → reset ≡ false → taken ≤ length (flat_map written_part parts)
    → (if reset then [] else without_front taken (map piece_of parts)) ++ piece_of part ∷ [] ≡ (if reset then [] else without_front taken (map piece_of (parts ++ part ∷ [])))
pushed_by true taken parts part never few = absurd (cc)
pushed_by false taken parts part here few =
    let inside : taken ≤ length (bytes_of (map piece_of parts)) = subst (λ l. taken ≤ length l) (sym (bytes_of_parts parts)) few in
    sym (ap (without_front taken) (map_push parts part) ∙ without-append taken (map piece_of parts) (piece_of part ∷ []) inside)

pub appended : (o : Outgoing) (w : OutgoingState) (part : OwnPart) (at : SendPlace) → IsOfOutgoing o w → o.is_reset ≡ false → at ≡ place_of (o.parts ++ part ∷ [])
    → IsOfOutgoing (record o { parts = o.parts ++ part ∷ [] }) (record w { pieces = w.pieces ++ piece_of part ∷ []; place = at })
appended o w part at h here is =
    record {
      pieces = ap (λ l. l ++ piece_of part ∷ []) h.pieces ∙ pushed_by o.is_reset o.taken o.parts part here (h.taken here);
      place = is;
      content = h.content;
      is_finished = h.is_finished;
      is_reset = h.is_reset;
      end_taken = h.end_taken;
      precedence = h.precedence;
      taken = λ again. let all = flat_map-append written_part o.parts (part ∷ []) in
          omega (arith, h.taken again, ap length all, length-append (flat_map written_part o.parts) (flat_map written_part (part ∷ [])));
    }

-- So much content is to be sent.
pub said : (o : Outgoing) (w : OutgoingState) (k : Content) → IsOfOutgoing o w → IsOfOutgoing (with_said o k) (is_to_have w k)
said o w k h = record {
  pieces = h.pieces;
  place = h.place;
  content = ap (λ b. if b then k else w.content) (opened o w h) ∙ ap (λ c. if history.is_unended o then k else c) h.content;
  is_finished = h.is_finished;
  is_reset = h.is_reset;
  end_taken = h.end_taken;
  precedence = h.precedence;
  taken = h.taken;
}

-- A body more, of which what is left of the content is known.
pub body_appended : (o : Outgoing) (w : OutgoingState) (bytes : List ℕ) → IsOfOutgoing o w → o.is_reset ≡ false → w.place ≡ place_of (o.parts ++ OwnBody bytes ∷ [])
    → IsOfOutgoing (with_body o bytes) (record w { pieces = w.pieces ++ piece_of (OwnBody bytes) ∷ []; content = left_behind w.content (length bytes) })
body_appended o w bytes h here is =
    let put = appended o w (OwnBody bytes) w.place h here is in
    record {
      pieces = put.pieces;
      place = put.place;
      content = ap (λ c. left_behind c (length bytes)) h.content;
      is_finished = put.is_finished;
      is_reset = put.is_reset;
      end_taken = put.end_taken;
      precedence = put.precedence;
      taken = put.taken;
    }
