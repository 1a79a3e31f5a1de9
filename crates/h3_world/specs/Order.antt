-- Where a message is (RFC 9114, section 4.1), at its sender and at its receiver.
use Rattle.std.specs.Prelude.{◌-◌, ◌==◌, Bool, true, false, not, ◌&&◌, ◌||◌, List, [], ◌∷◌, flat_map, nat_lt, slice_get, Option, Some, None}
use Rattle.h3_messages.specs.declared.content.Content.TheVariants.{Unsaid}
use Rattle.h3_connection.specs.Order.{default_precedence}
use Rattle.h3_connection.specs.Outgoing.{Outgoing}
use Rattle.h3_world.specs.Flow.{Flow, Part, Section, own_part, bytes_waiting}
use Rattle.h3_world.specs.Flow.Part.{Interim, Head, Trailer, End}

abbrev pub last_part : List Part → Option Part
last_part [] = None
last_part (p ∷ []) = Some p
last_part (p ∷ q ∷ ps) = last_part (q ∷ ps)

abbrev pub is_end : Option Part → Bool
is_end (Some End) = true
is_end _ = false

-- the sender sends no more on it, and no reset has cut it off
abbrev pub is_finished : Flow → Bool
is_finished f = not f.is_reset && is_end (last_part f.sent)

-- The flow as an endpoint has it that sends it: its rules say which part may come next. No event of a schedule says that a FIN was taken. It
-- counts no content, as an endpoint that judges plainly.
abbrev pub outgoing_of : Flow → Outgoing
outgoing_of f = record { parts = flat_map own_part f.sent; taken = f.delivered; content = Unsaid; is_finished = is_finished f; is_reset = f.is_reset; end_taken = false; precedence = default_precedence }

-- reset before, or finished and handed over whole
abbrev pub is_sent_off : Flow → Bool
is_sent_off f = f.is_reset || (is_finished f && (bytes_waiting f == 0))

abbrev pub next_part : Flow → Option Part
next_part f = slice_get f.sent f.parts_out

-- the section of a part
abbrev pub section_of_part : Option Part → Option Section
section_of_part (Some (Interim s)) = Some s
section_of_part (Some (Head s)) = Some s
section_of_part (Some (Trailer s)) = Some s
section_of_part _ = None

-- its end was handed out
abbrev pub is_over : Flow → Bool
is_over f = nat_lt 0 f.parts_out && is_end (slice_get f.sent (f.parts_out - 1))
