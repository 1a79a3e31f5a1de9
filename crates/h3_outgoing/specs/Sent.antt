-- What the calls on a request stream at its sender do to what is kept of it.
use Rattle.std.specs.Prelude.{ℕ, Bool, true, false, not, ◌&&◌, ◌||◌, List, [], ◌∷◌, ◌++◌, length, if◌then◌else◌, ◌==◌}
use Rattle.h3_messages.specs.Content.{left_behind}
use Rattle.h3_messages.specs.declared.content.Content.{Content}
use Rattle.h3_messages.specs.declared.content.Content.TheVariants.{Unsaid}
use Rattle.h3_connection.specs.State.{OutgoingState}
use Rattle.h3_connection.specs.WaitingPieces.{bytes_of, frame_piece, without_front}
use Rattle.h3_connection.specs.declared.order.Precedence.{Precedence}
use Rattle.h3_connection.specs.declared.place.SendPlace.{SendPlace}
use Rattle.h3_connection.specs.declared.place.SendPlace.TheVariants.{NothingSent, HeadSent, TrailerSent}

-- it was neither finished nor reset
abbrev pub is_open : OutgoingState → Bool
is_open s = not s.is_finished && not s.is_reset

abbrev pub is_before_head : SendPlace → Bool
is_before_head NothingSent = true
is_before_head _ = false

abbrev pub is_in_body : SendPlace → Bool
is_in_body HeadSent = true
is_in_body _ = false

abbrev pub takes_head : OutgoingState → Bool
takes_head s = is_open s && is_before_head s.place

abbrev pub takes_body : OutgoingState → Bool
takes_body s = is_open s && is_in_body s.place

abbrev pub takes_end : OutgoingState → Bool
takes_end s = is_open s && not (is_before_head s.place)

-- a HEADERS frame (RFC 9114, section 7.2.2)
abbrev pub has_section : OutgoingState → List ℕ → SendPlace → OutgoingState
has_section s section place = record s { pieces = s.pieces ++ frame_piece 1 section ∷ []; place = place }

-- a DATA frame (RFC 9114, section 7.2.1), and none for no bytes
abbrev pub has_body : OutgoingState → List ℕ → OutgoingState
has_body s [] = s
has_body s (byte ∷ bytes) = record s { pieces = s.pieces ++ frame_piece 0 (byte ∷ bytes) ∷ []; content = left_behind s.content (length (byte ∷ bytes)) }

-- so much content is to be sent on it, where it is open
abbrev pub is_to_have : OutgoingState → Content → OutgoingState
is_to_have s content = record s { content = if is_open s then content else s.content }

abbrev pub has_ended : OutgoingState → OutgoingState
has_ended s = record s { is_finished = true; content = Unsaid }

abbrev pub was_cut_off : OutgoingState → OutgoingState
was_cut_off s = record s { pieces = []; is_reset = true; is_finished = false; content = Unsaid }

abbrev pub taken_from : OutgoingState → ℕ → OutgoingState
taken_from s count = record s { pieces = without_front count s.pieces }

abbrev pub is_sent_off : OutgoingState → Bool
is_sent_off s = s.is_reset || (s.is_finished && (length (bytes_of s.pieces) == 0))

-- Sending was closed (RFC 9114, section 4.1), and the FIN that says so was not taken.
abbrev pub end_waits : OutgoingState → Bool
end_waits s = s.is_finished && not s.end_taken

-- it is next: no bytes wait ahead of it
abbrev pub is_end_next : OutgoingState → Bool
is_end_next s = end_waits s && (length (bytes_of s.pieces) == 0)

abbrev pub has_end_taken : OutgoingState → OutgoingState
has_end_taken s = record s { end_taken = true }

-- by this it goes before others from then on
abbrev pub preceding : Precedence → OutgoingState → OutgoingState
preceding precedence s = record s { precedence = precedence }

-- the place of a message by its parts
abbrev pub place : Bool → Bool → SendPlace
place unsent trailer = if unsent then NothingSent else (if trailer then TrailerSent else HeadSent)
