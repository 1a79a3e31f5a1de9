-- What waits on a request stream, in pieces: one for each frame that was written and not wholly taken.
use Rattle.std.specs.Prelude.{ℕ, zero, suc, ◌-◌, List, [], ◌∷◌, length, drop, flat_map, if◌then◌else◌, nat_lt, map}
use Rattle.h3_frames.specs.Encoded.{head_encoding}
use Rattle.h3_frames.specs.Outgoing.{Outgoing as Piece, all_of, first_part}
use Rattle.h3_connection.specs.Outgoing.{Outgoing, OwnPart, OwnInterim, OwnHead, OwnBody, OwnTrailer}

-- a frame's type and length, and its payload (RFC 9114, section 7.1)
abbrev pub frame_piece : ℕ → List ℕ → Piece
frame_piece kind payload = record { head = head_encoding kind (length payload); payload = payload }

abbrev pub piece_of : OwnPart → Piece
piece_of (OwnInterim section) = frame_piece 1 section
piece_of (OwnHead section) = frame_piece 1 section
piece_of (OwnBody bytes) = frame_piece 0 bytes
piece_of (OwnTrailer section) = frame_piece 1 section

-- a piece without its first bytes
abbrev pub without_first : ℕ → Piece → Piece
without_first count p = record { head = drop count p.head; payload = drop (count - length p.head) p.payload }

-- pieces without their first bytes: those that are wholly taken go
abbrev pub without_front : ℕ → List Piece → List Piece
without_front count [] = []
without_front zero (p ∷ pieces) = p ∷ pieces
without_front (suc n) (p ∷ pieces) =
    if nat_lt (suc n) (length (all_of p)) then without_first (suc n) p ∷ pieces else without_front (suc n - length (all_of p)) pieces

abbrev pub pieces_waiting : Outgoing → List Piece
pieces_waiting o = if o.is_reset then [] else without_front o.taken (map piece_of o.parts)

-- the bytes of all of them
abbrev pub bytes_of : List Piece → List ℕ
bytes_of pieces = flat_map all_of pieces

-- what is lent first: the rest of the first frame's type and length, and then its payload
abbrev pub lent : List Piece → List ℕ
lent [] = []
lent (p ∷ pieces) = first_part p
