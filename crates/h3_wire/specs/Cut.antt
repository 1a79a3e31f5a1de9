-- Where a payload is cut into pieces.
use Rattle.std.specs.Prelude.{◌≡◌, ℕ, Bool, true, false, ◌==◌, ◌&&◌, ◌||◌, List, ◌++◌, length, nat_lt, nat_le, Result, Ok, Err, Option, Some}
use Rattle.std.specs.List.{concat}
use Rattle.h3_wire.specs.declared.quic.Poll.{Poll}
use Rattle.h3_wire.specs.declared.quic.Poll.TheVariants.{Ready}
use Rattle.h3_frames.specs.declared.frame.errors.FrameStreamError.{FrameStreamError}
use Rattle.h3_frames.specs.declared.frame.errors.FrameStreamError.TheVariants as stream
use Rattle.h3_wire.specs.declared.frame.payload_left.PayloadLeft.{PayloadLeft}
use Rattle.h3_wire.specs.declared.frame.payload_left.PayloadLeft.TheVariants as payload
use Rattle.h3_wire.specs.declared.stream.Received.{Received}
use Rattle.h3_wire.specs.declared.stream.Received.TheVariants as received
use Rattle.h3_wire.specs.Source.{Answer}
use Rattle.h3_wire.specs.Streams.{Framing}
use Rattle.h3_frames.specs.Pieces.{first_of, chunk_of}
use Rattle.h3_wire.specs.Given.{Gave}

-- the first piece, at most what is left of the payload, and what is left of the pieces
abbrev pub cut : PayloadLeft → List (List ℕ) → Option (List ℕ) × List (List ℕ)
cut (payload.Bytes n) all = chunk_of n all
cut payload.ToEnd all = first_of all

-- so many bytes in so many pieces are the last piece of a payload that is longer, or none of it
abbrev pub is_cut_short : PayloadLeft → ℕ → ℕ → Bool
is_cut_short (payload.Bytes n) size count = nat_lt size n && ((size == 0) || nat_le count 1)
is_cut_short payload.ToEnd size count = false

-- The answer is the first piece, cut at the payload's end; or the end, which is known, cuts the payload short in this
-- piece. Nothing else takes any.
abbrev pub TakesPiece : Poll (Result (Option (List ℕ)) FrameStreamError) → PayloadLeft → List (List ℕ) → List (List ℕ) → Bool → Type 0
TakesPiece (Ready (Ok (Some bytes))) p all new is_eos = ((Some bytes, new) ≡ cut p all) × (is_eos ≡ true → is_cut_short p (length (concat all)) (length all) ≡ false)
TakesPiece (Ready (Err stream.UnexpectedEnd)) p all new is_eos = (new ≡ all) × (is_cut_short p (length (concat all)) (length all) ≡ true)
TakesPiece _ p all new is_eos = new ≡ all

-- the same of the pieces that were read before and in this call
abbrev pub PollsPiece : {S : Type 0} → (S → Answer → S → Type 0) → Poll (Result (Option (List ℕ)) FrameStreamError) → Framing S → Framing S → Type 0
PollsPiece answers r old new = (given : List (List ℕ)) × Gave answers old.source given new.source × TakesPiece r old.payload (old.pieces ++ given) new.pieces new.is_eos

-- the end is known where a read says so, and else not
abbrev pub TellsEnd : Result Received FrameStreamError → Bool → Type 0
TellsEnd (Ok received.End) is_eos = is_eos ≡ true
TellsEnd (Ok _) is_eos = is_eos ≡ false
TellsEnd (Err e) is_eos = Unit {0}
