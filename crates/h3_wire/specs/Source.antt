-- What a source of bytes answers.
use Rattle.std.specs.Prelude.{◌≡◌, ℕ, ◌<◌, Bool, true, false, List, [], ◌++◌, length, Result, Ok, Err, Option, Some, None}
use Rattle.h3_wire.specs.declared.quic.Poll.{Poll}
use Rattle.h3_wire.specs.declared.quic.Poll.TheVariants.{Ready, Pending}
use Rattle.h3_frames.specs.declared.quic.StreamErrorIncoming.{StreamErrorIncoming}

abbrev pub Answer : Type 0
Answer = Poll (Result (Option (List ℕ)) StreamErrorIncoming)

-- a piece is some bytes of the front, the end comes where nothing is left, and all else changes nothing
abbrev pub Polls : Answer → List ℕ → List ℕ → Type 0
Polls (Ready (Ok (Some piece))) old new = (0 < length piece) × (old ≡ piece ++ new)
Polls (Ready (Ok None)) old new = (old ≡ []) × (new ≡ [])
Polls (Ready (Err e)) old new = new ≡ old
Polls Pending old new = new ≡ old

-- The source was asked some times, and answered.
pub data Asked {S : Type 0} (answers : S → Answer → S → Type 0) : S → S → Type 0 where
  done : (s t : S) → t ≡ s → Asked answers s t
  more : (s mid t : S) (answer : Answer) → answers s answer mid → Asked answers mid t → Asked answers s t

-- what a source and the bytes read from it still give; behind the end that was told nothing comes
abbrev pub coming : Bool → List ℕ → List ℕ
coming true rest = []
coming false rest = rest
