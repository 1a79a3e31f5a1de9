-- The pieces that a source gave, and how they lie in a buffer.
use Rattle.std.specs.Prelude.{◌≡◌, ℕ, List, [], ◌∷◌, ◌++◌, Ok, Some}
use Rattle.h3_wire.specs.declared.quic.Poll.TheVariants.{Ready}
use Rattle.h3_wire.specs.Source.{Answer}
use Rattle.h3_frames.specs.Pieces.{IsRest, ending}

-- the piece of an answer, if it has one
abbrev pub piece_in : Answer → List (List ℕ)
piece_in (Ready (Ok (Some piece))) = piece ∷ []
piece_in _ = []

-- The source was asked some times, and gave these pieces.
pub data Gave {S : Type 0} (answers : S → Answer → S → Type 0) : S → List (List ℕ) → S → Type 0 where
  asked_no_more : (s t : S) (given : List (List ℕ)) → t ≡ s → given ≡ [] → Gave answers s given t
  answered : (s mid t : S) (answer : Answer) (given others : List (List ℕ)) → answers s answer mid → Gave answers mid others t → given ≡ piece_in answer ++ others → Gave answers s given t

module _ {S : Type 0} (answers : S → Answer → S → Type 0) where
  -- The pieces that were given stand behind those before.
  abbrev pub AddsPieces : S → List (List ℕ) → S → List (List ℕ) → Type 0
  AddsPieces s old t new = (given : List (List ℕ)) × Gave answers s given t × (new ≡ old ++ given)

  -- Of these pieces some bytes at the front are passed.
  abbrev pub PassesPieces : S → List (List ℕ) → S → List (List ℕ) → Type 0
  PassesPieces s old t new = (given : List (List ℕ)) × Gave answers s given t × IsRest (old ++ given) new

  -- Of these pieces the last bytes are left, so many.
  abbrev pub LeavesPieces : ℕ → S → List (List ℕ) → S → List (List ℕ) → Type 0
  LeavesPieces size s old t new = (given : List (List ℕ)) × Gave answers s given t × (new ≡ ending size (old ++ given))
