-- A payload that the caller holds: it is announced by its length, and none of its bytes is given. In the lists of what is sent a number that is
-- no byte, 256, stands in the place of each of them.
use Rattle.std.specs.Prelude.{◌≡◌, ◌<◌, ◌⊎◌, ℕ, suc, ◌+◌, ◌-◌, Bool, true, false, List, [], ◌∷◌, length, drop, nat_lt, if◌then◌else◌, replicate}
use Rattle.h3_frames.specs.Outgoing.{Outgoing as Piece}
use Rattle.h3_connection.specs.WaitingPieces.{bytes_of}
use Rattle.h3_outgoing.specs.Copied.{Filled, Puts}

-- the places of so many bytes
abbrev pub held : ℕ → List ℕ
held len = replicate len 256

-- the bytes in front of the first such place
abbrev pub front_of : List ℕ → List ℕ
front_of [] = []
front_of (b ∷ wire) = if nat_lt b 256 then b ∷ front_of wire else []

-- how many such places there are at the front
abbrev pub past_of : List ℕ → ℕ
past_of [] = 0
past_of (b ∷ wire) = if nat_lt b 256 then 0 else suc (past_of wire)

-- The caller's bytes, one behind the other, in these places. Where they do not suffice the places stay.
abbrev pub filled_with : List ℕ → List ℕ → List ℕ
filled_with [] bytes = []
filled_with (b ∷ wire) [] = b ∷ wire
filled_with (b ∷ wire) (byte ∷ bytes) = if nat_lt b 256 then b ∷ filled_with wire (byte ∷ bytes) else byte ∷ filled_with wire bytes

-- The bytes in front of the first place stand in the buffer, as many as fit, and behind so many come so many places.
pub record Fronts (wire before out : List ℕ) (count follow : ℕ) : Type 0 where
  pub copied : Filled (front_of wire) before out count
  pub past : follow ≡ past_of (drop count wire)

-- The same of one frame from a place on. It is the last one where a payload of the caller's follows, or the buffer is full; else all of it was copied.
pub record FrontsAt (wire : List ℕ) (at : ℕ) (before : List ℕ) (next follow : ℕ) (is_last : Bool) (out : List ℕ) : Type 0 where
  pub copied : Puts (front_of wire) at before next out
  pub past : follow ≡ past_of (drop (next - at) wire)
  pub last : is_last ≡ true → (0 < follow) ⊎ (next ≡ length before)
  pub whole : is_last ≡ false → (front_of wire ≡ wire) × (next ≡ at + length wire)

-- Behind each frame comes a byte or nothing: nothing was taken of the next one.
abbrev pub AreApart : List Piece → Type 0
AreApart [] = Unit {0}
AreApart (p ∷ pieces) = (past_of (bytes_of pieces) ≡ 0) × AreApart pieces
