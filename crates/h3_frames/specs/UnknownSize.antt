-- Frames of unknown types at the front of bytes (RFC 9114, section 9), told by their heads alone: how long they are, also while they are under way.
use Rattle.std.specs.Prelude.{◌≡◌, ℕ, ◌+◌, ◌-◌, ◌<◌, Bool, false, not, ◌&&◌, ◌||◌, ◌==◌, List, [], length, nat_lt, if◌then◌else◌, Option, Some, None}
use Rattle.std.specs.List.{concat}
use Rattle.h3_coding.specs.Varint.{varint_at}
use Rattle.h3_frames.specs.Frames.{is_http2, is_session, is_update}
use Rattle.h3_frames.specs.Update.{is_update_type}
use Rattle.h3_frames.specs.declared.frame.kinds.FrameKinds.{FrameKinds}

-- the types that have a meaning (RFC 9114, section 7.2; 0x41 if sessions of WebTransport are known, those of PRIORITY_UPDATE if it is), and
-- those of HTTP/2, which are refused
abbrev pub is_known_type : FrameKinds → ℕ → Bool
is_known_type kinds kind =
    is_session kinds kind || (is_update kinds kind || ((kind == 0) || ((kind == 1) || ((kind == 3) || ((kind == 4) || ((kind == 5) || ((kind == 7) || ((kind == 13) || is_http2 kind))))))))

abbrev pub size_with : ℕ → Option (ℕ × List ℕ) → Option ℕ
size_with all None = None
size_with all (Some p) = Some (all - length p.1 + p.0)

abbrev pub size_by : FrameKinds → ℕ → Option (ℕ × List ℕ) → Option ℕ
size_by kinds all None = None
size_by kinds all (Some p) = if is_known_type kinds p.0 then None else size_with all (varint_at p.1)

-- How many bytes the frame at the front has, head and payload, where its head is whole and its type is unknown.
unfoldable pub unknown_size : FrameKinds → List ℕ → Option ℕ
unknown_size kinds bytes = size_by kinds (length bytes) (varint_at bytes)

abbrev pub is_longer : ℕ → Option ℕ → Bool
is_longer all None = false
is_longer all (Some size) = nat_lt all size

-- an unknown frame is under way at the front: all that came is of it
abbrev pub is_under_way : FrameKinds → List ℕ → Bool
is_under_way kinds bytes = is_longer (length bytes) (unknown_size kinds bytes)

-- how many of the bytes that were not read are held: none while an unknown frame is under way at the front
abbrev pub held_length : FrameKinds → List ℕ → ℕ
held_length kinds bytes = if is_under_way kinds bytes then 0 else length bytes

-- The bytes of a stream of frames: their pieces, and how many bytes the unknown frame at the front has, where some of it were let go; else 0.
-- Then by which choices its type would be known: it is 0x41, or one of PRIORITY_UPDATE.
pub record Sparing : Type 0 where
  pub pieces : List (List ℕ)
  pub passing : ℕ
  pub known_to : FrameKinds

-- by none
abbrev pub no_kinds : FrameKinds
no_kinds = record { sessions = false; updates = false }

-- the most kinds by which that frame is unknown
abbrev pub let_go_by : FrameKinds → FrameKinds
let_go_by known_to = record { sessions = not known_to.sessions; updates = not known_to.updates }

-- by these it is, too
abbrev pub suits : FrameKinds → FrameKinds → Bool
suits known_to kinds = not (known_to.sessions && kinds.sessions) && not (known_to.updates && kinds.updates)

-- the choices by which a type is known that is unknown to all others
abbrev pub choices_for : ℕ → FrameKinds
choices_for kind = record { sessions = kind == 0x41; updates = is_update_type kind }

-- the bytes begin with a frame of such a type
abbrev pub IsKnownTo : FrameKinds → Option (ℕ × List ℕ) → Type 0
IsKnownTo known_to None = ⊥
IsKnownTo known_to (Some p) = known_to ≡ choices_for p.0

-- These pieces were let go: none; or such that an unknown frame of so many bytes begins with them, and is longer. It is known to the choices for its
-- type alone.
pub record AreLetGo (known_to : FrameKinds) (passing gone : ℕ) (front : List (List ℕ)) : Type 0 where
  pub gone_is : gone ≡ length (concat front)
  pub none : passing ≡ 0 → front ≡ []
  pub plain : passing ≡ 0 → known_to ≡ no_kinds
  pub unknown : 0 < passing → unknown_size (let_go_by known_to) (concat front) ≡ Some passing
  pub known : 0 < passing → IsKnownTo known_to (varint_at (concat front))
  pub under_way : 0 < passing → gone < passing

-- What that says of all pieces.
pub record IsPassing (s : Sparing) : Type 0 where
  pub plain : s.passing ≡ 0 → s.known_to ≡ no_kinds
  pub unknown : 0 < s.passing → unknown_size (let_go_by s.known_to) (concat s.pieces) ≡ Some s.passing
  pub known : 0 < s.passing → IsKnownTo s.known_to (varint_at (concat s.pieces))

-- While it is under way none of its bytes are kept.
abbrev pub IsSpared : ℕ → ℕ → List (List ℕ) → Type 0
IsSpared passing gone kept = 0 < passing → gone + length (concat kept) < passing → kept ≡ []
