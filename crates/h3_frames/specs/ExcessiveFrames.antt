-- Frames that are longer than their reader takes (RFC 9114, section 10.5).
use Rattle.std.specs.Prelude.{◌≡◌, ◌<◌, ℕ, Bool, false, ◌&&◌, ◌||◌, ◌==◌, List, nat_le, nat_lt, Option, Some, None}
use Rattle.h3_coding.specs.Varint.{varint_at}
use Rattle.h3_proto.specs.Config.{is_limit}
use Rattle.h3_frames.specs.Frames.{is_update}
use Rattle.h3_frames.specs.declared.frame.kinds.FrameKinds.{FrameKinds}

-- the types of frames whose payload is kept until it is whole: all below 10 but DATA, and MAX_PUSH_ID. They are HEADERS 1, CANCEL_PUSH 3,
-- SETTINGS 4, PUSH_PROMISE 5 and GOAWAY 7 (RFC 9114, section 7.2), and those of HTTP/2 that are refused (section 7.2.8)
abbrev pub is_kept_whole : ℕ → Bool
is_kept_whole kind = (nat_le 1 kind && nat_le kind 9) || (kind == 13)

-- behind a type of these the length is above the limit
abbrev pub is_too_long : ℕ → ℕ → Option (ℕ × List ℕ) → Bool
is_too_long most kind None = false
is_too_long most kind (Some p) = is_kept_whole kind && nat_lt most p.0

abbrev pub says_too_much : ℕ → Option (ℕ × List ℕ) → Bool
says_too_much most None = false
says_too_much most (Some p) = is_too_long most p.0 (varint_at p.1)

-- the type is there, and is this one
abbrev pub is_of_type : ℕ → Option (ℕ × List ℕ) → Bool
is_of_type kind None = false
is_of_type kind (Some p) = p.0 == kind

-- what the head says, as far as it came: its type, and its length, or 0 where that is not there
abbrev pub length_said : Option (ℕ × List ℕ) → ℕ
length_said None = 0
length_said (Some p) = p.0

abbrev pub head_said : Option (ℕ × List ℕ) → Option (ℕ × ℕ)
head_said None = None
head_said (Some p) = Some (p.0, length_said (varint_at p.1))

-- by that it is one whose payload is kept, and longer; or it has this type
abbrev pub tells_too_much : FrameKinds → ℕ → Option (ℕ × ℕ) → Bool
tells_too_much kinds most None = false
tells_too_much kinds most (Some h) = (is_kept_whole h.0 || is_update kinds h.0) && nat_lt most h.1

-- the length alone
abbrev pub number_said : Option (ℕ × ℕ) → ℕ
number_said None = 0
number_said (Some h) = h.1

-- Where the bytes of a frame were let go, its head says this length.
abbrev pub SaysLength : ℕ → ℕ → List ℕ → Type 0
SaysLength passing number bytes = 0 < passing → number_said (head_said (varint_at bytes)) ≡ number

-- The bytes begin with HEADERS (RFC 9114, section 7.2.2)
abbrev pub begins_section : List ℕ → Bool
begins_section bytes = is_of_type 1 (varint_at bytes)

-- RFC 9114 10.5: unfinished_limit of frames
-- There is a limit, and the bytes begin with the head of a frame whose payload is kept, and that is longer. The payload need not be there.
abbrev pub is_excessive : ℕ → List ℕ → Bool
is_excessive most bytes = is_limit most && says_too_much most (varint_at bytes)

-- The same of PRIORITY_UPDATE, whose payload is kept too if such frames are known (RFC 9218, section 7.2)
abbrev pub is_long_update : FrameKinds → ℕ → ℕ → Option (ℕ × List ℕ) → Bool
is_long_update kinds most kind None = false
is_long_update kinds most kind (Some p) = is_update kinds kind && nat_lt most p.0

abbrev pub says_long_update : FrameKinds → ℕ → Option (ℕ × List ℕ) → Bool
says_long_update kinds most None = false
says_long_update kinds most (Some p) = is_long_update kinds most p.0 (varint_at p.1)

-- and of all frames whose payload is kept, if frames of these kinds are known
abbrev pub is_excessive_by : FrameKinds → ℕ → List ℕ → Bool
is_excessive_by kinds most bytes = (kinds.updates && (is_limit most && says_long_update kinds most (varint_at bytes))) || is_excessive most bytes
