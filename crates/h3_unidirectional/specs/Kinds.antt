-- A unidirectional stream's role and the code of its reset by what is kept of it, and for whom what came is.
use Rattle.std.specs.Prelude.{◌≡◌, ℕ, Bool, true, false, List, [], ◌++◌, Option, Some, None}
use Rattle.h3_coding.specs.Varint.{varint_at}
use Rattle.h3_connection.specs.Unidirectional.{StreamKinds, Role, of_kind, role_after}
use Rattle.h3_connection.specs.Unidirectional.Role.{Untold, Control, Encoder, Decoder, Session, Push, Ignored, Other}
use Rattle.h3_unidirectional.specs.declared.plain.PlainRole.{PlainRole}
use Rattle.h3_unidirectional.specs.declared.plain.PlainRole.TheVariants as plain_role
use Rattle.h3_unidirectional.specs.declared.stream.Kind.{Kind}
use Rattle.h3_unidirectional.specs.declared.stream.Kind.TheVariants as kind
use Rattle.h3_unidirectional.specs.declared.stream.Received.{Received}
use Rattle.h3_unidirectional.specs.declared.stream.Received.TheVariants as received

abbrev pub role_of : Kind → List ℕ → Role
role_of kind.Untold front = Untold front
role_of kind.Control front = Control
role_of kind.Encoder front = Encoder
role_of kind.Decoder front = Decoder
role_of (kind.Session id) front = Session id
role_of (kind.Push id) front = Push id
role_of kind.Ignored front = Ignored
role_of (kind.Other number) front = Other number

-- the role that a type alone tells
abbrev pub plain : PlainRole → Role
plain plain_role.Control = Control
plain plain_role.Encoder = Encoder
plain plain_role.Decoder = Decoder
plain plain_role.Ignored = Ignored

-- the code that it was cut off with, if it was
abbrev pub code_of : Bool → ℕ → Option ℕ
code_of true code = Some code
code_of false _ = None

-- what some bytes make of a stream, and the bytes behind that
abbrev pub head_of : StreamKinds → List ℕ → Role × List ℕ
head_of known bytes = of_kind known bytes (varint_at bytes)

-- the first bytes do not tell it yet, whatever streams are known
abbrev pub IsUnfinished : Kind → List ℕ → Type 0
IsUnfinished kind.Untold front = (known : StreamKinds) → head_of known front ≡ (Untold front, [])
IsUnfinished _ front = Unit {0}

-- they tell this kind, and others are left, or it is not told yet
abbrev pub Tells : StreamKinds → List ℕ → List ℕ → Option Kind → Type 0
Tells known bytes left None = (other : StreamKinds) → head_of other bytes ≡ (Untold bytes, [])
Tells known bytes left (Some kind.Untold) = ⊥
Tells known bytes left (Some k) = head_of known bytes ≡ (role_of k [], left)

-- the bytes that are for a role are for this reader
abbrev pub received_by : Role × List ℕ → Received
received_by (Control, bytes) = received.Control bytes
received_by (Encoder, bytes) = received.Encoder bytes
received_by (Decoder, bytes) = received.Decoder bytes
received_by (Push id, bytes) = received.Push
received_by (Session id, bytes) = received.Session id
received_by (_, bytes) = received.Nothing

abbrev pub is_told_kind : Kind → Bool
is_told_kind kind.Untold = false
is_told_kind _ = true

abbrev pub is_untold : Role → Bool
is_untold (Untold front) = true
is_untold _ = false

-- What tells a role stands in front of the bytes that are for it.
pub record TellsFirst (known : StreamKinds) (before : Role) (bytes : List ℕ) (r : Role) (rest : List ℕ) : Type 0 where
  pub front : List ℕ
  pub cut : bytes ≡ front ++ rest
  pub tells : role_after known before front ≡ (r, [])
