-- Bytes of a unidirectional stream of the peer that come in one delivery, or cut in two.
use Rattle.std.specs.Prelude.{◌≡◌, ℕ, ◌+◌, List, ◌++◌, Option, None}
use Rattle.h3_field.specs.Instruction.{DecoderInstruction}
use Rattle.h3_connection.specs.declared.event.Refusal.{Refusal}
use Rattle.h3_connection.specs.Control.{increment}
use Rattle.h3_connection.specs.Delivering.{deliver, unidirectional_at}
use Rattle.h3_connection.specs.Endpoint.{EndpointHistory}
use Rattle.h3_connection.specs.StrictConnection.{known_streams}
use Rattle.h3_connection.specs.Unidirectional.{Role, role_after}
use Rattle.h3_connection.specs.Unidirectional.Role.{Encoder, Other, Session}

-- The answers are the same, and where nothing is refused this holds of what is left.
pub record SameAnswers (Left : EndpointHistory → EndpointHistory → Type 0) (one two : Option Refusal × EndpointHistory) : Type 0 where
  pub answer : one.0 ≡ two.0
  pub left : one.0 ≡ None → Left one.1 two.1

-- nothing differs
abbrev pub IsSame : EndpointHistory → EndpointHistory → Type 0
IsSame one two = one ≡ two

abbrev pub with_replies : EndpointHistory → List DecoderInstruction → EndpointHistory
with_replies e replies = record e { own = record e.own { replies = replies } }

-- Nothing differs but that one increment was written as two, or none, whose sum it is (RFC 9204, section 4.4.3).
pub record DiffersInIncrements (before : List DecoderInstruction) (one two : EndpointHistory) : Type 0 where
  pub first : ℕ
  pub second : ℕ
  pub same : one ≡ with_replies two one.own.replies
  pub at_once : one.own.replies ≡ before ++ increment (first + second)
  pub apart : two.own.replies ≡ (before ++ increment first) ++ increment second

-- what differs on a stream of this role, where these replies were written before
abbrev pub LeftAs : Role → List DecoderInstruction → EndpointHistory → EndpointHistory → Type 0
LeftAs Encoder before one two = DiffersInIncrements before one two
LeftAs _ before one two = one ≡ two

-- what these bytes make of the stream's role
abbrev pub role_with : EndpointHistory → ℕ → List ℕ → Role
role_with e id bytes = (role_after (known_streams e.announced) (unidirectional_at e id).role bytes).0

-- no session, and no stream of another type: what comes of one waits in pieces to be pulled
abbrev pub IsNoSession : Role → Type 0
IsNoSession (Session id) = ⊥
IsNoSession (Other kind) = ⊥
IsNoSession _ = Unit {0}

-- the same bytes in two deliveries
abbrev pub deliver_cut : EndpointHistory → ℕ → List ℕ → List ℕ → Option Refusal × EndpointHistory
deliver_cut e id first second = deliver (deliver e id first).1 id second
