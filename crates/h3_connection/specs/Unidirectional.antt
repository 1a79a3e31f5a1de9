-- A unidirectional stream of the peer at its receiver.
use Rattle.std.specs.Prelude.{ℕ, Bool, true, false, not, ◌&&◌, ◌||◌, List, [], ◌∷◌, ◌++◌, if◌then◌else◌, ◌==◌, Option, Some, None, is_some}
use Rattle.h3_coding.specs.Varint.{varint_at}
use Rattle.h3_proto.specs.OtherSettings.{is_reserved}
use Rattle.h3_frames.specs.Pieces.{with_piece}
use Rattle.h3_connection.specs.declared.event.Item.TheVariants as item
use Rattle.h3_connection.specs.declared.event.Pull.{Pull}
use Rattle.h3_connection.specs.declared.event.Pull.TheVariants as pull
use Rattle.h3_connection.specs.declared.event.Fault.TheVariants.{Stream}
use Rattle.h3_connection.specs.declared.event.StreamFault.TheVariants as stream_fault

pub data Role : Type 0 where
  -- the bytes so far, in which the type, or the id that follows it, is not whole
  Untold : (front : List ℕ) → Role
  Control : Role
  Encoder : Role
  Decoder : Role
  Session : (id : ℕ) → Role
  Push : (id : ℕ) → Role
  Ignored : Role
  -- of a type that has no meaning here, and what comes is handed out
  Other : (kind : ℕ) → Role

-- What an endpoint knows of unidirectional streams: whether sessions of WebTransport have a meaning, and whether streams of other types are
-- handed out.
pub record StreamKinds : Type 0 where
  pub sessions : Bool
  pub others : Bool

pub record Unidirectional : Type 0 where
  pub role : Role
  -- what was delivered of a session, or of a stream of another type, and not handed out
  pub unread : List (List ℕ)
  pub ended : Bool
  pub reset_code : Option ℕ
  -- its session was handed out, and its end
  pub is_told : Bool
  pub is_over : Bool

abbrev pub untold : Unidirectional
untold = record { role = Untold []; unread = []; ended = false; reset_code = None; is_told = false; is_over = false }

abbrev pub is_closed : Unidirectional → Bool
is_closed o = o.ended || is_some o.reset_code

-- its sender reset it with this code: what was not handed out is dropped
abbrev pub reset_with : Unidirectional → ℕ → Unidirectional
reset_with o code = record o { unread = []; reset_code = Some code }

-- the control, encoder and decoder streams may not be closed
abbrev pub is_critical : Role → Bool
is_critical Control = true
is_critical Encoder = true
is_critical Decoder = true
is_critical _ = false

-- the role that the first bytes give, and the bytes behind them
abbrev pub with_id : (ℕ → Role) → List ℕ → Option (ℕ × List ℕ) → Role × List ℕ
with_id build front None = (Untold front, [])
with_id build front (Some (id, rest)) = (build id, rest)

-- a stream of type 0x54 belongs to the session of this id, where sessions are known. Else its type has no meaning
abbrev pub session_role : Bool → ℕ → Role
session_role true id = Session id
session_role false id = Ignored

-- a stream of another type, which is no reserved one (RFC 9114, section 6.2.3), where such ones are handed out
abbrev pub other_role : Bool → ℕ → Role
other_role others kind = if others && not (is_reserved kind) then Other kind else Ignored

-- RFC 9114 6.2: type of a unidirectional stream
abbrev pub of_kind : StreamKinds → List ℕ → Option (ℕ × List ℕ) → Role × List ℕ
of_kind known front None = (Untold front, [])
of_kind known front (Some (kind, rest)) =
    if kind == 0 then (Control, rest) else (
    if kind == 1 then with_id Push front (varint_at rest) else (
    if kind == 2 then (Encoder, rest) else (
    if kind == 3 then (Decoder, rest) else (
    if kind == 0x54 then with_id (session_role known.sessions) front (varint_at rest) else (other_role known.others kind, rest)))))

-- the role after further bytes, and those of them that are for that role
abbrev pub role_after : StreamKinds → Role → List ℕ → Role × List ℕ
role_after known (Untold front) bytes = of_kind known (front ++ bytes) (varint_at (front ++ bytes))
role_after known role bytes = (role, bytes)

-- bytes of a session, and of a stream of another type, wait to be pulled
abbrev pub with_bytes : Unidirectional → Role × List ℕ → Unidirectional
with_bytes o (Session id, bytes) = record o { role = Session id; unread = with_piece o.unread bytes }
with_bytes o (Other kind, bytes) = record o { role = Other kind; unread = with_piece o.unread bytes }
with_bytes o (role, bytes) = record o { role = role }

-- the type of a session is whole, and its id is not
abbrev pub may_be_session : Option (ℕ × List ℕ) → Bool
may_be_session None = true
may_be_session (Some kind) = kind.0 == 0x54

abbrev pub untold_pull : Unidirectional → List ℕ → Pull
untold_pull o front =
    if is_closed o then pull.NoMessages else (if may_be_session (varint_at front) then pull.Pending else pull.NoMessages)

-- an answer and the stream after it
abbrev pub raw : Unidirectional → List (List ℕ) → Pull × Unidirectional
raw o [] = if o.ended then (pull.Item item.End, record o { is_over = true }) else (pull.Pending, o)
raw o (piece ∷ pieces) = (pull.Item (item.Raw piece), record o { unread = pieces })

abbrev pub pull_session : ℕ → Unidirectional → Option ℕ → Pull × Unidirectional
pull_session id o (Some code) = (pull.Fault (Stream (stream_fault.Reset code)), o)
pull_session id o None = if o.is_told then raw o o.unread else (pull.Item (item.Session id), record o { is_told = true })

abbrev pub if_over : Bool → Unidirectional → ℕ → Pull × Unidirectional
if_over true o id = (pull.Item item.End, o)
if_over false o id = pull_session id o o.reset_code

-- of a stream of another type nothing is told first: its type is known by its role
abbrev pub raw_or_reset : Unidirectional → Option ℕ → Pull × Unidirectional
raw_or_reset o (Some code) = (pull.Fault (Stream (stream_fault.Reset code)), o)
raw_or_reset o None = raw o o.unread

abbrev pub pull_other : Bool → Unidirectional → Pull × Unidirectional
pull_other true o = (pull.Item item.End, o)
pull_other false o = raw_or_reset o o.reset_code

abbrev pub pull_unidirectional : Unidirectional → Role → Pull × Unidirectional
pull_unidirectional o (Untold front) = (untold_pull o front, o)
pull_unidirectional o (Session id) = if_over o.is_over o id
pull_unidirectional o (Other kind) = pull_other o.is_over o
pull_unidirectional o _ = (pull.NoMessages, o)
