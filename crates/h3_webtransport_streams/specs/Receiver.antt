-- What comes on a stream of a session that no other part reads: a server's stream both ways at its client, and the other half of an own one.
use Rattle.std.specs.Prelude.{ℕ, ◌%◌, ◌^◌, ◌==◌, nat_lt, Bool, true, false, ◌&&◌, ◌||◌, List, [], ◌∷◌, drop, Option, Some, None, is_some, if◌then◌else◌}
use Rattle.h3_capsule.specs.Capsule.{Place, Answer, read_on}
use Rattle.h3_capsule.specs.Capsule.Place.{InHead}
use Rattle.h3_capsule.specs.declared.capsule.Capsule.TheVariants.{Head}
use Rattle.h3_frames.specs.Pieces.{with_piece}
use Rattle.h3_connection.specs.declared.event.Refusal.{Refusal}
use Rattle.h3_connection.specs.declared.event.Refusal.TheVariants as refusal
use Rattle.h3_connection.specs.declared.event.Item.TheVariants as item
use Rattle.h3_connection.specs.declared.event.Pull.{Pull}
use Rattle.h3_connection.specs.declared.event.Pull.TheVariants as pull
use Rattle.h3_connection.specs.declared.event.Fault.TheVariants.{Stream}
use Rattle.h3_connection.specs.declared.event.StreamFault.TheVariants as stream_fault

pub record Receiver : Type 0 where
  -- while its type and the session's id are not whole: how far they are read, as the type and the length of a capsule are
  pub front : Option Place
  -- what came behind them and was not pulled
  pub unread : List (List ℕ)
  -- its session was handed out, or is known to the caller, who opened the stream
  pub is_told : Bool
  pub ended : Bool
  pub reset_code : Option ℕ
  -- its end was handed out
  pub is_over : Bool
  pub is_canceled : Bool

-- of a stream of the peer nothing came
abbrev pub untold : Receiver
untold = record { front = Some (InHead []); unread = []; is_told = false; ended = false; reset_code = None; is_over = false; is_canceled = false }

-- an own stream has no front of the peer
abbrev pub answering : Receiver
answering = record untold { front = None; is_told = true }

-- of one that another part read nothing more is needed, whose end came there or not
abbrev pub given_up : Bool → Receiver
given_up ended = record answering { ended = ended; is_canceled = true }

-- nothing more comes
abbrev pub is_closed : Receiver → Bool
is_closed r = r.ended || is_some r.reset_code

-- the bytes behind the front, of which none are kept where the stream was given up
abbrev pub with_bytes : Receiver → List ℕ → Receiver
with_bytes r bytes = record r { front = None; unread = if r.is_canceled then r.unread else with_piece r.unread bytes }

-- the id of a session is that of a request stream
unfoldable pub names_session : ℕ → Bool
names_session n = nat_lt n (2 ^ 62) && (n % 4 == 0)

-- What bytes do to a stream: the session that its front names, and the receiver after it; or they are no front of a session's stream, or
-- name no session, which is named by a request stream.
pub data Arrived : Type 0 where
  Taken : (session : Option ℕ) (receiver : Receiver) → Arrived
  NoFront : Arrived
  NoSession : Arrived

abbrev pub behind_front : Receiver → List ℕ → (kind session used : ℕ) → Arrived
behind_front r bytes kind session used =
    if kind == 0x41 then (if names_session session then Taken (Some session) (with_bytes r (drop used bytes)) else NoSession) else NoFront

abbrev pub read_front : Receiver → List ℕ → Answer → Arrived
read_front r bytes (used, Head kind session, place) = behind_front r bytes kind session used
read_front r bytes (used, capsule, place) = Taken None (record r { front = Some place })

abbrev pub arrived : Receiver → Option Place → List ℕ → Arrived
arrived r None bytes = Taken None (with_bytes r bytes)
arrived r (Some place) bytes = read_front r bytes (read_on place bytes)

abbrev pub came : Receiver → List ℕ → Arrived
came r bytes = arrived r r.front bytes

-- its end came, or its sender cut it off: what was not pulled is thrown away then
abbrev pub with_end : Receiver → Receiver
with_end r = record r { ended = true }

abbrev pub with_reset : Receiver → ℕ → Receiver
with_reset r code = record r { unread = []; reset_code = Some code }

-- Why a delivery is refused.
abbrev pub closed_refusal : Receiver → Option Refusal
closed_refusal r = if is_closed r then Some refusal.AfterEnd else None

-- the next bytes, or the end
abbrev pub raw : Receiver → List (List ℕ) → Pull × Receiver
raw r [] = if r.ended then (pull.Item item.End, record r { is_over = true }) else (pull.Pending, r)
raw r (piece ∷ pieces) = (pull.Item (item.Raw piece), record r { unread = pieces })

abbrev pub told_or_raw : Receiver → (session : Option ℕ) → Pull × Receiver
told_or_raw r None = ((if r.ended then pull.NoMessages else pull.Pending), r)
told_or_raw r (Some session) = if r.is_told then raw r r.unread else (pull.Item (item.Session session), record r { is_told = true })

abbrev pub unless_reset : Receiver → Option ℕ → Option ℕ → Pull × Receiver
unless_reset r session (Some code) = (pull.Fault (Stream (stream_fault.Reset code)), r)
unless_reset r session None = told_or_raw r session

-- What a pull answers: that it was given up, its end again, its reset, or what comes next
abbrev pub pulled : Receiver → (session : Option ℕ) → Pull × Receiver
pulled r session =
    if r.is_canceled then (pull.Fault (Stream stream_fault.Canceled), r) else (
    if r.is_over then (pull.Item item.End, r) else unless_reset r session r.reset_code)

-- it is over, or was given up before
abbrev pub is_done : Receiver → Bool
is_done r = r.is_over || r.is_canceled || is_some r.reset_code

-- nothing more of it is needed, and what is there is thrown away
abbrev pub canceled : Receiver → Option Refusal × Receiver
canceled r = if is_done r then (Some refusal.Ended, r) else (None, record r { unread = []; is_canceled = true })
