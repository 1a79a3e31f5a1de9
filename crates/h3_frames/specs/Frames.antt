-- What bytes begin with, as frames (RFC 9114, section 7.1).
use Rattle.std.specs.Prelude.{◌≡◌, ℕ, ◌<◌, ◌≤◌, ◌+◌, ◌-◌, ◌==◌, ◌&&◌, Bool, true, false, List, [], ◌∷◌, ◌++◌, length, take, drop, nat_lt, if◌then◌else◌, Option, Some, None, Result, Ok, Err}
use Rattle.std.specs.List.{list_any}
use Rattle.std.specs.Option.{is_some}
use Rattle.h3_coding.specs.Varint.{varint_at}
use Rattle.h3_proto.specs.Settings.{settings_of}
use Rattle.h3_proto.specs.declared.frame.SettingsError.{SettingsError}
use Rattle.h3_frames.specs.Update.{is_update_type}
use Rattle.h3_frames.specs.declared.frame.kinds.FrameKinds.{FrameKinds}
use Rattle.h3_frames.specs.declared.proto.frame.PayloadLen.{PayloadLen}
use Rattle.h3_frames.specs.declared.proto.frame.Frame.{Frame}
use Rattle.h3_frames.specs.declared.proto.frame.Frame.TheVariants as frame
use Rattle.h3_frames.specs.declared.proto.frame.FrameError.{FrameError}
use Rattle.h3_frames.specs.declared.proto.frame.FrameError.TheVariants as error

-- What bytes begin with: a whole frame (of DATA its head) and what follows it, a whole unknown frame and what follows
-- it, a frame that is refused, or less than a frame, with how many bytes another try needs.
pub data Front : Type 0 where
  Whole : (f : Frame PayloadLen) (rest : List ℕ) → Front
  Unknown : (kind : ℕ) (rest : List ℕ) → Front
  Refused : (e : FrameError) → Front
  Unfinished : (least : ℕ) → Front

-- a payload that is one number
abbrev pub alone : List ℕ → Frame PayloadLen → List ℕ → Front
alone [] f rest = Whole f rest
alone (byte ∷ bytes) f rest = Refused error.Malformed

-- RFC 9114 7.1: a payload that is one number
abbrev pub one_number : Option (ℕ × List ℕ) → (ℕ → Frame PayloadLen) → List ℕ → Front
one_number None make rest = Refused error.Malformed
one_number (Some p) make rest = alone p.1 (make p.0) rest

-- no number, or one with bytes behind it
abbrev pub IsNoNumber : Option (ℕ × List ℕ) → Type 0
IsNoNumber None = Unit {0}
IsNoNumber (Some p) = 0 < length p.1

abbrev pub settings_frame : Result (List (ℕ × ℕ)) SettingsError → List ℕ → Front
settings_frame (Ok settings) rest = Whole (frame.Settings settings) rest
settings_frame (Err e) rest = Refused (error.Settings e)

abbrev pub promise_frame : Option (ℕ × List ℕ) → List ℕ → Front
promise_frame None rest = Refused error.Malformed
promise_frame (Some p) rest = Whole (frame.PushPromise (record { id = p.0; section = p.1 })) rest

-- RFC 9114 7.2.8: frame types of HTTP/2
-- the types of HTTP/2, which HTTP/3 refuses
abbrev pub is_http2 : ℕ → Bool
is_http2 kind = list_any (λ k. k == kind) (2 ∷ 6 ∷ 8 ∷ 9 ∷ [])

-- all types that are read here have a meaning
abbrev pub plain_frames : FrameKinds
plain_frames = record { sessions = true; updates = false }

-- 0x41 begins a session of WebTransport where those are known. Else it is the type of an unknown frame
abbrev pub is_session : FrameKinds → ℕ → Bool
is_session kinds kind = (kind == 0x41) && kinds.sessions

-- PRIORITY_UPDATE is known if that is chosen. Else its types are those of unknown frames
abbrev pub is_update : FrameKinds → ℕ → Bool
is_update kinds kind = kinds.updates && is_update_type kind

-- RFC 9218 7.2: PRIORITY_UPDATE, read whole
-- the id of what it is for, then the text of its priority
abbrev pub update_frame : ℕ → Option (ℕ × List ℕ) → List ℕ → Front
update_frame kind None rest = Refused error.Malformed
update_frame kind (Some p) rest = Whole (frame.PriorityUpdate (record { is_push = kind == 0xf0701; id = p.0; value = p.1 })) rest

-- the frame of a type and a whole payload (RFC 9114, section 7.2): | type (i) | length (i) | payload |, with the types HEADERS 1,
-- CANCEL_PUSH 3, SETTINGS 4, PUSH_PROMISE 5, GOAWAY 7 and MAX_PUSH_ID 13; DATA, 0, is in `with_head`, as its payload is not waited for
unfoldable pub frame_of : ℕ → List ℕ → List ℕ → Front
frame_of kind payload rest =
    if kind == 1 then Whole (frame.Headers payload) rest
    else (if kind == 3 then one_number (varint_at payload) (λ id. frame.CancelPush id) rest
    else (if kind == 4 then settings_frame (settings_of payload) rest
    else (if kind == 5 then promise_frame (varint_at payload) rest
    else (if kind == 7 then one_number (varint_at payload) (λ id. frame.Goaway id) rest
    else (if kind == 13 then one_number (varint_at payload) (λ id. frame.MaxPushId id) rest
    else (if is_http2 kind then Refused (error.UnsupportedFrame kind)
    else Unknown kind rest))))))

-- the frame of a type and a whole payload, if frames of these kinds are known
abbrev pub frame_known : FrameKinds → ℕ → List ℕ → List ℕ → Front
frame_known kinds kind payload rest = if is_update kinds kind then update_frame kind (varint_at payload) rest else frame_of kind payload rest

-- a frame whose head is whole; size is the count of all bytes, the head's among them
abbrev pub with_head : FrameKinds → ℕ → ℕ → ℕ → List ℕ → Front
with_head kinds size kind number behind =
    if is_session kinds kind then Whole (frame.WebTransportStream number) behind
    else (if kind == 0 then Whole (frame.Data (record { 0 = number })) behind
    else (if nat_lt (length behind) number then Unfinished (size - length behind + number)
    else frame_known kinds kind (take number behind) (drop number behind)))

abbrev pub with_number : FrameKinds → ℕ → ℕ → Option (ℕ × List ℕ) → Front
with_number kinds size kind None = Unfinished (size + 1)
with_number kinds size kind (Some p) = with_head kinds size kind p.0 p.1

abbrev pub with_kind : FrameKinds → ℕ → Option (ℕ × List ℕ) → Front
with_kind kinds size None = Unfinished (size + 1)
with_kind kinds size (Some p) = with_number kinds size p.0 (varint_at p.1)

-- what the bytes begin with, where frames of these kinds are known
unfoldable pub frame_by : FrameKinds → List ℕ → Front
frame_by kinds bytes = with_kind kinds (length bytes) (varint_at bytes)

-- the same where all are
abbrev pub frame_at : List ℕ → Front
frame_at = frame_by plain_frames

-- behind the type there is a whole number
abbrev pub is_followed : Option (ℕ × List ℕ) → Bool
is_followed None = false
is_followed (Some p) = is_some (varint_at p.1)

-- the bytes begin with a whole head: a type, and the number behind it
abbrev pub has_head : List ℕ → Bool
has_head bytes = is_followed (varint_at bytes)

-- The bytes begin with a type and a number, and these follow.
abbrev pub BeginsWithHead : ℕ → ℕ → List ℕ → List ℕ → Type 0
BeginsWithHead kind number bytes behind = (mid : List ℕ) × (varint_at bytes ≡ Some (kind, mid)) × (varint_at mid ≡ Some (number, behind))

-- The bytes begin with a HEADERS frame: a head of so many bytes, and a field section of so many.
pub record IsHeadersFrame (bytes : List ℕ) (head size : ℕ) : Type 0 where
  pub read : BeginsWithHead 1 size bytes (drop head bytes)
  pub there : head + size ≤ length bytes

-- only a frame whose payload is handed out wants memory
abbrev pub TakesMemory : Front → Type 0
TakesMemory (Whole (frame.Headers section) rest) = Unit {0}
TakesMemory (Whole (frame.PushPromise p) rest) = Unit {0}
TakesMemory (Whole (frame.PriorityUpdate u) rest) = Unit {0}
TakesMemory _ = ⊥

-- some bytes at the front are taken
abbrev pub TakesFront : List ℕ → List ℕ → Type 0
TakesFront old new = (taken : List ℕ) × (old ≡ taken ++ new)

-- what a try answers and leaves
abbrev pub Decodes : Result (Frame PayloadLen) FrameError → Front → List ℕ → Type 0
Decodes (Ok f) front new = front ≡ Whole f new
Decodes (Err (error.UnknownFrame kind)) front new = front ≡ Unknown kind new
Decodes (Err (error.Incomplete least)) front new = front ≡ Unfinished least
Decodes (Err error.OutOfMemory) front new = TakesMemory front
Decodes (Err error.Malformed) front new = front ≡ Refused error.Malformed
Decodes (Err (error.UnsupportedFrame kind)) front new = front ≡ Refused (error.UnsupportedFrame kind)
Decodes (Err (error.Settings e)) front new = front ≡ Refused (error.Settings e)
Decodes (Err error.InvalidFrameValue) front new = ⊥
Decodes (Err (error.InvalidStreamId e)) front new = ⊥
Decodes (Err (error.InvalidPushId e)) front new = ⊥
