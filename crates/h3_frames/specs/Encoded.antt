-- Frames as they are written (RFC 9114, section 7.1).
use Rattle.std.specs.Prelude.{◌≡◌, ℕ, ◌<◌, ◌^◌, List, [], ◌++◌, length, codes}
use Rattle.h3_coding.specs.Encodings.{encoding}
use Rattle.h3_proto.specs.Ids.{reserved}
use Rattle.h3_proto.specs.Pairs.{payload_of}
use Rattle.h3_frames.specs.Promise.{Promise}
use Rattle.h3_frames.specs.Update.{Update, type_of_update}
use Rattle.h3_frames.specs.declared.proto.frame.Frame.{Frame}
use Rattle.h3_frames.specs.declared.proto.frame.Frame.TheVariants as frame

-- type and length
abbrev pub head_encoding : ℕ → ℕ → List ℕ
head_encoding kind size = encoding kind ++ encoding size

-- type, length and payload
abbrev pub frame_encoding : ℕ → List ℕ → List ℕ
frame_encoding kind payload = head_encoding kind (length payload) ++ payload

-- the payload of PUSH_PROMISE: the push id, then the encoded field section
abbrev pub promise_payload : Promise → List ℕ
promise_payload p = encoding p.id ++ p.section

-- what comes before the field section of a promise
abbrev pub promise_front : Promise → List ℕ
promise_front p = head_encoding 5 (length (promise_payload p)) ++ encoding p.id

-- the payload of PRIORITY_UPDATE: the id, then the text of the priority (RFC 9218, section 7.2)
abbrev pub update_payload : Update → List ℕ
update_payload u = encoding u.id ++ u.value

-- what comes before the text
abbrev pub update_front : Update → List ℕ
update_front u = head_encoding (type_of_update u.is_push) (length (update_payload u)) ++ encoding u.id

module _ {B : Type 0} (unread : B → List ℕ) where
  -- The encoding of a frame, where `unread` gives the payload of DATA. A WebTransport stream has no length.
  abbrev pub encoding_of : Frame B → List ℕ
  encoding_of (frame.Data b) = frame_encoding 0 (unread b)
  encoding_of (frame.Headers section) = frame_encoding 1 section
  encoding_of (frame.CancelPush id) = frame_encoding 3 (encoding id)
  encoding_of (frame.Settings pairs) = frame_encoding 4 (payload_of pairs)
  encoding_of (frame.PushPromise p) = frame_encoding 5 (promise_payload p)
  encoding_of (frame.PriorityUpdate u) = frame_encoding (type_of_update u.is_push) (update_payload u)
  encoding_of (frame.Goaway id) = frame_encoding 7 (encoding id)
  encoding_of (frame.MaxPushId id) = frame_encoding 13 (encoding id)
  encoding_of (frame.WebTransportStream id) = head_encoding 0x41 id
  encoding_of (frame.Grease kind) = frame_encoding kind (codes "grease")

  -- the bytes at its end that the frame lends: the payload of DATA and HEADERS, the field section of a promise, the text of an update
  abbrev pub lent_of : Frame B → List ℕ
  lent_of (frame.Data b) = unread b
  lent_of (frame.Headers section) = section
  lent_of (frame.PushPromise p) = p.section
  lent_of (frame.PriorityUpdate u) = u.value
  lent_of _ = []

  -- the bytes before those
  abbrev pub front_of : Frame B → List ℕ
  front_of (frame.Data b) = head_encoding 0 (length (unread b))
  front_of (frame.Headers section) = head_encoding 1 (length section)
  front_of (frame.PushPromise p) = promise_front p
  front_of (frame.PriorityUpdate u) = update_front u
  front_of f = encoding_of f

  -- what `encode` writes: of DATA and HEADERS the head alone
  abbrev pub written_of : Frame B → List ℕ
  written_of (frame.Data b) = head_encoding 0 (length (unread b))
  written_of (frame.Headers section) = head_encoding 1 (length section)
  written_of f = encoding_of f

  -- the bytes with which a frame is handed out: of DATA its head, of any other all
  abbrev pub needed_of : Frame B → List ℕ
  needed_of (frame.Data b) = head_encoding 0 (length (unread b))
  needed_of f = encoding_of f

  -- The length of the payload has an encoding.
  abbrev pub HasLength : Frame B → Type 0
  HasLength (frame.Data b) = length (unread b) < 2 ^ 62
  HasLength (frame.Headers section) = length section < 2 ^ 62
  HasLength (frame.PushPromise p) = length (promise_payload p) < 2 ^ 62
  HasLength (frame.PriorityUpdate u) = length (update_payload u) < 2 ^ 62
  HasLength _ = Unit {0}

-- each number of a frame has an encoding
abbrev pub HasNumbers : {B : Type 0} → Frame B → Type 0
HasNumbers (frame.CancelPush id) = id < 2 ^ 62
HasNumbers (frame.Settings pairs) = length (payload_of pairs) < 2 ^ 62
HasNumbers (frame.PushPromise p) = p.id < 2 ^ 62
HasNumbers (frame.PriorityUpdate u) = u.id < 2 ^ 62
HasNumbers (frame.Goaway id) = id < 2 ^ 62
HasNumbers (frame.MaxPushId id) = id < 2 ^ 62
HasNumbers (frame.WebTransportStream id) = id < 2 ^ 62
HasNumbers (frame.Grease kind) = kind < 2 ^ 62
HasNumbers _ = Unit {0}

-- a type without a meaning is one of the reserved ones
abbrev pub IsReserved : {B : Type 0} → Frame B → Type 0
IsReserved (frame.Grease kind) = (n : ℕ) × (kind ≡ reserved n)
IsReserved _ = Unit {0}
