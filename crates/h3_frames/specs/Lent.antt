-- The bytes that a frame lends, behind a reference.
use Rattle.std.specs.Prelude.{ℕ, List, []}
use Rattle.h3_frames.specs.declared.proto.frame.Frame.{Frame}
use Rattle.h3_frames.specs.declared.proto.frame.Frame.TheVariants as frame
use Rattle.h3_frames.specs.declared.proto.frame.payload.Payload.{Payload}
use Rattle.h3_frames.specs.declared.proto.frame.payload.Payload.TheVariants as payload
use Rattle.h3_frames.specs.declared.proto.frame.payload.PayloadMut.{PayloadMut}
use Rattle.h3_frames.specs.declared.proto.frame.payload.PayloadMut.TheVariants as payload_mut
use Rattle.h3_frames.specs.declared.proto.frame.payload.Lent.{Lent}
use Rattle.h3_frames.specs.declared.proto.frame.payload.Lent.TheVariants as lent

-- the frame has a part that it lends
abbrev pub lends : {B : Type 0} → Frame B → Type 0
lends (frame.Data b) = Unit {0}
lends (frame.Headers section) = Unit {0}
lends (frame.PushPromise p) = Unit {0}
lends (frame.PriorityUpdate u) = Unit {0}
lends _ = ⊥

-- the bytes that are left of it
abbrev pub payload_left : {B : Type 0} → (B → List ℕ) → Payload B → List ℕ
payload_left unread (payload.Data b) = unread b.now
payload_left unread (payload.Bytes bytes) = bytes.now

abbrev pub payload_mut_left : {B : Type 0} → (B → List ℕ) → PayloadMut B → List ℕ
payload_mut_left unread (payload_mut.Data b) = unread b.now
payload_mut_left unread (payload_mut.Bytes bytes) = bytes.now

abbrev pub lent_left : {B : Type 0} → (B → List ℕ) → Lent B → List ℕ
lent_left unread lent.Nothing = []
lent_left unread (lent.Data b) = unread b
lent_left unread (lent.Bytes bytes) = bytes
