-- What the peer's control stream begins with, where SETTINGS has to come first (RFC 9114, section 6.2.1).
use Rattle.std.specs.Prelude.{◌≡◌, ℕ, false, List, Some, None}
use Rattle.h3_coding.specs.Varint.{varint_at}
use Rattle.h3_proto.specs.declared.stream.Side.{Side}
use Rattle.h3_frames.specs.declared.frame.kinds.FrameKinds.{FrameKinds}
use Rattle.h3_frames.specs.ExcessiveFrames.{is_excessive_by}
use Rattle.h3_frames.specs.FirstFrames.{begins_other}
use Rattle.h3_frames.specs.Frames.{Front, Whole, Refused, Unfinished, frame_by}
use Rattle.h3_frames.specs.declared.proto.frame.Frame.TheVariants as frame
use Rattle.h3_frames.specs.declared.proto.frame.FrameError.{FrameError}
use Rattle.h3_connection.specs.PeerReading.{Peer, read_peer}

-- No frame's head is whole: nothing is known of it.
pub record NoHead (kinds : FrameKinds) (bytes : List ℕ) : Type 0 where
  pub other : begins_other bytes ≡ false
  pub least : ℕ
  pub waits : frame_by kinds bytes ≡ Unfinished least
  pub small : (limit : ℕ) → is_excessive_by kinds limit bytes ≡ false

-- it is: its type and its length are there
pub record HasHead (bytes : List ℕ) : Type 0 where
  pub kind : ℕ
  pub number : ℕ
  pub mid : List ℕ
  pub behind : List ℕ
  pub kind_at : varint_at bytes ≡ Some (kind, mid)
  pub number_at : varint_at mid ≡ Some (number, behind)

-- SETTINGS: it is not whole, or it is, or it is refused
pub data SettingsFront (x : Front) : Type 0 where
  Waits : (least : ℕ) → x ≡ Unfinished least → SettingsFront x
  Came : (pairs : List (ℕ × ℕ)) (rest : List ℕ) → x ≡ Whole (frame.Settings pairs) rest → SettingsFront x
  Bad : (e : FrameError) → x ≡ Refused e → SettingsFront x

-- What is read where the settings are due, and the bytes do not begin with another frame: nothing; or the settings first; or there is a fault without them.
pub data FirstRead (kinds : FrameKinds) (limit : ℕ) (side : Side) (p : Peer) : Type 0 where
  Nothing : read_peer kinds limit side p ≡ (p, None) → FirstRead kinds limit side p
  Settings : HasHead p.unread → (pairs : List (ℕ × ℕ)) → (read_peer kinds limit side p).0.settings ≡ Some pairs → FirstRead kinds limit side p
  Fails : HasHead p.unread → (code : ℕ) → (read_peer kinds limit side p).1 ≡ Some code → (read_peer kinds limit side p).0.settings ≡ None → FirstRead kinds limit side p
