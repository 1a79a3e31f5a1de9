-- What a reading leaves that was refused memory: whole frames or instructions at the front were read, and the rest is as it was.
use Rattle.std.specs.Prelude.{◌≡◌, ℕ, Bool, false, List, [], ◌++◌, Some, if◌then◌else◌}
use Rattle.h3_proto.specs.declared.stream.Side.{Side}
use Rattle.h3_frames.specs.declared.frame.kinds.FrameKinds.{FrameKinds}
use Rattle.h3_qpack.specs.EncoderHistory.{EncoderHistory}
use Rattle.h3_qpack.specs.EncoderState.{encoder_state}
use Rattle.h3_qpack.specs.Hearing.{heard, listened}
use Rattle.h3_connection.specs.Codes.{settings_error}
use Rattle.h3_connection.specs.Control.{settings_alone}
use Rattle.h3_connection.specs.ExcessiveInstructions.{hear_up_to, listen_up_to}
use Rattle.h3_connection.specs.KeptGoaways.{kept_found, kept_peer}
use Rattle.h3_connection.specs.Listeners.{Decoding, Encoding, heard_more}
use Rattle.h3_connection.specs.PartReading.{PeerReadsPart, HearsPart, ListensPart}
use Rattle.h3_connection.specs.PeerReading.{Peer, PeerFound, with_unread, read_peer}
use Rattle.h3_connection.specs.StrictConnection.{settings_refused}
use Rattle.h3_connection.specs.declared.setup.Announced.{Announced}

-- The peer's control stream, where frames are taken up to this limit: whatever follows the front, it is read on from there.
pub record ReadsFront (kinds : FrameKinds) (limit : ℕ) (side : Side) (old new : Peer) : Type 0 where
  pub front : List ℕ
  pub split : old.unread ≡ front ++ new.unread
  pub goes_on : (more : List ℕ) → read_peer kinds limit side (with_unread old (front ++ more)) ≡ read_peer kinds limit side (with_unread new more)

-- The same up to what is kept of the ids of GOAWAY frames: all, or the last one alone.
pub record KeepsFront (kinds : FrameKinds) (last : Bool) (limit : ℕ) (side : Side) (old new : Peer) : Type 0 where
  pub front : List ℕ
  pub split : old.unread ≡ front ++ new.unread
  pub goes_on : (more : List ℕ) → kept_found last (read_peer kinds limit side (with_unread old (front ++ more))) ≡ kept_found last (read_peer kinds limit side (with_unread new more))

-- And what is stored is what is kept.
pub record KeepsOn (kinds : FrameKinds) (last : Bool) (limit : ℕ) (side : Side) (old new : Peer) : Type 0 where
  pub front : KeepsFront kinds last limit side old new
  pub kept : new ≡ kept_peer last new

-- What is found where the settings are due: of settings that are refused nothing else is kept.
abbrev pub found_first : Side → Announced → Peer → PeerFound → PeerFound
found_first side own old found = if settings_refused side own found.0.settings then (settings_alone old found.0.settings, Some settings_error) else found

-- A front of this peer's stream was read, without a fault, and this is kept.
pub record IsPart (kinds : FrameKinds) (last : Bool) (limit : ℕ) (side : Side) (p new : Peer) : Type 0 where
  pub after : Peer
  pub part : PeerReadsPart kinds limit side p after
  pub kept : new ≡ kept_peer last after

-- So it is of each peer of which the old one is kept.
pub record KeepsPart (kinds : FrameKinds) (last : Bool) (limit : ℕ) (side : Side) (old new : Peer) : Type 0 where
  pub each : (p : Peer) → old ≡ kept_peer last p → IsPart kinds last limit side p new

-- And a later reading gives what one of the whole would have given, whatever comes behind.
pub record StopsReading (kinds : FrameKinds) (last : Bool) (limit : ℕ) (side : Side) (old new : Peer) : Type 0 where
  pub part : KeepsPart kinds last limit side old new
  pub resumes : (more : List ℕ) → kept_found last (read_peer kinds limit side (with_unread new (new.unread ++ more))) ≡ kept_found last (read_peer kinds limit side (with_unread old (old.unread ++ more)))

-- The same of the peer's encoder stream, where instructions are taken up to this limit.
pub record HearsFront (most : ℕ) (old new : Decoding) : Type 0 where
  pub front : List ℕ
  pub split : old.unread ≡ front ++ new.unread
  pub heard : hear_up_to most old.decoder front ≡ heard new.decoder [] false
  pub goes_on : (more : List ℕ) → hear_up_to most old.decoder (front ++ more) ≡ hear_up_to most new.decoder more

pub record StopsHearing (most : ℕ) (old new : Decoding) : Type 0 where
  pub part : HearsPart most old new
  pub resumes : (more : List ℕ) → heard_more most new more ≡ heard_more most old more

-- The same of the peer's decoder stream, where this is the history of the own encoder, and that the one after it.
pub record ListensFront (most : ℕ) (s : EncoderHistory) (old new : Encoding) : Type 0 where
  pub after : EncoderHistory
  pub state : new.encoder ≡ encoder_state after
  pub front : List ℕ
  pub split : old.unread ≡ front ++ new.unread
  pub listened : listen_up_to most s front ≡ listened after [] false
  pub goes_on : (more : List ℕ) → listen_up_to most s (front ++ more) ≡ listen_up_to most after more

pub record StopsListening (most : ℕ) (s : EncoderHistory) (old new : Encoding) : Type 0 where
  pub after : EncoderHistory
  pub state : new.encoder ≡ encoder_state after
  pub part : ListensPart most s after old.unread new.unread
  pub resumes : (more : List ℕ) → listen_up_to most after (new.unread ++ more) ≡ listen_up_to most s (old.unread ++ more)
