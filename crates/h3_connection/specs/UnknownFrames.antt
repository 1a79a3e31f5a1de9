-- Frames of unknown types (RFC 9114, section 9), and where a frame may begin.
use Rattle.std.specs.Prelude.{◌≡◌, ◌≢◌, ℕ, Bool, false, ◌==◌, ◌||◌, List, [], ◌∷◌, ◌++◌, length, Some, None}
use Rattle.std.specs.List.{concat, AllByRecursion, list_any}
use Rattle.h3_coding.specs.Encodings.{IsEncoding}
use Rattle.h3_frames.specs.declared.frame.kinds.FrameKinds.{FrameKinds}
use Rattle.h3_frames.specs.Frames.{is_http2, is_session, is_update}
use Rattle.h3_connection.specs.Control.{awaits_settings}
use Rattle.h3_connection.specs.Delivering.{delivery_refusal, unidirectional_at}
use Rattle.h3_connection.specs.Endpoint.{EndpointHistory, kind_of}
use Rattle.h3_connection.specs.Endpoint.Kind.{PeerUnidirectional}
use Rattle.h3_connection.specs.Incoming.{Incoming}
use Rattle.h3_connection.specs.StreamSets.{stream_at}
use Rattle.h3_connection.specs.Unidirectional.Role.{Control}
use Rattle.h3_connection.specs.declared.place.Place.TheVariants.{InSession}

-- the types that have a meaning (RFC 9114, section 7.2; 0x41 if sessions of WebTransport are known, those of PRIORITY_UPDATE if it is)
abbrev pub has_meaning : FrameKinds → ℕ → Bool
has_meaning kinds kind = is_session kinds kind || (is_update kinds kind || list_any (λ k. kind == k) (0 ∷ 1 ∷ 3 ∷ 4 ∷ 5 ∷ 7 ∷ 13 ∷ []))

-- The bytes are one whole frame of another type (RFC 9114, section 7.1): its type and length in any encoding, and its payload. Reserved
-- types (RFC 9114, section 7.2.8) are among them.
pub record IsUnknownFrame (kinds : FrameKinds) (bytes : List ℕ) : Type 0 where
  pub kind : ℕ
  pub unknown : has_meaning kinds kind ≡ false
  pub allowed : is_http2 kind ≡ false
  pub kind_bytes : List ℕ
  pub length_bytes : List ℕ
  pub payload : List ℕ
  pub bytes_are : bytes ≡ kind_bytes ++ (length_bytes ++ payload)
  pub kind_is : IsEncoding kind kind_bytes
  pub length_is : IsEncoding (length payload) length_bytes

-- Such frames, one behind the other, and then the rest.
pub record BeginsUnknown (kinds : FrameKinds) (bytes rest : List ℕ) : Type 0 where
  pub frames : List (List ℕ)
  pub unknown : AllByRecursion (IsUnknownFrame kinds) frames
  pub bytes_are : bytes ≡ concat frames ++ rest

-- A frame may begin where the receiver is: in a message that goes on, and neither in a payload nor before a section that is not decoded.
pub record MayBeginFrame (i : Incoming) : Type 0 where
  pub no_fault : i.fault ≡ None
  pub not_over : i.is_over ≡ false
  pub message : i.place ≢ InSession
  pub no_section : i.section ≡ None
  pub no_payload : i.body_left ≡ 0

-- Deliveries on this stream are read as the peer's control stream: its type came, and no connection fault and no end did.
pub record ReadsControl (e : EndpointHistory) (id : ℕ) : Type 0 where
  pub open_still : e.closed ≡ None
  pub kind : kind_of e.side id ≡ PeerUnidirectional
  pub accepted : delivery_refusal e id ≡ None
  pub here : stream_at e.unidirectional id ≡ Some (unidirectional_at e id)
  pub role : (unidirectional_at e id).role ≡ Control
  pub first : e.control_on ≡ Some id
  -- and it takes frames of unknown types there: the settings came, or it does not ask that they are first
  pub takes_unknown : awaits_settings e ≡ false
