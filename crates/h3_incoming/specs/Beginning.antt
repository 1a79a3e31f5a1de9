-- What a frame begins at its place of a message.
use Rattle.std.specs.Prelude.{◌≡◌, ℕ, Bool, false, ◌&&◌, ◌==◌}
use Rattle.h3_proto.specs.declared.stream.Side.{Side}
use Rattle.h3_qpack.specs.DecoderState.{DecoderState}
use Rattle.h3_frames.specs.declared.proto.frame.PayloadLen.{PayloadLen}
use Rattle.h3_frames.specs.declared.proto.frame.Frame.{Frame}
use Rattle.h3_frames.specs.declared.proto.frame.Frame.TheVariants as frame
use Rattle.h3_connection.specs.declared.place.Place.{Place}
use Rattle.h3_connection.specs.declared.setup.Announced.{Announced}
use Rattle.h3_messages.specs.declared.content.Content.{Content}
use Rattle.h3_connection.specs.Incoming.{Incoming, is_body}
use Rattle.h3_connection.specs.Pulling.{Pulled, connection_fault, begun_section, begun_payload, at_payload, at_session, at_frame, new_section}
use Rattle.h3_connection.specs.Skipping.{is_empty_data}
use Rattle.h3_incoming.specs.Resuming.{Begins}
use Rattle.h3_incoming.specs.declared.stream.begun.Begun.{Begun}
use Rattle.h3_incoming.specs.declared.stream.begun.Begun.TheVariants as begun

-- what a pull answers of it
abbrev pub begun_as : Side → Announced → ℕ → DecoderState → Incoming → Begun → Pulled
begun_as side own id r i (begun.Section bytes) = new_section side own id r i bytes
begun_as side own id r i (begun.Payload size) = at_payload id (begun_payload i size)
begun_as side own id r i (begun.Session session) = at_session own i session
begun_as side own id r i (begun.Fault code) = connection_fault code i

-- an empty payload: where its frame stands, nothing begins
abbrev pub is_empty : Begun → Bool
is_empty (begun.Payload size) = size == 0
is_empty _ = false

-- A section is that of its frame.
abbrev pub IsSectionOf : Frame PayloadLen → Begun → Type 0
IsSectionOf f (begun.Section bytes) = f ≡ frame.Headers bytes
IsSectionOf f _ = Unit {0}

-- A section or a payload is begun by its frame.
abbrev pub IsBegunBy : Place → Content → Frame PayloadLen → Begun → Type 0
IsBegunBy place content f (begun.Section bytes) = (i : Incoming) → i.content ≡ content → Begins place f i (begun_section i bytes)
IsBegunBy place _ f (begun.Payload size) = (i : Incoming) → Begins place f i (begun_payload i size)
IsBegunBy place _ f (begun.Session session) = Unit {0}
IsBegunBy place _ f (begun.Fault code) = Unit {0}

-- What a frame begins at this place.
pub record IsBegun (side : Side) (place : Place) (content : Content) (f : Frame PayloadLen) (b : Begun) : Type 0 where
  pub is : (own : Announced) (id : ℕ) (r : DecoderState) (i : Incoming) → i.content ≡ content → at_frame side own id r side i place f ≡ begun_as side own id r i b
  pub begins : IsBegunBy place content f b
  pub section : IsSectionOf f b
  pub empty : (is_body place && is_empty_data f) ≡ is_empty b
