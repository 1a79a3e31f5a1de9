-- One direction of a request stream: what was sent on it, how far it was delivered, and what was handed out.
use Rattle.std.specs.Prelude.{ℕ, ◌-◌, Bool, false, List, [], ◌∷◌, length, flat_map, Option, None, if◌then◌else◌}
use Rattle.h3_field.specs.Field.{Field}
use Rattle.h3_connection.specs.Outgoing.{OwnPart, Outgoing}
use Rattle.h3_connection.specs.Outgoing as sender
use Rattle.h3_connection.specs.Outgoing.OwnPart.{OwnInterim, OwnHead, OwnBody, OwnTrailer}
use Rattle.h3_connection.specs.declared.event.StreamFault.{StreamFault}

-- A field section as it was sent: its fields, the encoded field section and its required insert count (RFC 9204, section
-- 4.5), and how long the stream's own bytes and the encoder stream's were once it was sent.
pub record Section : Type 0 where
  pub fields : List Field
  pub encoded : List ℕ
  pub count : ℕ
  pub own_length : ℕ
  pub encoder_length : ℕ

-- The parts of a message (RFC 9114, section 4.1). A piece of the body has the length of the stream's own bytes too.
pub data Part : Type 0 where
  Interim : (section : Section) → Part
  Head : (section : Section) → Part
  Body : (bytes : List ℕ) (own_length : ℕ) → Part
  Trailer : (section : Section) → Part
  End : Part

-- a part as its sender writes it, and nothing for the end
abbrev pub own_part : Part → List OwnPart
own_part (Interim s) = OwnInterim s.encoded ∷ []
own_part (Head s) = OwnHead s.encoded ∷ []
own_part (Body bytes own) = OwnBody bytes ∷ []
own_part (Trailer s) = OwnTrailer s.encoded ∷ []
own_part End = []

-- the bytes of a part: one frame, but for the end (RFC 9114, sections 7.2.1 and 7.2.2)
abbrev pub part_bytes : Part → List ℕ
part_bytes (Interim s) = sender.written_part (OwnInterim s.encoded)
part_bytes (Head s) = sender.written_part (OwnHead s.encoded)
part_bytes (Body bytes own) = sender.written_part (OwnBody bytes)
part_bytes (Trailer s) = sender.written_part (OwnTrailer s.encoded)
part_bytes End = []

pub record Flow : Type 0 where
  pub sent : List Part
  -- how many of its bytes were delivered
  pub delivered : ℕ
  -- the sender has reset it
  pub is_reset : Bool
  -- whether anything was delivered, an empty piece too, its end, and its reset
  pub seen : Bool
  pub ended : Bool
  pub reset_came : Bool
  -- why the receiver gave it up
  pub fault : Option StreamFault
  -- the required insert count that its last pull waited for, or 0
  pub waits_for : ℕ
  -- how many parts were handed out, and how many bytes of the next one
  pub parts_out : ℕ
  pub body_out : ℕ

-- a flow on which nothing has happened
abbrev pub unused : Flow
unused =
    record {
      sent = [];
      delivered = 0;
      is_reset = false;
      seen = false;
      ended = false;
      reset_came = false;
      fault = None;
      waits_for = 0;
      parts_out = 0;
      body_out = 0;
    }

-- the bytes written
abbrev pub flow_bytes : Flow → List ℕ
flow_bytes f = flat_map part_bytes f.sent

-- how many bytes wait to be delivered
abbrev pub bytes_waiting : Flow → ℕ
bytes_waiting f = if f.is_reset then 0 else length (flow_bytes f) - f.delivered
