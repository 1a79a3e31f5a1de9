-- Which list of fields came next on a stream: that of the field section that is next, as the table decodes it, with all that is kept read first.
use Rattle.std.specs.Prelude.{ℕ, List, [], ◌∷◌, if◌then◌else◌, Option, Some, None}
use Rattle.std.specs.List.{concat}
use Rattle.h3_field.specs.Field.{Field}
use Rattle.h3_qpack.specs.DecodedSection.{DecodedSection, Fields, decode_section}
use Rattle.h3_qpack.specs.DecoderState.{DecoderState}
use Rattle.h3_frames.specs.Frames.{Front, Whole, frame_by}
use Rattle.h3_frames.specs.declared.proto.frame.PayloadLen.{PayloadLen}
use Rattle.h3_frames.specs.declared.proto.frame.Frame.{Frame}
use Rattle.h3_frames.specs.declared.proto.frame.Frame.TheVariants as frame
use Rattle.h3_connection.specs.declared.arrival.Arrival.{Arrival}
use Rattle.h3_connection.specs.declared.event.Item.TheVariants as item
use Rattle.h3_connection.specs.declared.event.Pull.{Pull}
use Rattle.h3_connection.specs.declared.event.Pull.TheVariants as pull
use Rattle.h3_connection.specs.Endpoint.{EndpointHistory, Kind, kind_of}
use Rattle.h3_connection.specs.Endpoint.Kind.{Request}
use Rattle.h3_connection.specs.Incoming.{Incoming, is_body}
use Rattle.h3_connection.specs.Keeping.{read_all, unkept, settles}
use Rattle.h3_connection.specs.Skipping.{skipped}
use Rattle.h3_connection.specs.StreamSets.{stream_at}
use Rattle.h3_connection.specs.StrictConnection.{kinds_of}
use Rattle.h3_connection.specs.declared.setup.Announced.{Announced}

abbrev pub section_of_frame : Frame PayloadLen → Option (List ℕ)
section_of_frame (frame.Headers bytes) = Some bytes
section_of_frame _ = None

abbrev pub section_in : Front → Option (List ℕ)
section_in (Whole f rest) = section_of_frame f
section_in _ = None

-- the section that waits, or that of the next frame that gives something
abbrev pub next_section : Announced → Incoming → Option (List ℕ) → Option (List ℕ)
next_section own i (Some bytes) = Some bytes
next_section own i None = section_in (frame_by (kinds_of own) (skipped (kinds_of own) (is_body i.place) (concat i.unread)))

abbrev pub decoded_fields : DecodedSection → Option (List Field)
decoded_fields (Fields fields count) = Some fields
decoded_fields _ = None

-- its fields, in their order
abbrev pub fields_in : DecoderState → Option (List ℕ) → Option (List Field)
fields_in r None = None
fields_in r (Some bytes) = decoded_fields (decode_section r bytes)

abbrev pub fields_next : Announced → DecoderState → Incoming → Option (List Field)
fields_next own r i = fields_in r (next_section own i i.section)

abbrev pub fields_there : Announced → DecoderState → Option Incoming → Option (List Field)
fields_there own r None = None
fields_there own r (Some i) = fields_next own r i

-- the list that came next on a stream, whatever is kept
abbrev pub fields_of_kind : EndpointHistory → ℕ → Kind → Option (List Field)
fields_of_kind e id Request = fields_there e.announced e.decoding.decoder (stream_at e.incoming id)
fields_of_kind e id _ = None

abbrev pub fields_item : EndpointHistory → ℕ → Option (List Field)
fields_item e id = fields_of_kind e id (kind_of e.side id)

-- behind what is kept, unless the answer is settled
abbrev pub fields_behind : List Arrival → EndpointHistory → ℕ → Option (List Field)
fields_behind [] e id = fields_item e id
fields_behind (k ∷ kept) e id = if settles e id then fields_item e id else fields_item (read_all (k ∷ kept) (unkept e)).0 id

-- an answer without a header
abbrev pub HasNoHeader : Pull → Type 0
HasNoHeader (pull.Item (item.Interim head)) = ⊥
HasNoHeader (pull.Item (item.Head head)) = ⊥
HasNoHeader (pull.Item (item.Trailer head)) = ⊥
HasNoHeader _ = Unit {0}
