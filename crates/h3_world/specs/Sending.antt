-- What each accepted call of a sender adds.
use Rattle.std.specs.Prelude.{ℕ, ◌+◌, true, List, [], ◌∷◌, ◌++◌, length, Some, if◌then◌else◌}
use Rattle.h3_field.specs.Field.{Field}
use Rattle.h3_field.specs.Instruction.DecoderInstruction.{CancelStream}
use Rattle.h3_header.specs.Head.{Head as Fields, head_fields}
use Rattle.h3_header.specs.Reads.{head_of_fields}
use Rattle.h3_proto.specs.declared.stream.Side.{Side}
use Rattle.h3_qpack.specs.EncoderHistory.{EncoderHistory, writing_on}
use Rattle.h3_qpack.specs.SectionEncoding.{draft_of, required_insert_count}
use Rattle.h3_qpack.specs.SectionEncoding as section
use Rattle.h3_frames.specs.Encoded.{frame_encoding}
use Rattle.h3_connection.specs.OwnIds.{other}
use Rattle.h3_connection.specs.Pulling.{is_interim}
use Rattle.h3_connection.specs.Sections.{written_section, own_instructions}
use Rattle.h3_connection.specs.declared.event.StreamFault.{StreamFault}
use Rattle.h3_world.specs.Flow.{Flow, Section, Part, flow_bytes}
use Rattle.h3_world.specs.Flow.Part.{Interim, Head, Body, Trailer, End}
use Rattle.h3_world.specs.World.{World, Party, no_exchange, party, with_party}
use Rattle.h3_world.specs.OwnStreams.{encoder_stream}
use Rattle.h3_world.specs.Streams.{flow, with_flow}

-- one more request stream
abbrev pub opened : World → World
opened w = record w { exchanges = w.exchanges ++ no_exchange ∷ [] }

-- the part at the end
abbrev pub appended : Flow → Part → Flow
appended f part = record f { sent = f.sent ++ part ∷ [] }

-- the required insert count of a section on the stream (RFC 9204, section 4.5.1.1)
abbrev pub section_count : EncoderHistory → ℕ → List Field → ℕ
section_count s id fields = required_insert_count (draft_of (writing_on s id) fields)

-- the side after its encoder wrote these fields for the stream
abbrev pub having_encoded : Party → ℕ → List Field → Party
having_encoded p id fields =
    record {
      own = record p.own { instructions = p.own.instructions ++ own_instructions p.encoder id fields };
      encoder = section.sent_section p.encoder id fields;
    }

abbrev pub section_sent : Party → ℕ → List Field → Flow → Section
section_sent p id fields f =
    let encoded = written_section p.encoder id fields in
    record {
      fields = fields;
      encoded = encoded;
      count = section_count p.encoder id fields;
      own_length = length (flow_bytes f) + length (frame_encoding 1 encoded);
      encoder_length = length (encoder_stream (having_encoded p id fields));
    }

-- a head or a trailer went out
abbrev pub with_section : (Section → Part) → World → Side → ℕ → List Field → World
with_section kind w side id fields =
    let p = party w side in
    let f = flow w side id in
    with_flow (with_party w side (having_encoded p id fields)) side id (appended f (kind (section_sent p id fields f)))

abbrev pub sent_head : World → Side → ℕ → Fields → World
sent_head w side id head = with_section (if is_interim head.status then Interim else Head) w side id (head_fields head)

abbrev pub sent_trailer : World → Side → ℕ → Fields → World
sent_trailer w side id trailer = with_section Trailer w side id (head_fields trailer)

-- a list goes out as it is, in its order
abbrev pub sent_fields : World → Side → ℕ → List Field → World
sent_fields w side id fields = with_section (if is_interim (head_of_fields fields).status then Interim else Head) w side id fields

abbrev pub sent_trailer_fields : World → Side → ℕ → List Field → World
sent_trailer_fields w side id fields = with_section Trailer w side id fields

-- nothing is sent of an empty body
abbrev pub sent_body : World → Side → ℕ → List ℕ → World
sent_body w side id [] = w
sent_body w side id (byte ∷ bytes) =
    let f = flow w side id in
    with_flow w side id (appended f (Body (byte ∷ bytes) (length (flow_bytes f) + length (frame_encoding 0 (byte ∷ bytes)))))

abbrev pub finished : World → Side → ℕ → World
finished w side id = with_flow w side id (appended (flow w side id) End)

abbrev pub cut_off : World → Side → ℕ → World
cut_off w side id = with_flow w side id (record (flow w side id) { is_reset = true })

-- The receiver gives the stream up, and its decoder tells the sender's encoder (RFC 9204, section 4.4.2).
abbrev pub given_up : World → Side → ℕ → StreamFault → World
given_up w receiver id fault =
    let p = party w receiver in
    with_flow (with_party w receiver (record p { own = record p.own { replies = p.own.replies ++ CancelStream id ∷ [] } }))
    (other receiver) id (record (flow w (other receiver) id) { fault = Some fault; waits_for = 0 })

-- one more GOAWAY frame
abbrev pub with_goaway : World → Side → ℕ → World
with_goaway w side id =
    let p = party w side in
    with_party w side (record p { own = record p.own { goaways = p.own.goaways ++ id ∷ [] } })
