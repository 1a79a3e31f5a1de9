-- What a reader is handed out of the next part, once it has come.
use Rattle.std.specs.Prelude.{◌≡◌, ℕ, ◌+◌, ◌-◌, ◌<◌, ◌≤◌, true, List, [], ◌++◌, length, take, drop, ◌==◌, if◌then◌else◌, Option, Some, None}
use Rattle.h3_field.specs.Field.{Field, section_size}
use Rattle.h3_field.specs.Instruction.{DecoderInstruction}
use Rattle.h3_header.specs.Head.{Head as Fields}
use Rattle.h3_header.specs.Reads.{head_of_fields}
use Rattle.h3_proto.specs.declared.stream.Side.{Side}
use Rattle.h3_connection.specs.OwnIds.{other}
use Rattle.h3_connection.specs.Pulling.{acknowledgment}
use Rattle.h3_connection.specs.declared.event.Item.{Item}
use Rattle.h3_connection.specs.declared.event.Item.TheVariants as item
use Rattle.h3_world.specs.Flow.{Flow, Part, Section}
use Rattle.h3_world.specs.Flow.Part.{Interim, Head, Body, Trailer, End}
use Rattle.h3_world.specs.World.{World, party, with_party}
use Rattle.h3_world.specs.Streams.{flow, with_flow}
use Rattle.h3_world.specs.Order.{next_part}

-- The item of a field section at a reader with this section size: the header that these fields are read as, or their size alone (RFC 9114,
-- section 4.2.2).
abbrev pub IsSectionItem : (Fields → Item) → ℕ → List Field → Item → Type 0
IsSectionItem kind most fields (item.TooLarge size) = (size ≡ section_size fields) × (most < section_size fields)
IsSectionItem kind most fields i = (i ≡ kind (head_of_fields fields)) × (section_size fields ≤ most)

-- a section whose own bytes came
abbrev pub SectionHasCome : (Fields → Item) → ℕ → Flow → Section → Item → Type 0
SectionHasCome kind most f s i = (s.own_length ≤ f.delivered) × IsSectionItem kind most s.fields i

-- how many bytes came and were not handed out, of a piece of the body that ends at this length
abbrev pub body_there : Flow → List ℕ → ℕ → ℕ
body_there f bytes own = f.delivered - (own - length bytes + f.body_out)

-- The item is of the next part, which has come.
abbrev pub HasCome : ℕ → Flow → Option Part → Item → Type 0
HasCome most f None i = ⊥
HasCome most f (Some (Interim s)) i = SectionHasCome item.Interim most f s i
HasCome most f (Some (Head s)) i = SectionHasCome item.Head most f s i
HasCome most f (Some (Trailer s)) i = SectionHasCome item.Trailer most f s i
HasCome most f (Some (Body bytes own)) i =
    (count : ℕ) × (0 < count) × (count ≤ body_there f bytes own) × (i ≡ item.Body (take count (drop f.body_out bytes)))
HasCome most f (Some End) i = (f.ended ≡ true) × (i ≡ item.End)

-- a section that named entries is acknowledged (RFC 9204, section 4.4.1)
abbrev pub acknowledgment_of : ℕ → Option Part → List DecoderInstruction
acknowledgment_of id (Some (Interim s)) = acknowledgment id s.count
acknowledgment_of id (Some (Head s)) = acknowledgment id s.count
acknowledgment_of id (Some (Trailer s)) = acknowledgment id s.count
acknowledgment_of id _ = []

-- the flow after so many further bytes of the body
abbrev pub after_piece : Flow → List ℕ → ℕ → Flow
after_piece f bytes count =
    if f.body_out + count == length bytes
    then record f { parts_out = f.parts_out + 1; body_out = 0; waits_for = 0 }
    else record f { body_out = f.body_out + count; waits_for = 0 }

-- the flow after an item of this part
abbrev pub after_item : Flow → Option Part → Item → Flow
after_item f (Some (Body bytes own)) (item.Body piece) = after_piece f bytes (length piece)
after_item f part i = record f { parts_out = f.parts_out + 1; waits_for = 0 }

-- the world after the reader was handed the item
abbrev pub handed_out : World → Side → ℕ → Item → World
handed_out w side id i =
    let f = flow w (other side) id in
    let p = party w side in
    with_flow (with_party w side (record p { own = record p.own { replies = p.own.replies ++ acknowledgment_of id (next_part f) } }))
    (other side) id (after_item f (next_part f) i)
