-- What a call leaves that was refused memory, and what then counts as not delivered.
use Rattle.std.specs.Prelude.{ℕ, min, List, ◌++◌}
use Rattle.h3_field.specs.Field.{Field}
use Rattle.h3_proto.specs.declared.stream.Side.{Side}
use Rattle.h3_connection.specs.Sections.{having_inserted, own_instructions}
use Rattle.h3_world.specs.World.{World, Party, party, with_party}

-- the side after the insertions for some fields, whose section was not written
abbrev pub having_inserted_for : Party → ℕ → List Field → Party
having_inserted_for p id fields =
    record {
      own = record p.own { instructions = p.own.instructions ++ own_instructions p.encoder id fields };
      encoder = having_inserted p.encoder id fields;
    }

abbrev pub with_insertions : World → Side → ℕ → List Field → World
with_insertions w side id fields = with_party w side (having_inserted_for (party w side) id fields)

-- What a decoder wrote before its side's settings came is not read before these (RFC 9204, section 3.2.3): so it may count as not
-- delivered, but for the type of its stream.
abbrev pub with_replies_held : Party → Party
with_replies_held p = record p { own = record p.own { decoder_taken = min 1 p.own.decoder_taken } }

abbrev pub held_back : World → Side → World
held_back w writer = with_party w writer (with_replies_held (party w writer))
