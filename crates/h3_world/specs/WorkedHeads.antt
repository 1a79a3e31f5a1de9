-- What the worked schedules are made of.
use Rattle.std.specs.Prelude.{ℕ, ◌-◌, ◌^◌, List, [], ◌∷◌, codes, Some, None}
use Rattle.http_header.specs.FieldValue.{plain_value}
use Rattle.http_header.specs.HeaderMap.{append}
use Rattle.h3_header.specs.Head.{Head as Fields, trailer_head, response_head}
use Rattle.h3_proto.specs.Config.{no_choices}
use Rattle.h3_proto.specs.declared.stream.Side.{Side}
use Rattle.h3_connection.specs.declared.setup.Announced.{Announced}
use Rattle.h3_world.specs.Setup.{Setup}
use Rattle.h3_world.specs.declared.event.Event.{Event}
use Rattle.h3_world.specs.declared.event.Answer.{Answer}
use Rattle.h3_world.specs.Flow.{flow_bytes}
use Rattle.h3_world.specs.World.{empty_world, party}
use Rattle.h3_world.specs.OwnStreams.{encoder_stream, decoder_stream}
use Rattle.h3_world.specs.Streams.{flow}
use Rattle.h3_world.specs.Machine.{answers_from, world_after}

-- a side with this section size, and these limits of its decoder
abbrev pub plain : ℕ → ℕ → ℕ → Announced
plain section table blocked =
    record {
      settings = (6, section) ∷ (8, 0) ∷ (0x2b603742, 0) ∷ (0x33, 0) ∷ (0x2b603743, 0) ∷ (1, table) ∷ (7, blocked) ∷ [];
      limits = record { table = table; blocked = blocked };
      choices = no_choices;
      remembered = None;
    }

abbrev pub between : Announced → Announced → Setup
between client server = record { client = client; server = server }

-- both take sections of 1000 bytes, and the decoders have these limits
abbrev pub no_tables : Setup
no_tables = between (plain 1000 0 0) (plain 1000 0 0)

abbrev pub of_client : ℕ → ℕ → Setup
of_client table blocked = between (plain 1000 table blocked) (plain 1000 0 0)

abbrev pub of_server : ℕ → ℕ → Setup
of_server table blocked = between (plain 1000 0 0) (plain 1000 table blocked)

-- the client takes sections of this size
abbrev pub small_client : ℕ → Setup
small_client section = between (plain section 0 0) (plain 1000 0 0)

abbrev pub answers : Setup → List Event → List Answer
answers setup events = answers_from setup (empty_world setup) events

-- what the side has written on a stream once all of that has happened
abbrev pub written : Setup → List Event → Side → ℕ → List ℕ
written setup events side id = flow_bytes (flow (world_after setup (empty_world setup) events) side id)

abbrev pub written_by_encoder : Setup → List Event → Side → List ℕ
written_by_encoder setup events side = encoder_stream (party (world_after setup (empty_world setup) events) side)

abbrev pub written_by_decoder : Setup → List Event → Side → List ℕ
written_by_decoder setup events side = decoder_stream (party (world_after setup (empty_world setup) events) side)

-- heads of responses, without regular fields, and with one
abbrev pub status : ℕ → Fields
status number = response_head number []

abbrev pub with_one : ℕ → List ℕ → List ℕ → Fields
with_one number name value = response_head number (append [] name (plain_value value))

abbrev pub trailer_of : List ℕ → List ℕ → Fields
trailer_of name value = trailer_head (append [] name (plain_value value))

abbrev pub x_a : ℕ → Fields
x_a number = with_one number (codes "x-a") (codes "1")

abbrev pub x_b : ℕ → Fields
x_b number = with_one number (codes "x-b") (codes "2")

-- a request of a path at www.example.com
abbrev pub get : List ℕ → Fields
get path = record (trailer_head []) {
  method = Some (codes "GET");
  scheme = Some (codes "https");
  authority = Some (codes "www.example.com");
  path = Some path;
}

abbrev pub home : Fields
home = get (codes "/")

abbrev pub sample : Fields
sample = get (codes "/sample/path")

-- the greatest section size
abbrev pub greatest_section : ℕ
greatest_section = 2 ^ 62 - 1

-- the strings `www.example.com` and `/sample/path` as they are written (RFC 9204, section 4.1.2)
abbrev pub authority_literal : List ℕ
authority_literal = 140 ∷ 241 ∷ 227 ∷ 194 ∷ 229 ∷ 242 ∷ 58 ∷ 107 ∷ 160 ∷ 171 ∷ 144 ∷ 244 ∷ 255 ∷ []

abbrev pub path_literal : List ℕ
path_literal = 137 ∷ 97 ∷ 3 ∷ 166 ∷ 186 ∷ 10 ∷ 197 ∷ 99 ∷ 76 ∷ 255 ∷ []
