-- A client and a server, and all that was sent between them.
use Rattle.std.specs.Prelude.{List, []}
use Rattle.h3_proto.specs.declared.stream.Side.{Side}
use Rattle.h3_proto.specs.declared.stream.Side.TheVariants.{Client, Server}
use Rattle.h3_qpack.specs.EncoderHistory.{EncoderHistory}
use Rattle.h3_connection.specs.Endpoint.{Own, first_encoder}
use Rattle.h3_connection.specs.declared.setup.Announced.{Announced}
use Rattle.h3_world.specs.Setup.{Setup}
use Rattle.h3_world.specs.Flow.{Flow, unused}

-- A side: what it wrote on its control, encoder and decoder streams with how many bytes of each were delivered, and what its
-- encoder goes by.
pub record Party : Type 0 where
  pub own : Own
  pub encoder : EncoderHistory

-- both directions of a request stream
pub record Exchange : Type 0 where
  pub request : Flow
  pub response : Flow

pub record World : Type 0 where
  pub client : Party
  pub server : Party
  -- in the order of their ids 0, 4, 8, ..
  pub exchanges : List Exchange

abbrev pub silent : Announced → Party
silent announced =
    record {
      own = record { further = []; goaways = []; updates = []; control_taken = 0; instructions = []; encoder_taken = 0; replies = []; decoder_taken = 0 };
      encoder = first_encoder announced;
    }

abbrev pub no_exchange : Exchange
no_exchange = record { request = unused; response = unused }

-- before anything
abbrev pub empty_world : Setup → World
empty_world setup = record { client = silent setup.client; server = silent setup.server; exchanges = [] }

abbrev pub party : World → Side → Party
party w Client = w.client
party w Server = w.server

abbrev pub with_party : World → Side → Party → World
with_party w Client p = record w { client = p }
with_party w Server p = record w { server = p }
