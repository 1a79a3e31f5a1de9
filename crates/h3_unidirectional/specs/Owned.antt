-- The own control, encoder and decoder streams, by what waits on each.
use Rattle.std.specs.Prelude.{ℕ, List, [], drop, Option, Some, None, if◌then◌else◌, ◌==◌}
use Rattle.h3_coding.specs.Encodings.{encoding}
use Rattle.h3_proto.specs.declared.stream.Side.{Side}
use Rattle.h3_frames.specs.ControlStreams.{control_encoding}
use Rattle.h3_connection.specs.OwnIds.{control_id, encoder_id, decoder_id}
use Rattle.h3_connection.specs.State.{OwnState}
use Rattle.h3_unidirectional.specs.declared.own.OwnStream.{OwnStream}
use Rattle.h3_unidirectional.specs.declared.own.OwnStream.TheVariants.{Control, Encoder, Decoder}

-- what they begin with: their types, and the settings
abbrev pub first_own : List (ℕ × ℕ) → OwnState
first_own pairs = record { control = control_encoding pairs; encoder = encoding 2; decoder = encoding 3 }

-- the own stream of an id
abbrev pub own_stream_of : Side → ℕ → Option OwnStream
own_stream_of side id =
    if id == control_id side then Some Control else (
    if id == encoder_id side then Some Encoder else (
    if id == decoder_id side then Some Decoder else None))

-- what waits on it; on a stream that is no own one nothing does
abbrev pub waiting_of : OwnState → Option OwnStream → List ℕ
waiting_of own None = []
waiting_of own (Some Control) = own.control
waiting_of own (Some Encoder) = own.encoder
waiting_of own (Some Decoder) = own.decoder

abbrev pub waiting_on : OwnState → Side → ℕ → List ℕ
waiting_on own side id = waiting_of own (own_stream_of side id)

-- so many bytes of it are taken
abbrev pub having_taken_of : OwnState → Option OwnStream → ℕ → OwnState
having_taken_of own None count = own
having_taken_of own (Some Control) count = record own { control = drop count own.control }
having_taken_of own (Some Encoder) count = record own { encoder = drop count own.encoder }
having_taken_of own (Some Decoder) count = record own { decoder = drop count own.decoder }

abbrev pub having_taken : OwnState → Side → ℕ → ℕ → OwnState
having_taken own side id count = having_taken_of own (own_stream_of side id) count
