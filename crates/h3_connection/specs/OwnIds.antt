-- The own unidirectional streams of each side.
use Rattle.std.specs.Prelude.{ℕ, Bool, ◌||◌, ◌==◌}
use Rattle.h3_proto.specs.declared.stream.Side.{Side}
use Rattle.h3_proto.specs.declared.stream.Side.TheVariants.{Client, Server}

abbrev pub other : Side → Side
other Client = Server
other Server = Client

abbrev pub control_id : Side → ℕ
control_id Client = 2
control_id Server = 3

abbrev pub encoder_id : Side → ℕ
encoder_id Client = 6
encoder_id Server = 7

abbrev pub decoder_id : Side → ℕ
decoder_id Client = 10
decoder_id Server = 11

abbrev pub is_own : Side → ℕ → Bool
is_own side id = id == control_id side || id == encoder_id side || id == decoder_id side
