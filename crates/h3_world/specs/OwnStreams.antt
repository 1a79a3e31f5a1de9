-- The control, encoder and decoder streams of a side (RFC 9114, section 6.2.1, and RFC 9204, section 4.2): each begins with its
-- type, and is a list of frames or instructions.
use Rattle.std.specs.Prelude.{ℕ, List, ◌++◌, flat_map}
use Rattle.h3_coding.specs.Encodings.{encoding}
use Rattle.h3_field.specs.Instruction.{encoder_bytes, decoder_bytes}
use Rattle.h3_frames.specs.ControlStreams.{control_encoding}
use Rattle.h3_connection.specs.declared.setup.Announced.{Announced}
use Rattle.h3_connection.specs.Endpoint.{goaway_encoding}
use Rattle.h3_world.specs.World.{Party}

-- the type of the control stream and the SETTINGS frame
abbrev pub settings_bytes : Announced → List ℕ
settings_bytes a = control_encoding a.settings

abbrev pub control_stream : Announced → Party → List ℕ
control_stream a p = settings_bytes a ++ flat_map goaway_encoding p.own.goaways

abbrev pub encoder_stream : Party → List ℕ
encoder_stream p = encoding 2 ++ flat_map encoder_bytes p.own.instructions

abbrev pub decoder_stream : Party → List ℕ
decoder_stream p = encoding 3 ++ flat_map decoder_bytes p.own.replies
