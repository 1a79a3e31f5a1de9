-- What the other side has read of a side's control, encoder and decoder streams: the whole frames and instructions of what was
-- delivered.
use Rattle.std.specs.Prelude.{ℕ, ◌-◌, Bool, List, [], length, take, nat_le, if◌then◌else◌, Option, Some, None}
use Rattle.h3_field.specs.Instruction.{EncoderInstruction, DecoderInstruction, encoder_bytes}
use Rattle.h3_qpack.specs.WholeInstructions.{whole_in, insertions_in, decoder_instructions_in}
use Rattle.h3_qpack.specs.DecoderState.{DecoderState, decoder_after_all}
use Rattle.h3_proto.specs.declared.stream.Side.{Side}
use Rattle.h3_connection.specs.Endpoint.{goaway_encoding, first_decoder}
use Rattle.h3_connection.specs.OwnIds.{other}
use Rattle.h3_world.specs.Setup.{Setup, announced_at}
use Rattle.h3_world.specs.World.{World, Party, party}
use Rattle.h3_world.specs.OwnStreams.{settings_bytes}

-- whether the settings of the side came, to their end
abbrev pub settings_came : Setup → World → Side → Bool
settings_came setup w side = nat_le (length (settings_bytes (announced_at setup side))) (party w side).own.control_taken

-- the settings that the side knows of the other side
abbrev pub settings_known : Setup → World → Side → Option (List (ℕ × ℕ))
settings_known setup w side = if settings_came setup w (other side) then Some (announced_at setup (other side)).settings else None

-- the GOAWAY frames of the side that came
abbrev pub goaways_came : Setup → World → Side → List ℕ
goaways_came setup w side =
    let own = (party w side).own in
    take (whole_in goaway_encoding (own.control_taken - length (settings_bytes (announced_at setup side))) own.goaways) own.goaways

-- the encoder instructions of the side that came, behind the type of the stream
abbrev pub instructions_came : Party → List EncoderInstruction
instructions_came p = take (whole_in encoder_bytes (p.own.encoder_taken - 1) p.own.instructions) p.own.instructions

-- how many insertions came (RFC 9204, section 2.1.1)
abbrev pub insertions_came : Party → ℕ
insertions_came p = insertions_in (p.own.encoder_taken - 1) p.own.instructions

-- The decoder instructions of the side that the other side's encoder has read. It reads them once it knows the side's settings.
abbrev pub replies_read : Setup → World → Side → List DecoderInstruction
replies_read setup w side =
    if settings_came setup w side then decoder_instructions_in ((party w side).own.decoder_taken - 1) (party w side).own.replies else []

-- the side's decoder, as the instructions that came leave it
abbrev pub decoder_at : Setup → World → Side → Option DecoderState
decoder_at setup w side =
    decoder_after_all (Some (first_decoder (announced_at setup side))) (instructions_came (party w (other side)))
