-- What waits on the own streams, as texts of a history.
use Rattle.std.proofs.Common.{ℕ, ◌+◌, List, ◌++◌, flat_map, ◌≡◌, drop}
use Rattle.h3_connection.specs.Endpoint.{EndpointHistory}
use Rattle.h3_connection.specs.OwnSettings.{control_start}
use Rattle.h3_connection.specs.OwnUpdates.{control_frames}
use Rattle.h3_coding.specs.Encodings.{encoding}
use Rattle.h3_field.specs.Instruction.{encoder_bytes, decoder_bytes}
use Rattle.h3_connection.specs.State.{OwnState}

-- the texts of the own streams
abbrev pub control_text : EndpointHistory → List ℕ
control_text e = control_start e.announced.settings e.own.further ++ control_frames 0 e.own.goaways e.own.updates

abbrev pub encoder_text : EndpointHistory → List ℕ
encoder_text e = encoding 2 ++ flat_map encoder_bytes e.own.instructions

abbrev pub decoder_text : EndpointHistory → List ℕ
decoder_text e = encoding 3 ++ flat_map decoder_bytes e.own.replies

-- each stream by itself
pub record Stands (own : OwnState) (e : EndpointHistory) : Type 0 where
  pub control : own.control ≡ drop e.own.control_taken (control_text e)
  pub encoder : own.encoder ≡ drop e.own.encoder_taken (encoder_text e)
  pub decoder : own.decoder ≡ drop e.own.decoder_taken (decoder_text e)
