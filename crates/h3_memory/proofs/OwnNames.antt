-- The own streams of a writer, by name: how much of each came, and what is held of it.
use Rattle.std.proofs.Common.{◌≡◌, ℕ, true, List, refl}
use Rattle.h3_proto.specs.declared.stream.Side.{Side}
use Rattle.h3_proto.specs.declared.stream.Side.TheVariants.{Client, Server}
use Rattle.h3_connection.specs.OwnIds.{is_own, control_id, encoder_id, decoder_id}
use Rattle.h3_world.specs.World.{World, party}
use Rattle.h3_memory.specs.Keeping.{Held, came_of, held_of}
use Rattle.h3_memory.proofs.PartsHeld.{holding}

-- the own streams, by name
pub encoder_own : (writer : Side) → is_own writer (encoder_id writer) ≡ true
encoder_own Client = refl
encoder_own Server = refl

pub decoder_own : (writer : Side) → is_own writer (decoder_id writer) ≡ true
decoder_own Client = refl
decoder_own Server = refl

pub control_own : (writer : Side) → is_own writer (control_id writer) ≡ true
control_own Client = refl
control_own Server = refl

pub encoder_came : (w : World) (writer : Side) → came_of w writer (encoder_id writer) ≡ (party w writer).own.encoder_taken
encoder_came w Client = refl
encoder_came w Server = refl

pub decoder_came : (w : World) (writer : Side) → came_of w writer (decoder_id writer) ≡ (party w writer).own.decoder_taken
decoder_came w Client = refl
decoder_came w Server = refl

pub control_came : (w : World) (writer : Side) → came_of w writer (control_id writer) ≡ (party w writer).own.control_taken
control_came w Client = refl
control_came w Server = refl

pub encoder_held : (writer : Side) (held : Held) → held_of writer held (encoder_id writer) ≡ held.encoder
encoder_held Client held = refl
encoder_held Server held = refl

pub decoder_held : (writer : Side) (held : Held) → held_of writer held (decoder_id writer) ≡ held.decoder
decoder_held Client held = refl
decoder_held Server held = refl

pub control_held : (writer : Side) (held : Held) → held_of writer held (control_id writer) ≡ held.control
control_held Client held = refl
control_held Server held = refl

pub encoder_holding : (writer : Side) (held : Held) (xs : List ℕ) → holding writer held (encoder_id writer) xs ≡ record held { encoder = xs }
encoder_holding Client held xs = refl
encoder_holding Server held xs = refl

pub decoder_holding : (writer : Side) (held : Held) (xs : List ℕ) → holding writer held (decoder_id writer) xs ≡ record held { decoder = xs }
decoder_holding Client held xs = refl
decoder_holding Server held xs = refl

pub control_holding : (writer : Side) (held : Held) (xs : List ℕ) → holding writer held (control_id writer) xs ≡ record held { control = xs }
control_holding Client held xs = refl
control_holding Server held xs = refl
