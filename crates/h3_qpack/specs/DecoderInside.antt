-- What the fields of `Decoder` stand for.
use Rattle.std.specs.Prelude.{◌<◌, ◌≤◌, ◌-◌, ◌^◌, unwrap_or}
use Rattle.h3_qpack.specs.DecoderState.{DecoderState}
use Rattle.h3_qpack.specs.declared.decoder.Decoder.TheInside.{Inside}

abbrev pub decoder_state_inside : Inside → DecoderState
decoder_state_inside d = record { announced = d.announced; checks_count = d.checks_count; table = d.entries }

-- The table has at most the capacity that was announced.
pub record IsDecoder (d : Inside) : Type 0 where
  pub small : unwrap_or d.announced (2 ^ 30 - 1) < 2 ^ 30
  pub within : d.entries.capacity ≤ unwrap_or d.announced (2 ^ 30 - 1)
