-- What a side has made of the other side's encoder stream.
use Rattle.std.specs.Prelude.{◌≡◌, take, Some}
use Rattle.h3_qpack.specs.DecoderState.{DecoderState}
use Rattle.h3_table.specs.Table.{table}
use Rattle.h3_proto.specs.declared.stream.Side.{Side}
use Rattle.h3_connection.specs.OwnIds.{other}
use Rattle.h3_world.specs.Setup.{Setup}
use Rattle.h3_world.specs.Came.{decoder_at, insertions_came}
use Rattle.h3_world.specs.World.{World, party}

-- Its decoder refused no instruction that came, and holds what the other side's encoder held after as many insertions (RFC 9204, sections
-- 2.2 and 3.2).
pub record HasReadTable (setup : Setup) (w : World) (side : Side) : Type 0 where
  pub decoder : DecoderState
  pub reads : decoder_at setup w side ≡ Some decoder
  pub entries : decoder.table.entries
      ≡ table (party w (other side)).encoder.capacity (take (insertions_came (party w (other side))) (party w (other side)).encoder.inserted)
