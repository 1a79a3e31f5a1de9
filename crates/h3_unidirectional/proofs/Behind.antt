-- What an encoder writes behind all bytes it writes behind those that wait.
use Rattle.std.proofs.Common.{◌≡◌, ℕ, ◌-◌, List, length, drop}
use Rattle.h3_field.specs.Field.{Field}
use Rattle.h3_qpack.specs.Drafting.{IsSent}
use Rattle.h3_qpack.specs.EncoderHistory.{EncoderHistory}
use Rattle.h3_qpack.specs.EncoderState.{EncoderState}
use Rattle.h3_unidirectional.specs.WaitingLaws.{behind_all}

pub sent_behind : (s : EncoderHistory) (stream : ℕ) (fields : List Field) (count : ℕ) (t : EncoderState) (before encoded items waits after : List ℕ) → drop (length items - length waits) items ≡ waits
    → IsSent s stream fields count t before encoded items after → IsSent s stream fields count t before encoded waits (drop (length items - length waits) after)
sent_behind s stream fields count t before encoded items waits after front h =
    record {
      stores = h.stores;
      count_is = h.count_is;
      are_bytes = h.are_bytes;
      encoded_is = h.encoded_is;
      instructions_are = behind_all waits items after _ front h.instructions_are;
    }
