-- What a run answers: in bytes, and told by the fields that were encoded.
use Rattle.std.specs.Prelude.{◌-◌, ◌^◌, ℕ, false, ◌≤◌, List, length, take, ◌++◌, flat_map}
use Rattle.h3_field.specs.Field.{section_size}
use Rattle.h3_field.specs.Instruction.{encoder_bytes}
use Rattle.h3_table.specs.Table.{table}
use Rattle.h3_qpack.specs.EncoderHistory.{blocks_out}
use Rattle.h3_qpack.specs.Session.{Session, IsSound}
use Rattle.h3_qpack.specs.Schedule.{beginning}
use Rattle.h3_qpack.specs.Exchange.{ExchangeHistory, Exchange, start, opening}
use Rattle.h3_qpack.specs.Expected.{Expected}
use Rattle.h3_qpack.specs.declared.session.SessionEvent.{SessionEvent}
use Rattle.h3_qpack.specs.declared.session.SessionAnswer.{SessionAnswer}

-- The events in bytes end in both ends, and the same events as a session in one that is sound, of which no more sections wait than
-- may. Where the bytes of its first n insertions were read, n insertions were: so a section is missing only while its own are not
-- read. No table passes its capacity.
pub record HasAnswered (capacity limit : ℕ) (events : List SessionEvent) (answers : List SessionAnswer) : Type 0 where
  pub end : ExchangeHistory
  pub session : Session
  pub exchange : Exchange (start capacity limit) events answers end
  pub expected : Expected (beginning false (2 ^ 30 - 1) capacity limit) events answers session
  pub sound : IsSound session
  pub within_limit : blocks_out session.encoder ≤ limit
  pub read : (n : ℕ) → n ≤ length session.instructions
      → length (flat_map encoder_bytes (opening capacity ++ take n session.instructions)) ≤ end.encoder_stream.read → n ≤ session.received
  pub encoder_table : section_size (table session.encoder.capacity session.encoder.inserted) ≤ capacity
  pub decoder_table : section_size end.decoder.table.entries ≤ capacity
