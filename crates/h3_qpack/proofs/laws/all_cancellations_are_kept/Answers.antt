use Rattle.h3_field.specs.Instruction.{DecoderInstruction}
use Rattle.h3_field.specs.Instruction.DecoderInstruction.{Acknowledge, CancelStream, Increment}
use Rattle.h3_table.specs.Cancellations.{KeepsAll}
use Rattle.h3_qpack.specs.EncoderHistory.{EncoderHistory, encoder_after, released, without_stream}
use Rattle.h3_qpack.proofs.Cancellations.{is_among, all_canceled, all_same, all_still, all_more}
use Rattle.h3_qpack.proofs.laws.all_cancellations_are_kept.Goals as goal

still : (s : EncoderHistory) (i : DecoderInstruction) → KeepsAll s.canceled → KeepsAll (encoder_after s i).canceled
still s (Acknowledge stream) all = all
still s (CancelStream stream) all = all_still s.canceled stream all
still s (Increment count) all = all

pub returns-clause-canceled : goal.returns-clause-canceled
returns-clause-canceled c = λ s stream other all. all_canceled s.canceled stream other (is_among other (without_stream stream s.tracked)) (is_among other s.tracked) all

pub returns-clause-acknowledged : goal.returns-clause-acknowledged
returns-clause-acknowledged c = λ s stream other all. all_same s.canceled other (is_among other (released stream s.tracked)) (is_among other s.tracked) all

pub returns-clause-stays : goal.returns-clause-stays
returns-clause-stays c = λ s i all. still s i all

pub returns-clause-kept : goal.returns-clause-kept
returns-clause-kept c = λ a stream all. all_more a stream all
