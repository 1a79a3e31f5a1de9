use Rattle.std.proofs.Common.{[], refl, true, false}
use Rattle.h3_qpack.specs.Instructions.{NoInstruction}
use Rattle.h3_qpack.specs.Hearing.{heard}
use Rattle.h3_qpack.proofs.Ends.{read_to_an_end}
use Rattle.h3_qpack.specs.HearingLaws.{heard_is}
use Rattle.h3_qpack.specs.ReasonLaws.{reason_map}
use Rattle.h3_qpack.proofs.decoder.Decoder.on_encoder_recv.Goals as goal

pub returns-then-is_err-clause-read : goal.returns-then-is_err-clause-read
returns-then-is_err-clause-read c = record { instructions = []; split = NoInstruction _; table = refl }

pub returns-clause-rest : goal.returns-clause-rest
returns-clause-rest c = read_to_an_end _ _ _ _ c.take_instructions-outcome.ensures.read

pub returns-in-Err-clause-rest : goal.returns-in-Err-clause-rest
returns-in-Err-clause-rest c = read_to_an_end _ _ _ _ c.take_instructions-outcome.ensures.read

pub returns-clause-value : goal.returns-clause-value
returns-clause-value c = heard_is _ _ (heard _ _ false) (record { read = c.take_instructions-outcome.ensures.read; stops = c.in_default.ensures.ok })

pub returns-in-Err-clause-bad : goal.returns-in-Err-clause-bad
returns-in-Err-clause-bad c =
    reason_map _ _ c.in-Err.e (λ bad. heard_is _ _ (heard _ _ true) (record { read = c.take_instructions-outcome.ensures.read; stops = bad })) c.in-Err.ensures.err
