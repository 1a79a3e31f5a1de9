use Rattle.std.proofs.Common.{sym, ◌∙◌}
use Rattle.std.specs.List.{concat}
use Rattle.h3_frames.proofs.SessionFrames.{plain_by, sessions_by}
use Rattle.h3_frames.proofs.SuitingKinds.{is_nothing}
use Rattle.h3_frames.proofs.frame.decoder.passed_size.Goals as goal

pub returns-then-kinds-clause-none : goal.returns-then-kinds-clause-none
returns-then-kinds-clause-none c = λ none. sessions_by c.args.kinds (concat c.args.src.now.pieces) c.if-kinds.true

pub returns-clause-none : goal.returns-clause-none
returns-clause-none c = λ none. plain_by c.args.kinds (concat c.args.src.now.pieces) (sym c.unknown_size.ensures ∙ is_nothing c.unknown_size.result none)
