use Rattle.std.proofs.Common.{ap, ◌∙◌}
use Rattle.std.specs.List.{concat}
use Rattle.h3_frames.specs.PieceLaws.{concat-with_piece}
use Rattle.h3_frames.proofs.buf.BufList+Bytes.keep_reserved.Goals as goal

pub returns-clause-bytes : goal.returns-clause-bytes
returns-clause-bytes c = ap concat c.add.ensures.pieces ∙ concat-with_piece c.args.self.now.pieces c.args.piece
