use Rattle.std.proofs.Common.{refl}
use Rattle.h3_frames.specs.PieceLaws.{rest_is, rest_same}
use Rattle.h3_frames.proofs.buf.BufList+Bytes.take_var.Goals as goal

pub returns-in-Err-clause-pieces : goal.returns-in-Err-clause-pieces
returns-in-Err-clause-pieces c = rest_is _ _ _ refl (rest_same _ _ refl)
