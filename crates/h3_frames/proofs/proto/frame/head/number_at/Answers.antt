use Rattle.std.proofs.Common.{arith}
use Rattle.h3_frames.proofs.Heads.{one_byte, two_bytes}
use Rattle.h3_frames.proofs.proto.frame.head.number_at.Goals as goal

pub returns-then-first-lt64-clause-number : goal.returns-then-first-lt64-clause-number
returns-then-first-lt64-clause-number c = one_byte _ c.args.bytes.now (omega arith) (omega arith) (omega arith)

pub returns-then-first-lt128-clause-number : goal.returns-then-first-lt128-clause-number
returns-then-first-lt128-clause-number c = two_bytes _ c.from-first.result c.from.result c.args.bytes.now (omega arith) (omega arith) (omega arith) (omega arith) (omega arith) (omega arith)
