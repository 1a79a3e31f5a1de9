use Rattle.std.proofs.Common.{ap, codes}
use Rattle.h3_frames.specs.Encoded.{head_encoding, front_of}
use Rattle.h3_frames.specs.WritesLaws.{on_err, on_err_then, begins_with, begins_behind}
use Rattle.h3_frames.proofs.proto.frame.Frame.encode_front.Goals as goal

pub returns-in_err-write_head-in-Grease-clause-err : goal.returns-in_err-write_head-in-Grease-clause-err
returns-in_err-write_head-in-Grease-clause-err g c =
    on_err _ (begins_with (codes "grease") (ap (front_of g.B.Buf.unread) c.in-Grease.is) c.in_err-write_head-in-Grease.ensures.err)

pub returns-in_ok-write_head-in-Grease-clause-err : goal.returns-in_ok-write_head-in-Grease-clause-err
returns-in_ok-write_head-in-Grease-clause-err g c =
    on_err_then _ (λ p. begins_behind (head_encoding c.in-Grease.kind 6) (ap (front_of g.B.Buf.unread) c.in-Grease.is) c.in_ok-write_head-in-Grease.ensures.ok p) c.write_bytes.ensures.err
