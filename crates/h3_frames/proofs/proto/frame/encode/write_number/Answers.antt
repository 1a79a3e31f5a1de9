use Rattle.std.proofs.Common.{◌++◌, ap, sym}
use Rattle.h3_coding.specs.Encodings.{encoding}
use Rattle.h3_frames.specs.Encoded.{head_encoding}
use Rattle.h3_frames.specs.WritesLaws.{on_err, begins_with}
use Rattle.h3_frames.proofs.proto.frame.encode.write_number.Goals as goal

pub returns-in_err-write_head-clause-err : goal.returns-in_err-write_head-clause-err
returns-in_err-write_head-clause-err g c =
    on_err _ (begins_with (encoding c.args.number) (ap (λ n. head_encoding c.args.kind n ++ encoding c.args.number) (sym c.size.ensures.value)) c.in_err-write_head.ensures.err)
