use Rattle.std.proofs.Common.{◌++◌, ap, sym}
use Rattle.h3_proto.specs.Pairs.{payload_of}
use Rattle.h3_frames.specs.Encoded.{head_encoding}
use Rattle.h3_frames.specs.WritesLaws.{on_err, on_err_then, begins_with, begins_behind}
use Rattle.h3_frames.proofs.proto.frame.encode.write_settings.Goals as goal

pub returns-in_err-write_head-clause-err : goal.returns-in_err-write_head-clause-err
returns-in_err-write_head-clause-err g c =
    let payload = payload_of c.args.settings.now in
    on_err _ (begins_with payload (ap (λ n. head_encoding 4 n ++ payload) (sym c.requires.payload)) c.in_err-write_head.ensures.err)

pub returns-clause-err : goal.returns-clause-err
returns-clause-err g c =
    let payload = payload_of c.args.settings.now in
    on_err_then _ (λ p. begins_behind (head_encoding 4 c.args.len) (ap (λ n. head_encoding 4 n ++ payload) (sym c.requires.payload)) c.in_ok-write_head.ensures.ok p) c.write_payload.ensures.err
