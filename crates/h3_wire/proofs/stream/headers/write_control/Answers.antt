use Rattle.std.proofs.Common.{◌≤◌, refl, length, length-append, arith, subst}
use Rattle.h3_coding.specs.Encodings.{encoding}
use Rattle.h3_proto.specs.Pairs.{payload_of}
use Rattle.h3_frames.specs.Encoded.{frame_encoding, head_encoding}
use Rattle.h3_frames.specs.WritesLaws.{on_err, on_err_then, begins_with, begins_behind}
use Rattle.h3_frames.specs.EncodedLaws.{length-encoding, length-head}
use Rattle.h3_wire.proofs.stream.headers.write_control.Goals as goal

pub returns-in_err-write_type-clause-err : goal.returns-in_err-write_type-clause-err
returns-in_err-write_type-clause-err g c = on_err _ (begins_with (frame_encoding 4 (payload_of c.args.settings.now)) refl c.in_err-write_type.ensures.err)

pub returns-in_err-write_type-clause-short : goal.returns-in_err-write_type-clause-short
returns-in_err-write_type-clause-short g c =
    let payload = payload_of c.args.settings.now in
    let few : length payload ≤ 128 = subst (λ n. n ≤ 128) c.payload_len-len.ensures.value c.payload_len-len.ensures.bound in
    omega (arith, few, length-append (encoding 0) (frame_encoding 4 payload), length-append (head_encoding 4 (length payload)) payload, length-encoding 0 (omega arith), length-head 4 (length payload) (omega arith) (omega arith))

pub returns-clause-err : goal.returns-clause-err
returns-clause-err g c = on_err_then _ (λ p. begins_behind (encoding 0) refl c.in_ok-write_type.ensures.ok p) c.write_settings.ensures.err
