use Rattle.std.proofs.Common.{sym, append_assoc, length}
use Rattle.h3_coding.specs.Encodings.{encoding}
use Rattle.h3_frames.specs.Encoded.{head_encoding, promise_payload}
use Rattle.h3_frames.specs.WritesLaws.{on_err, begins_with}
use Rattle.h3_frames.proofs.proto.frame.encode.write_promise.Goals as goal

pub returns-in_err-write_promise_front-clause-err : goal.returns-in_err-write_promise_front-clause-err
returns-in_err-write_promise_front-clause-err g c =
    let p = c.args.promise.now in
    on_err _ (begins_with p.section (sym (append_assoc (head_encoding 5 (length (promise_payload p))) (encoding p.id) p.section)) c.in_err-write_promise_front.ensures.err)
