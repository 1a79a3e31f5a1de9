use Rattle.std.proofs.Common.{sym, append_assoc, length}
use Rattle.h3_coding.specs.Encodings.{encoding}
use Rattle.h3_frames.specs.Update.{type_of_update}
use Rattle.h3_frames.specs.Encoded.{head_encoding, update_payload}
use Rattle.h3_frames.specs.WritesLaws.{on_err, begins_with}
use Rattle.h3_frames.proofs.proto.frame.update.write_update.Goals as goal

pub returns-in_err-write_update_front-clause-err : goal.returns-in_err-write_update_front-clause-err
returns-in_err-write_update_front-clause-err g c =
    let u = c.args.update.now in
    on_err _ (begins_with u.value (sym (append_assoc (head_encoding (type_of_update u.is_push) (length (update_payload u))) (encoding u.id) u.value)) c.in_err-write_update_front.ensures.err)
