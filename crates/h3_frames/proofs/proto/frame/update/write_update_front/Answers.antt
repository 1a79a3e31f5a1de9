use Rattle.std.proofs.Common.{◌≡◌, ◌+◌, ◌++◌, ap, ap₂, sym, length, ◌∙◌, length-append, arith}
use Rattle.h3_coding.specs.Encodings.{encoding}
use Rattle.h3_frames.specs.Update.{Update, type_of_update}
use Rattle.h3_frames.specs.Encoded.{head_encoding, update_payload}
use Rattle.h3_frames.specs.WritesLaws.{on_err, begins_with}
use Rattle.h3_frames.proofs.proto.frame.update.write_update_front.Goals as goal

pub returns-in_err-write_head-clause-err : goal.returns-in_err-write_head-clause-err
returns-in_err-write_head-clause-err g c =
    let u = c.args.update.now in
    let kind : c.type_of-kind.result ≡ type_of_update u.is_push = c.type_of-kind.ensures ∙ ap (λ (q : Update). type_of_update q.is_push) c.update.view_is in
    let id : c.size.result ≡ length (encoding u.id) = c.size.ensures.value ∙ ap (λ (q : Update). length (encoding q.id)) c.update.view_is in
    let value : c.len.result ≡ length u.value = c.len.ensures.value ∙ ap (λ (q : Update). length q.value) c.update.view_is in
    let size : length (update_payload u) ≡ c.size.result + c.len.result = omega (arith, id, value, length-append (encoding u.id) u.value) in
    on_err _ (begins_with (encoding u.id) (ap₂ (λ k n. head_encoding k n ++ encoding u.id) (sym kind) size) c.in_err-write_head.ensures.err)
