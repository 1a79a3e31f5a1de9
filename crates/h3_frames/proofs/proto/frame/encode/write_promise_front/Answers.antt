use Rattle.std.proofs.Common.{◌≡◌, ◌+◌, ◌++◌, ap, length, ◌∙◌, length-append, arith}
use Rattle.h3_coding.specs.Encodings.{encoding}
use Rattle.h3_frames.specs.Promise.{Promise}
use Rattle.h3_frames.specs.Encoded.{head_encoding, promise_payload}
use Rattle.h3_frames.specs.WritesLaws.{on_err, begins_with}
use Rattle.h3_frames.proofs.proto.frame.encode.write_promise_front.Goals as goal

pub returns-in_err-write_head-clause-err : goal.returns-in_err-write_head-clause-err
returns-in_err-write_head-clause-err g c =
    let p = c.args.promise.now in
    let id : c.size.result ≡ length (encoding p.id) = c.size.ensures.value ∙ ap (λ n. length (encoding n)) (c.from-id.ensures.0 ∙ ap (λ (q : Promise). q.id) c.promise.view_is) in
    let section : c.len.result ≡ length p.section = c.len.ensures.value ∙ ap (λ (q : Promise). length q.section) c.promise.view_is in
    let size : length (promise_payload p) ≡ c.size.result + c.len.result = omega (arith, id, section, length-append (encoding p.id) p.section) in
    on_err _ (begins_with (encoding p.id) (ap (λ n. head_encoding 5 n ++ encoding p.id) size) c.in_err-write_head.ensures.err)
