use Rattle.std.proofs.Common.{◌≡◌, ◌∷◌, drop, arith}
use Rattle.std.specs.Prelude.{slice_index}
use Rattle.h3_coding.proofs.Varints.{first_of, unfinished_at}
use Rattle.h3_coding.proofs.varint.VarInt.take_unfinished.Goals as goal

pub returns-clause-why : goal.returns-clause-why
returns-clause-why g c =
    let all = g.B.Buf.unread c.args.buf.now in
    let first = slice_index c.chunk-bytes.result.now 0 in
    let here : all ≡ first ∷ drop 1 all = first_of _ _ c.chunk-bytes.ensures (omega arith) in
    let parts : all ≡ first ∷ g.B.Buf.unread c.advance.new.self = cc in
    unfinished_at first _ _ _ c.form_of-count.ensures.byte parts c.requires c.form_of-count.ensures.value
