use Rattle.h3_qpack.proofs.FieldsIn.{section_asks}
use Rattle.h3_qpack.proofs.decoder.Decoder.decode_header.Goals as goal

pub returns-in_default-clause-memory : goal.returns-in_default-clause-memory
returns-in_default-clause-memory c = λ same.
    let m = rw (c.new-ahead.ensures, c.chunk.ensures) at c.in-Ok.ensures.ok in
    section_asks _ _ m.0 _ m.1 c.in_default.ensures.err
