use Rattle.std.proofs.Common.{ap, ◌∙◌}
use Rattle.h3_qpack.specs.DecodedSection.{with_fields}
use Rattle.h3_qpack.proofs.decoder.Decoder.decode_block_within.Goals as goal

pub returns-in-Ok-take_block-clause-ok : goal.returns-in-Ok-take_block-clause-ok
returns-in-Ok-take_block-clause-ok c =
    let d = c.in-Ok-take_block.ensures.ok in
    let lines = rw c.lines-lines.ensures at d.1 in
    let begins = rw (c.new-ahead.ensures, c.chunk.ensures) at c.in-Ok.ensures.ok in (
      d.0,
      c.in-Ok.found.0,
      begins
          ∙ ap (λ o. with_fields c.in-Ok.found.0 o) lines,
      d.2,
      d.3,
    )

pub returns-in-Err-clause-memory : goal.returns-in-Err-clause-memory
returns-in-Err-clause-memory c = λ same. absurd (c.in-Err.ensures.memory same)

pub returns-in-Err-take_block-clause-memory : goal.returns-in-Err-take_block-clause-memory
returns-in-Err-take_block-clause-memory c = λ same.
    let begins = rw (c.new-ahead.ensures, c.chunk.ensures) at c.in-Ok.ensures.begins in
    let lines = rw c.lines-lines.ensures at (c.in-Err-take_block.ensures.memory same) in
    record {
      rest = c.take_prefix.new.buf;
      count = c.in-Ok.found.0;
      base = c.in-Ok.found.1;
      begins = begins.0;
      received = begins.1;
      lines = lines;
    }
