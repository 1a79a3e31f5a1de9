use Rattle.std.proofs.Common.{rules, ◌≡◌, ap, refl, ◌∙◌}
use Rattle.h3_qpack.specs.DecodedSection.{Fields, with_fields, decode_section, IsRefusalOf}
use Rattle.h3_qpack.proofs.DecodedLaws.{section_of_value, refused_section}
use Rattle.h3_qpack.proofs.decoder.Decoder.decode_block.Goals as goal

is_value : (c : goal.In-Ok-block) → decode_section c.args.self.now c.args.buf.now ≡ Fields c.block.new.block c.in-Ok.found.0
is_value c =
    let lines = rw c.lines-lines.ensures at c.in-Ok-block.ensures.ok.0 in
    let begins = rw (c.new-ahead.ensures, c.chunk.ensures) at c.in-Ok.ensures.ok in
    begins
    ∙ ap (λ o. with_fields c.in-Ok.found.0 o) lines

pub returns-in-Ok-block-clause-ok : goal.returns-in-Ok-block-clause-ok
returns-in-Ok-block-clause-ok c =
    (c.in-Ok.found.0, section_of_value _ _ (Fields c.block.new.block c.in-Ok.found.0) (is_value c), refl, c.in-Ok-block.ensures.ok.1, c.in-Ok-block.ensures.ok.2)

pub returns-in-Ok-block-clause-value : goal.returns-in-Ok-block-clause-value
returns-in-Ok-block-clause-value c = (c.in-Ok.found.0, is_value c, refl)

pub returns-in-Err-clause-err : goal.returns-in-Err-clause-err
returns-in-Err-clause-err c =
    let refused = rw (c.new-ahead.ensures, c.chunk.ensures) at c.in-Err.ensures.err in
    (refused_section _ _ c.in-Err.e refused, refl, search)

pub returns-in-Err-block-clause-err : goal.returns-in-Err-block-clause-err
returns-in-Err-block-clause-err c =
    let refused : IsRefusalOf (decode_section c.args.self.now c.args.buf.now) c.in-Err-block.e = search rules in
    (refused_section _ _ c.in-Err-block.e refused, refl, c.in-Err-block.ensures.err.1)

pub returns-in-Err-block-clause-memory : goal.returns-in-Err-block-clause-memory
returns-in-Err-block-clause-memory c = λ same.
    let begins = rw (c.new-ahead.ensures, c.chunk.ensures) at c.in-Ok.ensures.begins in
    let lines = rw c.lines-lines.ensures at (c.in-Err-block.ensures.memory same) in
    record {
      rest = c.take_prefix.new.buf;
      count = c.in-Ok.found.0;
      base = c.in-Ok.found.1;
      begins = begins.0;
      received = begins.1;
      lines = lines;
    }
