use Rattle.std.proofs.Common.{◌≡◌, sym, get_or, rules}
use Rattle.h3_header.specs.HeadTests.{is_name_byte}
use Rattle.h3_header.proofs.MarkLaws.{mark, marked_more}
use Rattle.h3_header.proofs.grammar.marks.are_name_bytes.Goals as goal

pub bytes-preserved : goal.bytes-preserved
bytes-preserved c =
    let one : c.name_mark-all.result ≡ mark is_name_byte (get_or c.args.text.now c.bytes.byte-index 0) = search rules in
    marked_more is_name_byte c.args.text.now c.bytes.byte-index 0 c.bytes.all c.name_mark-all.result c.bytes-test.true c.bytes.invariant one

pub returns-then-is_plain_name : goal.returns-then-is_plain_name
returns-then-is_plain_name c = sym (c.is_plain_name.ensures c.if-is_plain_name.true)
