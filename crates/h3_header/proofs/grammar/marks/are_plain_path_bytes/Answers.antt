use Rattle.std.proofs.Common.{◌≡◌, get_or, rules}
use Rattle.h3_header.specs.HeadTests.{is_plain_path_byte}
use Rattle.h3_header.proofs.MarkLaws.{mark, marked_more}
use Rattle.h3_header.proofs.grammar.marks.are_plain_path_bytes.Goals as goal

pub bytes-preserved : goal.bytes-preserved
bytes-preserved c =
    let one : c.plain_path_mark-all.result ≡ mark is_plain_path_byte (get_or c.args.text.now c.bytes.byte-index 0) = search rules in
    marked_more is_plain_path_byte c.args.text.now c.bytes.byte-index 0 c.bytes.all c.plain_path_mark-all.result c.bytes-test.true c.bytes.invariant one
