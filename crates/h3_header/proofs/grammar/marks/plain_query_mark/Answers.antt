use Rattle.std.proofs.Common.{refl, arith}
use Rattle.h3_header.specs.HeadTests.{is_plain_query_byte}
use Rattle.h3_header.specs.declared.grammar.marks.TheConstants.{QUERY_BYTES}
use Rattle.h3_header.proofs.MarkLaws.{IsTable, entry}
use Rattle.h3_header.proofs.grammar.marks.plain_query_mark.Goals as goal

table : IsTable is_plain_query_byte QUERY_BYTES
table = refl

pub returns : goal.returns
returns c = rw c.from.ensures (entry is_plain_query_byte QUERY_BYTES c.args.byte 0 table (omega arith))
