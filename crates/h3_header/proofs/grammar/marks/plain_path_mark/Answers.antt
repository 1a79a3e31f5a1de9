use Rattle.std.proofs.Common.{refl, arith}
use Rattle.h3_header.specs.HeadTests.{is_plain_path_byte}
use Rattle.h3_header.specs.declared.grammar.marks.TheConstants.{PATH_BYTES}
use Rattle.h3_header.proofs.MarkLaws.{IsTable, entry}
use Rattle.h3_header.proofs.grammar.marks.plain_path_mark.Goals as goal

table : IsTable is_plain_path_byte PATH_BYTES
table = refl

pub returns : goal.returns
returns c = rw c.from.ensures (entry is_plain_path_byte PATH_BYTES c.args.byte 0 table (omega arith))
