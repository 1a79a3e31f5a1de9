use Rattle.std.proofs.Common.{refl, arith}
use Rattle.h3_header.specs.HeadTests.{is_host_byte}
use Rattle.h3_header.specs.declared.grammar.marks.TheConstants.{HOST_BYTES}
use Rattle.h3_header.proofs.MarkLaws.{IsTable, entry}
use Rattle.h3_header.proofs.grammar.marks.host_mark.Goals as goal

table : IsTable is_host_byte HOST_BYTES
table = refl

pub returns : goal.returns
returns c = rw c.from.ensures (entry is_host_byte HOST_BYTES c.args.byte 0 table (omega arith))
