use Rattle.std.proofs.Common.{refl, arith}
use Rattle.http_header.specs.Token.{is_token_byte}
use Rattle.h3_header.specs.HeadTests.{is_name_byte}
use Rattle.h3_header.specs.declared.grammar.marks.TheConstants.{NAME_BYTES}
use Rattle.h3_header.proofs.MarkLaws.{IsTable, entry}
use Rattle.h3_header.proofs.grammar.marks.name_mark.Goals as goal

table : IsTable is_name_byte NAME_BYTES
unfolding is_token_byte
table = refl

pub returns : goal.returns
returns c = rw c.from.ensures (entry is_name_byte NAME_BYTES c.args.byte 0 table (omega arith))
