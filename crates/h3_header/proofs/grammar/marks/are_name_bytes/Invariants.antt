use Rattle.std.specs.Prelude.{◌≡◌, take}
use Rattle.h3_header.specs.HeadTests.{is_name_byte}
use Rattle.h3_header.proofs.MarkLaws.{marked}
use Rattle.h3_header.proofs.grammar.marks.are_name_bytes.Given as goal

abbrev pub invariant-bytes : goal.invariant-bytes
invariant-bytes l = l.all ≡ marked is_name_byte (take l.byte-index l.text)
