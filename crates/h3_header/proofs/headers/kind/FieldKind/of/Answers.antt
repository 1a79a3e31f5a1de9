use Rattle.h3_header.proofs.KindLaws.{regular_by_first}
use Rattle.h3_header.proofs.headers.kind.FieldKind.of.Goals as goal

pub returns-then-byte_at-ne58 : goal.returns-then-byte_at-ne58
returns-then-byte_at-ne58 c = regular_by_first c.args.name.now c.byte_at.result c.byte_at.ensures c.if-byte_at-ne58.true
