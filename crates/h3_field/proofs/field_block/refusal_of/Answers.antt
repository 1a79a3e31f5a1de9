use Rattle.std.proofs.Common.{sym}
use Rattle.h3_field.proofs.Strings.{stands_none}
use Rattle.h3_field.proofs.field_block.refusal_of.Goals as goal

pub returns : goal.returns
returns c = stands_none _ (sym c.if-is_string.ensures)
