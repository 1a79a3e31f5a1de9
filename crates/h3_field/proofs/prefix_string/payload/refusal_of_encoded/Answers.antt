use Rattle.std.proofs.Common.{sym}
use Rattle.h3_field.proofs.Strings.{stands_none}
use Rattle.h3_field.proofs.prefix_string.payload.refusal_of_encoded.Goals as goal

pub returns : goal.returns
returns c = stands_none _ (sym c.if-is_encoding.ensures)
