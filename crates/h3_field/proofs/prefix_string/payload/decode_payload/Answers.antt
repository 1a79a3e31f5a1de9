use Rattle.std.proofs.Common.{sym}
use Rattle.std.proofs.lemmas.Bool.{eqb-true}
use Rattle.h3_field.proofs.Strings.{empty_stands, stands_none}
use Rattle.h3_field.proofs.prefix_string.payload.decode_payload.Goals as goal

pub returns-then-is_empty-clause-answer : goal.returns-then-is_empty-clause-answer
returns-then-is_empty-clause-answer c = empty_stands _ _ (eqb-true _ _ (sym c.if-is_empty.ensures)) c.new.ensures.items

pub returns-in_default-clause-answer : goal.returns-in_default-clause-answer
returns-in_default-clause-answer c = stands_none _ (sym c.if-is_encoding.ensures)
