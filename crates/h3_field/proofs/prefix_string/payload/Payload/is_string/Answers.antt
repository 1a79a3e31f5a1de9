use Rattle.std.proofs.Common.{sym}
use Rattle.h3_field.proofs.Strings.{plain_some}
use Rattle.h3_field.proofs.prefix_string.payload.Payload.is_string.Goals as goal

pub returns-then-not-self : goal.returns-then-not-self
returns-then-not-self c = rw (c.if-not-self.true, ← c.self.view_is) (sym (plain_some _ c.if-not-self.true c.are_bytes.ensures))
