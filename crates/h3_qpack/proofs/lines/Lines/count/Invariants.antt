use Rattle.std.proofs.Common.{◌≡◌, List, length}
use Rattle.h3_field.specs.Field.{Field}
use Rattle.h3_qpack.specs.Sizes.{counted}
use Rattle.h3_qpack.proofs.FieldsIn.{AreRead, AskAlike}
use Rattle.h3_qpack.proofs.lines.Lines.count.Given as goal

abbrev pub invariant-lines : goal.invariant-lines
invariant-lines l = (fields : List Field) × AreRead l.self.table l.self.base l.initial.buf fields l.buf × (l.count ≡ counted l.name fields) × AskAlike l.self.table l.self.base l.initial.buf l.buf

abbrev pub decreases-lines : goal.decreases-lines
decreases-lines l = length l.buf
