use Rattle.std.proofs.Common.{◌≡◌, ◌≤◌, length}
use Rattle.h3_qpack.specs.Sizes.{told_size}
use Rattle.h3_qpack.proofs.FieldsIn.{AreRead, AskAlike}
use Rattle.h3_qpack.proofs.lines.Lines.block_within.Given as goal

abbrev pub invariant-lines : goal.invariant-lines
invariant-lines l =
    AreRead l.self.table l.self.base l.initial.ahead l.block l.ahead × (l.mem_size ≡ told_size l.block) × (l.mem_size ≤ l.max)
    × (l.buf ≡ l.initial.buf) × AskAlike l.self.table l.self.base l.initial.ahead l.ahead

abbrev pub decreases-lines : goal.decreases-lines
decreases-lines l = length l.ahead
