use Rattle.std.proofs.Common.{◌≤◌, length}
use Rattle.h3_qpack.specs.Instructions.{HasRead}
use Rattle.h3_qpack.proofs.decoder.Decoder.take_instructions.Given as goal

abbrev pub invariant-loop-self : goal.invariant-loop-self
invariant-loop-self l = HasRead l.initial.self l.self l.initial.buf l.buf × (l.initial.self.table.inserted ≤ l.self.table.inserted)

abbrev pub decreases-loop-self : goal.decreases-loop-self
decreases-loop-self l = length l.buf
