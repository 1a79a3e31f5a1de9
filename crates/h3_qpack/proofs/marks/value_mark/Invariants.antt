use Rattle.std.specs.Prelude.{◌≡◌, ◌<◌, ◌+◌, ◌*◌, ◌%◌, ◌^◌, length, drop, fold}
use Rattle.h3_qpack.specs.Marks.{value_mark}
use Rattle.h3_qpack.proofs.marks.value_mark.Given as goal

abbrev pub invariant-fours : goal.invariant-fours
invariant-fours l = (fold (λ mark byte. (31 * mark + byte) % 2 ^ 32) l.mark l.rest ≡ value_mark l.value) × (l.mark < 2 ^ 32)

abbrev pub decreases-fours : goal.decreases-fours
decreases-fours l = length l.rest

abbrev pub invariant-bytes : goal.invariant-bytes
invariant-bytes l = (fold (λ mark byte. (31 * mark + byte) % 2 ^ 32) l.mark (drop l.byte-index l.byte-items) ≡ value_mark l.value) × (l.mark < 2 ^ 32)
