use Rattle.std.proofs.Common.{◌≡◌, ◌+◌, ◌-◌, ◌*◌, ◌^◌, ◌≤◌, take, fold}
use Rattle.h3_priority.proofs.item.number_of.Given as goal

abbrev pub invariant-loop-digit : goal.invariant-loop-digit
invariant-loop-digit l = record {
  value : l.number ≡ fold (λ n b. n * 10 + (b - 48)) 0 (take l.digit-index l.digits);
  below : l.number + 23 ≤ 23 * 10 ^ l.digit-index;
}
