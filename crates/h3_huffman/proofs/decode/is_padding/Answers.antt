use Rattle.std.proofs.Common.{◌≡◌, ◌^◌, ◌-◌, ◌%◌, ◌*◌, bit_and, eq-eqb}
use Rattle.std.proofs.lemmas.Nat.{one_shl, and_mask}
use Rattle.std.proofs.lemmas.Bool.{eqb-true}
use Rattle.h3_huffman.proofs.Bits.{ones_from, ones_to}
use Rattle.h3_huffman.proofs.decode.is_padding.Goals as goal

pub returns-then-count-lt8 : goal.returns-then-count-lt8
returns-then-count-lt8 c =
    let n = c.args.acc in
    let k = c.args.count in
    let one : 1 * 2 ^ k % 2 ^ 64 ≡ 2 ^ k = one_shl k 64 c.requires in
    let mask : bit_and n (2 ^ k - 1) ≡ n % 2 ^ k = and_mask n k in
    rw (one, mask) (
      λ h. (c.if-count-lt8.true, ones_to k n (eqb-true _ _ h)),
      λ p. eq-eqb _ _ (ones_from k n p.1),
    )
