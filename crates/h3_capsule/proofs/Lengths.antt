-- How long what is written is at most.
use Rattle.std.proofs.Common.{ℕ, ◌/◌, ◌^◌, ◌<◌, ◌≤◌, length, arith, length-append}
use Rattle.h3_coding.specs.Encodings.{encoding}
use Rattle.h3_coding.specs.EncodingLaws.{encoding_is_valid}
use Rattle.h3_capsule.specs.Capsule.{capsule_head}
use Rattle.h3_capsule.specs.Datagram.{datagram_head}
use Rattle.h3_capsule.proofs.Heads.{most}

of_number : (n : ℕ) → n < 2 ^ 62 → length (encoding n) ≤ 8
of_number n h = most n (encoding n) (encoding_is_valid n h)

pub of_capsule : (kind len : ℕ) → kind < 2 ^ 62 → len < 2 ^ 62 → length (capsule_head kind len) ≤ 16
of_capsule kind len h k = omega (arith, of_number kind h, of_number len k, length-append (encoding kind) (encoding len))

pub of_datagram : (id : ℕ) → id < 2 ^ 62 → length (datagram_head id) ≤ 8
of_datagram id h = of_number (id / 4) (omega arith)
